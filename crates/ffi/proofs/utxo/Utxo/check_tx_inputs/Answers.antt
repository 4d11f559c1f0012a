-- What a transaction breaks by itself comes first.
use Rattle.std.proofs.Common.{rules, ◌≡◌, ℕ, ℤ, Result, Ok, Err, Option, None, Some, is_some, false, IfOk, IfErr, sym, ap, subst, ◌∙◌}
use Rattle.std.specs.Option.{option_or}
use Rattle.std.specs.Result.{result_err}
use Rattle.txn.specs.declared.reason.Reason.{Reason}
use Rattle.txn.specs.Tx.{Tx}
use Rattle.txn.specs.Check.{tx_rules}
use Rattle.txn.specs.First.{first_broken}
use Rattle.txn.specs.laws.First.{first_of_both}
use Rattle.coins.specs.Coins.{Coins}
use Rattle.connect.specs.BlockContext.{Setting}
use Rattle.connect.specs.Turns.{turn}
use Rattle.connect.specs.Faults.{input_rules}
use Rattle.ffi.specs.Utxo.{tx_fault}
use Rattle.ffi.specs.UtxoState.{UtxoState}
use Rattle.ffi.proofs.Slots.{empty}
use Rattle.ffi.proofs.utxo.Utxo.check_tx_inputs.Goals as goal

module _ (m : Coins) (tx : Tx) where
  -- the rules of a transaction, behind those that it breaks by itself
  over : (s : Setting) (o : Option Reason) → first_broken (tx_rules tx) ≡ o → tx_fault s m tx ≡ option_or o (first_broken (input_rules s (turn tx m 0)))
  over s o is = first_of_both (tx_rules tx) (input_rules s (turn tx m 0)) ∙ ap (λ x. option_or x (first_broken (input_rules s (turn tx m 0)))) is

  told : {E : Type 0} (height : ℕ) (r : Result (Result ℤ Reason) E) → first_broken (tx_rules tx) ≡ None
      → IfOk r (λ answer. (s : Setting) → s.height ≡ height → IfErr answer (λ reason. first_broken (input_rules s (turn tx m 0)) ≡ Some reason))
      → IfOk r (λ answer. (s : Setting) → s.height ≡ height → IfOk answer (λ given. first_broken (input_rules s (turn tx m 0)) ≡ None))
      → IfOk r (λ answer. (s : Setting) → s.height ≡ height → tx_fault s m tx ≡ result_err answer)
  told height (Err e) none f g = tt
  told height (Ok (Ok given)) none f g = λ s same. over s None none ∙ g s same
  told height (Ok (Err reason)) none f g = λ s same. over s None none ∙ f s same

pub returns-in-Some-clause-fault : goal.returns-in-Some-clause-fault
returns-in-Some-clause-fault c s same =
    over c.args.self.now.coins c.args.tx.now s (Some c.in-Some.reason) (sym c.in_ok-reason.ensures.found ∙ c.in-Some.is)

pub returns-clause-fault : goal.returns-clause-fault
returns-clause-fault c =
    let nothing : is_some c.in_ok-reason.field-0 ≡ false = search rules in
    subst (λ (u : UtxoState). IfOk c.check_tx_inputs.result (λ answer. (s : Setting) → s.height ≡ c.args.height → tx_fault s u.coins c.args.tx.now ≡ result_err answer)) c.self.view_is
    (told c.self.inside.coins c.args.tx.now c.args.height c.check_tx_inputs.result (sym c.in_ok-reason.ensures.found ∙ empty c.in_ok-reason.field-0 nothing) c.check_tx_inputs.ensures.fault c.check_tx_inputs.ensures.none)
