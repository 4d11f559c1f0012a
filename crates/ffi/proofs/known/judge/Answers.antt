-- The rules are those that C's numbers say.
use Rattle.std.specs.Prelude.{◌↔◌, IsTrue, IfOk}
use Rattle.std.proofs.Common.{sym, subst}
use Rattle.std.proofs.lemmas.Result.{IfOk-weaker}
use Rattle.signatures.specs.Known.{Under, verdict_in}
use Rattle.interp.specs.declared.flags.Flags.{Flags}
use Rattle.interp.specs.Rules.{Accepts}
use Rattle.interp.specs.laws.Answers.{tells-says, tells-stops}
use Rattle.interp.specs.laws.InputVerdict.{said-right}
use Rattle.ffi.proofs.known.judge.Goals as goal

pub returns-clause-answer : goal.returns-clause-answer
returns-clause-answer c =
    let Of : Flags → Type 0 = λ flags. IfOk c.verify_with.result (λ yes. Under (verdict_in c.args.known.now) (λ triples. IsTrue yes ↔ Accepts c.args.tx.now c.args.input c.args.spent.now flags triples)) in
    subst Of c.flags_of-flags.ensures (IfOk-weaker c.verify_with.result _ _ (λ answer e. said-right _ _ answer e) (tells-says _ _ c.verify_with.ensures))

pub returns-clause-stops : goal.returns-clause-stops
returns-clause-stops c = rw (sym c.flags_of-flags.ensures) (tells-stops _ _ c.verify_with.ensures)
