-- Verdicts with a table, and under every set of valid signatures that agrees, are the relation's.
use Rattle.std.specs.Prelude.{◌≡◌, ◌↔◌, ℕ, List, Bool, true, Some, IsTrue}
use Rattle.std.proofs.Common.{sym, ap, ◌∙◌}
use Rattle.txn.specs.Tx.{Tx}
use Rattle.signatures.specs.Known.{Known, Under, all_known}
use Rattle.signatures.specs.Triple.{Triple, Triples}
use Rattle.interp.specs.declared.flags.Flags.{Flags}
use Rattle.interp.specs.Answer.{Answer, Says, Wants}
use Rattle.interp.specs.Question.{Question, question}
use Rattle.interp.specs.Rules.{Accepts}
use Rattle.interp.specs.computed.Step.{verdict}
use Rattle.interp.specs.computed.InputVerdict.{is_yes, accepts}
use Rattle.interp.specs.laws.Acceptance.{accepted-sound, accepted-again}
use Rattle.interp.specs.laws.KnownVerdicts.{verdict-kept, wanted-unknown}

yes-by : (a : Answer Bool) → is_yes a ≡ true → a ≡ Says true
yes-by (Says answer) e = ap Says e
yes-by (Wants t) e = cc

pub accepts-right : (tx : Tx) (input : ℕ) (spent : List ℕ) (flags : Flags) (triples : Triples)
    → (accepts tx input spent flags triples ≡ true → Accepts tx input spent flags triples)
    × (Accepts tx input spent flags triples → accepts tx input spent flags triples ≡ true)
unfolding accepts
accepts-right tx input spent flags triples =
    let q = question tx input spent flags in
    (λ e. accepted-sound q triples (yes-by (verdict (all_known triples) q) e), λ r. ap is_yes (accepted-again q triples r))

-- what is said by what is known is right under every set that agrees
pub said-right : (known : Known) (q : Question) (answer : Bool) → verdict known q ≡ Says answer → Under known (λ triples. IsTrue answer ↔ Accepts q.tx q.input q.spent q.flags triples)
said-right known q answer e triples agrees =
    let all = verdict-kept known (all_known triples) (λ t valid is. ap Some (agrees t valid is)) q answer e in
    (λ is_true. accepted-sound q triples (all ∙ ap Says is_true), λ r. let both : Says answer ≡ Says true = sym all ∙ accepted-again q triples r in cc)

-- with a table nothing is wanted
pub table-says : (table : Triples) (q : Question) (t : Triple) → ¬ (verdict (all_known table) q ≡ Wants t)
table-says table q t e = let none = wanted-unknown (all_known table) q t e in cc
