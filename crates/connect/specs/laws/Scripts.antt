-- The computed fault is the relation's.
use Rattle.std.proofs.Common.{◌≡◌, inl, inr, Bool, true, false, if◌then◌else◌, List, [], ◌∷◌, Option, Some, None, refl, sym, ◌∙◌}
use Rattle.std.specs.Option.{option_or}
use Rattle.txn.specs.Tx.{Tx}
use Rattle.txn.specs.declared.reason.Reason.{Reason}
use Rattle.txn.specs.First.{first_broken}
use Rattle.signatures.specs.Triple.{Triples}
use Rattle.interp.specs.computed.InputVerdict.{accepts}
use Rattle.interp.specs.laws.InputVerdict.{accepts-right}
use Rattle.coins.specs.Coins.{Coins}
use Rattle.connect.specs.BlockContext.{Setting}
use Rattle.connect.specs.Faults.{connect_rules}
use Rattle.connect.specs.Scripts.{Check, refusal, script_checks, IsFirstRefused, IsBefore, IsConnectFault}
use Rattle.connect.specs.computed.Scripts.{first_refused, connect_fault}

abbrev passes : Triples → Check → Bool
passes triples check = accepts check.1.tx check.1.input check.1.spent check.1.flags triples

-- what is said of the checks from one on, by what is said of those after it
found-here : (triples : Triples) (check : Check) (checks : List Check) (found : Option Reason) (b : Bool) → passes triples check ≡ b
    → (IsFirstRefused triples checks found → found ≡ first_refused triples checks)
    → IsFirstRefused triples (check ∷ checks) found → found ≡ (if b then first_refused triples checks else Some (refusal check))
found-here triples check checks found true e later (inl (fails, same)) =
    absurd (fails ((accepts-right check.1.tx check.1.input check.1.spent check.1.flags triples).0 e))
found-here triples check checks found true e later (inr (holds, others)) = later others
found-here triples check checks found false e later (inl (fails, same)) = same
found-here triples check checks found false e later (inr (holds, others)) =
    let both : true ≡ false = sym ((accepts-right check.1.tx check.1.input check.1.spent check.1.flags triples).1 holds) ∙ e in cc

again-here : (triples : Triples) (check : Check) (checks : List Check) (found : Option Reason) (b : Bool) → passes triples check ≡ b
    → (found ≡ first_refused triples checks → IsFirstRefused triples checks found)
    → found ≡ (if b then first_refused triples checks else Some (refusal check)) → IsFirstRefused triples (check ∷ checks) found
again-here triples check checks found true e later same =
    inr ((accepts-right check.1.tx check.1.input check.1.spent check.1.flags triples).0 e, later same)
again-here triples check checks found false e later same =
    inl ((λ holds. let both : true ≡ false = sym ((accepts-right check.1.tx check.1.input check.1.spent check.1.flags triples).1 holds) ∙ e in cc), same)

pub refused-found : (triples : Triples) (checks : List Check) (found : Option Reason) → IsFirstRefused triples checks found → found ≡ first_refused triples checks
refused-found triples [] found is = is
refused-found triples (check ∷ checks) found is = found-here triples check checks found (passes triples check) refl (refused-found triples checks found) is

pub refused-again : (triples : Triples) (checks : List Check) (found : Option Reason) → found ≡ first_refused triples checks → IsFirstRefused triples checks found
refused-again triples [] found is = is
refused-again triples (check ∷ checks) found is = again-here triples check checks found (passes triples check) refl (refused-again triples checks found) is

-- by the first broken rule
found-by : (triples : Triples) (checks : List Check) (broken found : Option Reason)
    → (IsBefore broken (IsFirstRefused triples checks) found → found ≡ option_or broken (first_refused triples checks))
    × (found ≡ option_or broken (first_refused triples checks) → IsBefore broken (IsFirstRefused triples checks) found)
found-by triples checks (Some reason) found = (λ is. is, λ is. is)
found-by triples checks None found = (refused-found triples checks found, refused-again triples checks found)

pub fault-found : (s : Setting) (m : Coins) (txs : List Tx) (triples : Triples) (found : Option Reason)
    → (IsConnectFault s m txs triples found → found ≡ connect_fault s m txs triples)
    × (found ≡ connect_fault s m txs triples → IsConnectFault s m txs triples found)
unfolding connect_fault
fault-found s m txs triples found = found-by triples (script_checks s m txs) (first_broken (connect_rules s m txs)) found
