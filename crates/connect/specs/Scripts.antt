-- The scripts of a block, which run last.
use Rattle.std.specs.Prelude.{◌≡◌, ◌⊎◌, ℕ, ◌<◌, Bool, true, false, List, [], ◌∷◌, length, map, Option, Some, None}
use Rattle.std.specs.List.{flat_map, enumerate_from}
use Rattle.txn.specs.Tx.{Tx}
use Rattle.txn.specs.declared.reason.Reason.{Reason}
use Rattle.txn.specs.declared.reason.Reason.TheVariants.{ScriptRefused}
use Rattle.txn.specs.First.{first_broken}
use Rattle.signatures.specs.Known.{Known}
use Rattle.signatures.specs.Triple.{Triple, Triples}
use Rattle.interp.specs.declared.flags.Flags.{Flags}
use Rattle.interp.specs.Answer.{Answer, Says, Wants}
use Rattle.interp.specs.computed.Step.{verdict}
use Rattle.interp.specs.Question.{Question, question}
use Rattle.queue.specs.Jobs.{IsAccepted}
use Rattle.coins.specs.declared.coin.Coin.{Coin}
use Rattle.coins.specs.Coins.{Coins}
use Rattle.rules.specs.declared.in_force.InForce.{InForce}
use Rattle.connect.specs.BlockContext.{Setting}
use Rattle.connect.specs.Turns.{spent_in, turns}
use Rattle.connect.specs.Faults.{connect_rules}

-- the script rules that are in force where these rules of blocks are (`GetBlockScriptFlags`)
abbrev pub flags_of : InForce → Flags
flags_of rules = record { p2sh = true; dersig = rules.bip66; cltv = rules.bip65; csv = rules.csv; nulldummy = rules.nulldummy }

-- a script that has to accept, with the place of its transaction in the block
abbrev pub Check : Type 0
Check = ℕ × Question

-- of each input of the transaction at this place, the script of the coin that it spends
abbrev pub input_checks : Flags → ℕ → Tx → List Coin → List Check
input_checks flags place tx coins = map (λ c. (place, question tx c.0 c.1.script flags)) (enumerate_from 0 coins)

-- of a block, by transaction and then by input
abbrev pub script_checks : Setting → Coins → List Tx → List Check
script_checks s m txs = flat_map (λ t. input_checks (flags_of s.rules) t.0 t.1.tx (spent_in t.1)) (enumerate_from 0 (turns s.height m 0 txs))

abbrev pub refusal : Check → Reason
refusal check = ScriptRefused check.0 check.1.input

-- the first whose script isn't accepted, or none
abbrev pub IsFirstRefused : Triples → List Check → Option Reason → Type 0
IsFirstRefused triples [] found = found ≡ None
IsFirstRefused triples (check ∷ checks) found =
    (¬ IsAccepted check.1 triples × (found ≡ Some (refusal check)))
    ⊎ (IsAccepted check.1 triples × IsFirstRefused triples checks found)

-- a broken rule, or else what the scripts give
abbrev pub IsBefore : Option Reason → (Option Reason → Type 0) → Option Reason → Type 0
IsBefore (Some reason) Last found = found ≡ Some reason
IsBefore None Last found = Last found

-- the first rule that a block breaks over the coins of its parent's branch, its scripts last
abbrev pub IsConnectFault : Setting → Coins → List Tx → Triples → Option Reason → Type 0
IsConnectFault s m txs triples found =
    IsBefore (first_broken (connect_rules s m txs)) (IsFirstRefused triples (script_checks s m txs)) found

-- what one script wants, with what is wanted behind it: nothing where it is refused
abbrev pub want_first : Answer Bool → List Triple → List Triple
want_first (Says true) others = others
want_first (Says false) others = []
want_first (Wants t) others = t ∷ others

-- all that these scripts want before the first that is refused, in their order
abbrev pub wants_of : Known → List Check → List Triple
wants_of known [] = []
wants_of known (check ∷ checks) = want_first (verdict known check.1) (wants_of known checks)

-- these are all of them, and there is one
abbrev pub AreWantedAmong : Known → List Check → List Triple → Type 0
AreWantedAmong known checks wanted = (0 < length wanted) × (wanted ≡ wants_of known checks)

-- no other rule is broken, and these are all the signatures that scripts of the block want
pub record AreWantedByBlock (s : Setting) (m : Coins) (txs : List Tx) (known : Known) (wanted : List Triple) : Type 0 where
  pub passes : first_broken (connect_rules s m txs) ≡ None
  pub scripts : AreWantedAmong known (script_checks s m txs) wanted
