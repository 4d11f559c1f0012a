-- Answers that are known before jobs are run.
use Rattle.std.specs.Prelude.{◌≡◌, ℕ, Bool, List, [], ◌∷◌, Option, Some, None, IsSome, slice_get}
use Rattle.std.specs.Box.{box_value}
use Rattle.std.specs.Global.{Box}
use Rattle.std.specs.Map.{lookup}
use Rattle.std.specs.BTreeMap.{is_at}
use Rattle.std.specs.declared.cmp.Ordering.{Ordering}
use Rattle.std.specs.Ordering.{nat_cmp, ordering_then}
use Rattle.std.specs.Cmp.Lexicographic.{slice_cmp}
use Rattle.txn.specs.declared.outpoint.OutPoint.{OutPoint}
use Rattle.txn.specs.declared.input.TxIn.{TxIn}
use Rattle.txn.specs.Tx.{Tx}
use Rattle.queue.specs.declared.early_jobs.Listed.{Listed}
use Rattle.queue.specs.declared.verdict_index.Key.{Key}
use Rattle.queue.specs.declared.verdict.Verdict.{Verdict}
use Rattle.queue.specs.declared.verdict.Verdict.TheVariants as verdict
use Rattle.queue.specs.declared.verdict_index.Slot.{Slot}
use Rattle.signatures.specs.Known.{Known}
use Rattle.signatures.specs.Triple.{Triple}
use Rattle.interp.specs.Answer.{Answer, Wants}
use Rattle.interp.specs.Question.{Question}
use Rattle.interp.specs.computed.Step.{verdict}
use Rattle.queue.specs.Early.{Fits}
use Rattle.queue.specs.Jobs.{Spending, spending, Answered, said}

abbrev pub spending_of : Listed → Spending
spending_of listed = spending listed.place listed.input listed.spent.items

-- the signature that a verdict wants, if it wants one
abbrev pub wanted_in : Verdict → Option (Box Triple)
wanted_in verdict.Yes = None
wanted_in verdict.No = None
wanted_in (verdict.Wants t) = Some t

-- each answer is what the verdict at its place says
abbrev pub AreSaid : (ℕ → Answer Bool) → List (Option Bool) → Type 0
AreSaid verdict answers = (place : ℕ) (answer : Option Bool) → slice_get answers place ≡ Some answer → answer ≡ said (verdict place)

-- each triple is wanted at its place
abbrev pub AreWanted : (ℕ → Answer Bool) → List (Option (Box Triple)) → Type 0
AreWanted verdict wants = (place : ℕ) (t : Box Triple) → slice_get wants place ≡ Some (Some t) → verdict place ≡ Wants (box_value t)

-- each triple is wanted by the question at its place
abbrev pub AreTheirWants : Known → List Question → List (Option (Box Triple)) → Type 0
AreTheirWants known asked wants =
    (place : ℕ) (q : Question) (t : Box Triple) → slice_get asked place ≡ Some q → slice_get wants place ≡ Some (Some t) → verdict known q ≡ Wants (box_value t)

-- ---- the verdict that fits

-- it is of an equal transaction
abbrev pub IsOfSame : List Answered → Slot → Tx → Type 0
IsOfSame verdicts slot tx = (q : Question) × Fits verdicts slot q × (q.tx ≡ tx)

-- the outpoint that the first of these inputs spends
abbrev pub first_outpoint : List TxIn → OutPoint
first_outpoint [] = record { id = record { 0 = [] }; index = 0 }
first_outpoint (input ∷ inputs) = input.prev

-- by what the verdict is found that answers a question
abbrev pub key_of : Question → Key
key_of q = record { outpoint = first_outpoint q.tx.inputs; input = q.input }

abbrev pub key_cmp : Key → Key → Ordering
key_cmp a b =
    ordering_then (nat_cmp a.input b.input) (ordering_then (slice_cmp nat_cmp a.outpoint.id.0 b.outpoint.id.0) (nat_cmp a.outpoint.index b.outpoint.index))

abbrev pub slot_for : List (Key × Slot) → Key → Option Slot
slot_for entries key = lookup (is_at (key_cmp key)) entries

-- each key of a verdict has a slot
abbrev pub Covers : List Answered → List (Key × Slot) → Type 0
Covers verdicts entries = (slot : Slot) (q : Question) → Fits verdicts slot q → IsSome (slot_for entries (key_of q))
