-- Answers by what is known of signatures.
use Rattle.std.specs.Prelude.{◌≡◌, Bool, true, false, Option, Some, None, Result, Ok, Err}
use Rattle.std.specs.Box.{box_value}
use Rattle.signatures.specs.Triple.{Triple}
use Rattle.interp.specs.declared.no_verdict.Unverified.{Unverified}
use Rattle.interp.specs.declared.no_verdict.Unverified.TheVariants.{Memory, Unknown}

-- what is known suffices for an answer, or whether this signature is valid has to be found out first
pub data Answer (A : Type 0) : Type 0 where
  Says : A → Answer A
  Wants : Triple → Answer A

-- the answer, changed
abbrev pub answer_map : {A B : Type 0} → (A → B) → Answer A → Answer B
answer_map f (Says x) = Says (f x)
answer_map f (Wants t) = Wants t

-- what comes next is asked where there is something to go on with
abbrev pub on_some : {A B : Type 0} → (A → Answer (Option B)) → Option A → Answer (Option B)
on_some f (Some x) = f x
on_some f None = Says None

abbrev pub and_then : {A B : Type 0} → (A → Answer (Option B)) → Answer (Option A) → Answer (Option B)
and_then f (Says x) = on_some f x
and_then f (Wants t) = Wants t

-- the second is asked where the first says yes
abbrev pub also : Answer Bool → Answer Bool → Answer Bool
also (Says true) second = second
also (Says false) second = Says false
also (Wants t) second = Wants t

-- ---- what a call answers
-- the triple that isn't known, or none where there was no memory
abbrev pub unknown_in : Unverified → Option Triple
unknown_in Memory = None
unknown_in (Unknown t) = Some (box_value t)

-- if there is such a triple, the answer wants it
abbrev pub Stops : {A : Type 0} → Answer A → Unverified → Type 0
Stops answer stop = (t : Triple) → unknown_in stop ≡ Some t → answer ≡ Wants t

-- a call gives the answer, or the triple that it wants; of running out of memory nothing is said
abbrev pub Tells : {A : Type 0} → Result A Unverified → Answer A → Type 0
Tells (Ok x) answer = answer ≡ Says x
Tells (Err stop) answer = Stops answer stop
