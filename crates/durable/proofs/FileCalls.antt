-- How a run of calls goes on.
use Rattle.std.proofs.Common.{◌≡◌, ℕ, ◌≤◌, List, [], ◌∷◌, ◌++◌, refl, sym, ◌∙◌, ap, subst, append_assoc, fold}
use Rattle.std.proofs.lemmas.List.{append-nil}
use mathlib.Core.List.{IsPrefix}
use Rattle.durable.specs.Crash.{Event, File, Unsaid, after, file_after}
use Rattle.durable.specs.Lines.{lines}
use Rattle.durable.specs.KeptSteps.{Told, told_by, told, AreUpTo, KeepsNow, KeepsOn, KeepsBetween}

abbrev next : File → Event → File
next file event = after file event.0.asked event.0.is_done event.1

from : (file : File) (events : List Event) (event : Event) → fold next file (events ++ event ∷ []) ≡ next (fold next file events) event
from file [] event = refl
from file (e ∷ events) event = from (next file e) events event

-- the file after one call more
pub file_next : (events : List Event) (event : Event) → file_after (events ++ event ∷ []) ≡ after (file_after events) event.0.asked event.0.is_done event.1
file_next events event = from Unsaid events event

pub told-append : (events more : List Event) → told (events ++ more) ≡ told events ++ told more
told-append [] more = refl
told-append (e ∷ events) more = ap (λ (l : List Told). told_by e.0.asked e.1 ++ l) (told-append events more) ∙ sym (append_assoc (told_by e.0.asked e.1) (told events) (told more))

-- a call that tells of nothing
pub told_same : (events : List Event) (event : Event) → told_by event.0.asked event.1 ≡ [] → told (events ++ event ∷ []) ≡ told events
told_same events event none = told-append events (event ∷ []) ∙ ap (λ (l : List Told). told events ++ (l ++ [])) none ∙ append-nil (told events)

pub up_to_push : (n : ℕ) (stamp : Told) (stamps : List Told) → AreUpTo n stamps → stamp.0 ≤ n → AreUpTo n (stamps ++ stamp ∷ [])
up_to_push n stamp [] all le = (le, tt)
up_to_push n stamp (s ∷ stamps) all le = (all.0, up_to_push n stamp stamps all.1 le)

module _ (history : List (List ℕ)) where
  pub started : (events : List Event) → KeepsNow history events → KeepsBetween history events events
  started events now = ([], sym (append-nil events), now)

  on_next : (events more : List Event) (event : Event) → KeepsOn history events more → KeepsNow history ((events ++ more) ++ event ∷ []) → KeepsOn history events (more ++ event ∷ [])
  on_next events [] event so_far now = (so_far, subst (λ (l : List Event). KeepsNow history (l ++ event ∷ [])) (append-nil events) now)
  on_next events (e ∷ more) event so_far now =
      (so_far.0, on_next (events ++ e ∷ []) more event so_far.1 (subst (λ (l : List Event). KeepsNow history (l ++ event ∷ [])) (sym (append_assoc events (e ∷ []) more)) now))

  -- one call more, after which a crash leaves what keeps the history
  pub goes_on : (before mid now : List Event) (event : Event) → KeepsBetween history before mid → now ≡ mid ++ event ∷ [] → KeepsNow history now → KeepsBetween history before now
  goes_on before mid now event so_far is keeps =
      let whole : now ≡ (before ++ so_far.0) ++ event ∷ [] = is ∙ ap (λ (l : List Event). l ++ event ∷ []) so_far.1 in
      (so_far.0 ++ event ∷ [], whole ∙ append_assoc before so_far.0 (event ∷ []), on_next before so_far.0 event so_far.2 (subst (KeepsNow history) whole keeps))

  on_joined : (events first second : List Event) → KeepsOn history events first → KeepsOn history (events ++ first) second → KeepsOn history events (first ++ second)
  on_joined events [] second one two = subst (λ (l : List Event). KeepsOn history l second) (append-nil events) two
  on_joined events (e ∷ first) second one two =
      (one.0, on_joined (events ++ e ∷ []) first second one.1 (subst (λ (l : List Event). KeepsOn history l second) (sym (append_assoc events (e ∷ []) first)) two))

  -- two runs, one behind the other
  pub joined : (before mid now : List Event) → KeepsBetween history before mid → KeepsBetween history mid now → KeepsBetween history before now
  joined before mid now one two = (
    one.0 ++ two.0,
    two.1 ∙ ap (λ (l : List Event). l ++ two.0) one.1 ∙ append_assoc before one.0 two.0,
    on_joined before one.0 two.0 one.2 (subst (λ (l : List Event). KeepsOn history l two.0) one.1 two.2),
  )

module _ (history longer : List (List ℕ)) (begins : IsPrefix history longer) where
  now_longer : (events : List Event) → KeepsNow history events → KeepsNow longer events
  now_longer events keeps file left =
      let k = keeps file left in
      let p = k.beginning in
      record { beginning = (p.0 ++ begins.0, sym (append_assoc (lines file) p.0 begins.0) ∙ ap (λ (l : List (List ℕ)). l ++ begins.0) p.1 ∙ begins.1); has = k.has }

  on_longer : (events more : List Event) → KeepsOn history events more → KeepsOn longer events more
  on_longer events [] keeps = now_longer events keeps
  on_longer events (e ∷ more) keeps = (now_longer events keeps.0, on_longer (events ++ e ∷ []) more keeps.1)

  -- of a history that has grown
  pub keeps_longer : (before now : List Event) → KeepsBetween history before now → KeepsBetween longer before now
  keeps_longer before now keeps = (keeps.0, keeps.1, on_longer before keeps.0 keeps.2)
