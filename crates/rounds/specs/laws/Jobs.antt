-- A list of jobs takes no more rounds than one of them.
use Rattle.std.proofs.Common.{◌≡◌, ◌≢◌, ℕ, zero, suc, ◌<◌, ◌≤◌, List, [], ◌∷◌, ◌++◌, Bool, false, length, Option, Some, None, refl, sym, ap, ◌∙◌, subst, ⊎_elim, arith}
use Rattle.std.specs.Prelude.{All, slice_get}
use Rattle.std.proofs.lemmas.Bool.{cases_eq, cases_lt}
use Rattle.std.proofs.lemmas.List.{append-nil}
use Rattle.std.proofs.lemmas.List.Elements.{All-nil, All-cons, All-head, All-tail}
use Rattle.signatures.specs.Known.{Known}
use Rattle.signatures.specs.Triple.{Triple}
use Rattle.signatures.specs.laws.Growth.{Grows}
use Rattle.interp.specs.Answer.{Answer, Says, Wants}
use Rattle.interp.specs.Question.{question_of}
use Rattle.rounds.specs.Rounds.{AreRounds, WantsOne, JobsWant, max_rounds}
use Rattle.interp.specs.computed.Step as step
use Rattle.interp.specs.declared.job.Job.{Job}
use Rattle.interp.specs.laws.KnownVerdicts.{verdict-kept}
use Rattle.rounds.specs.laws.Rounds.{few-rounds}
use Rattle.queue.specs.Jobs.{verdict_at, verdict_of}
use Rattle.queue.specs.FirstAnswer.{want_of, wants_below, IsEnd}

-- ---- lists of wants
all-front : (P : Triple → Type 0) (xs ys : List Triple) → All P (xs ++ ys) → All P xs
all-front P [] ys all = All-nil P
all-front P (x ∷ xs) ys all = All-cons P x xs (All-head P x (xs ++ ys) all) (all-front P xs ys (All-tail P x (xs ++ ys) all))

all-back : (P : Triple → Type 0) (xs ys : List Triple) → All P (xs ++ ys) → All P ys
all-back P [] ys all = all
all-back P (x ∷ xs) ys all = all-back P xs ys (All-tail P x (xs ++ ys) all)

-- what holds of all wants below a place holds of each
want-below : (P : Triple → Type 0) (verdict : ℕ → Answer Bool) (n place : ℕ) (t : Triple) → All P (wants_below verdict n) → place < n → verdict place ≡ Wants t → P t
unfolding wants_below
want-below P verdict zero place t all low e = absurd (omega (arith, low))
want-below P verdict (suc n) place t all low e =
    ⊎_elim
    (λ (same : place ≡ n). All-head P t [] (subst (All P) (ap want_of (ap verdict (sym same) ∙ e)) (all-back P (wants_below verdict n) (want_of (verdict n)) all)))
    (λ (other : place ≡ n → ⊥). want-below P verdict n place t (all-front P (wants_below verdict n) (want_of (verdict n)) all) (omega (arith, low, other)) e)
    (cases_eq place n)

-- where something is wanted, some place wants it
some-below : (verdict : ℕ → Answer Bool) (n : ℕ) → 0 < length (wants_below verdict n) → (place : ℕ) × (t : Triple) × (place < n) × (verdict place ≡ Wants t)
unfolding wants_below
some-below verdict zero some = absurd (omega (arith, some))
some-below verdict (suc n) some = by (verdict n) refl (some-below verdict n) some
  where
    by : (a : Answer Bool) → verdict n ≡ a → (0 < length (wants_below verdict n) → (place : ℕ) × (t : Triple) × (place < n) × (verdict place ≡ Wants t))
        → 0 < length (wants_below verdict n ++ want_of a)
        → (place : ℕ) × (t : Triple) × (place < suc n) × (verdict place ≡ Wants t)
    by (Wants t) is before some = (n, t, omega arith, is)
    by (Says answer) is before some =
        let h = before (subst (λ (l : List Triple). 0 < length l) (append-nil (wants_below verdict n)) some) in (h.0, h.1, (let low = h.2 in omega (arith, low)), h.3)

-- ---- jobs
-- a job whose verdict is still missing, and before the first that is refused
pub record Missing (jobs : List Job) (known : Known) (place : ℕ) : Type 0 where
  pub job : Job
  pub there : slice_get jobs place ≡ Some job
  pub triple : Triple
  pub wants : step.verdict known (question_of job) ≡ Wants triple

missing : (jobs : List Job) (known : Known) (place : ℕ) (t : Triple) → verdict_at known jobs place ≡ Wants t → Missing jobs known place
missing jobs known place t e = by (slice_get jobs place) refl e
  where
    by : (o : Option Job) → slice_get jobs place ≡ o → verdict_of known o ≡ Wants t → Missing jobs known place
    by (Some job) is e = record { job = job; there = is; triple = t; wants = e }
    by None is e = cc

-- the first place that is refused only moves down
end-kept : (jobs : List Job) (known next : Known) → Grows known next → (end later : ℕ) → IsEnd (length jobs) (verdict_at known jobs) end
    → IsEnd (length jobs) (verdict_at next jobs) later → later ≤ end
end-kept jobs known next grows end later is will =
    ⊎_elim (λ beyond. let inside = will.inside in absurd (will.before end beyond (kept (slice_get jobs end) (is.refused (omega (arith, beyond, inside)))))) (λ low. low) (cases_lt end later)
  where
    kept : (o : Option Job) → verdict_of known o ≡ Says false → verdict_of next o ≡ Says false
    kept (Some job) e = verdict-kept known next grows (question_of job) false e
    kept None e = e

-- what is missing at the next round was missing at this one
missing-before : (jobs : List Job) (known next : Known) → Grows known next → (place : ℕ) (job : Job) (t : Triple) → step.verdict next (question_of job) ≡ Wants t
    → (u : Triple) × (step.verdict known (question_of job) ≡ Wants u)
missing-before jobs known next grows place job t e = by (step.verdict known (question_of job)) refl
  where
    by : (a : Answer Bool) → step.verdict known (question_of job) ≡ a → (u : Triple) × (step.verdict known (question_of job) ≡ Wants u)
    by (Wants u) is = (u, is)
    by (Says answer) is = let said = verdict-kept known next grows (question_of job) answer is in cc

-- a job that is asked for in each round, below the end of the first
pub record Throughout (jobs : List Job) (end : ℕ) (rounds : List Known) : Type 0 where
  pub place : ℕ
  pub job : Job
  pub there : slice_get jobs place ≡ Some job
  pub below : place < end
  pub asked : AreRounds (WantsOne (question_of job)) rounds

throughout : (jobs : List Job) (known : Known) (later : List Known) (h : AreRounds (JobsWant jobs) (known ∷ later)) → Throughout jobs h.0.1.1 (known ∷ later)
throughout jobs known [] h =
    let some = some-below (verdict_at known jobs) h.0.1.1 (subst (λ (l : List Triple). 0 < length l) h.0.1.3 h.0.1.0) in
    let m = missing jobs known some.0 some.1 some.3 in
    record { place = some.0; job = m.job; there = m.there; below = some.2; asked = ((m.triple ∷ [], (m.triple, m.wants, refl), tt), tt) }
throughout jobs known (next ∷ later) h =
    let rest = throughout jobs next later h.1 in
    let grows = h.0.2.0 in
    let low = end-kept jobs known next grows h.0.1.1 h.1.0.1.1 h.0.1.2 h.1.0.1.2 in
    let below = rest.below in
    let here : rest.place < h.0.1.1 = omega (arith, low, below) in
    let was = missing-before jobs known next grows rest.place rest.job rest.asked.0.1.0 rest.asked.0.1.1 in
    let at : verdict_at known jobs rest.place ≡ Wants was.0 = ap (verdict_of known) rest.there ∙ was.1 in
    let found = want-below (λ t. next t ≢ None) (verdict_at known jobs) h.0.1.1 rest.place was.0 (subst (All (λ t. next t ≢ None)) h.0.1.3 h.0.2.1) here at in
    record {
      place = rest.place;
      job = rest.job;
      there = rest.there;
      below = here;
      asked = ((was.0 ∷ [], (was.0, was.1, refl), (grows, All-cons (λ t. next t ≢ None) was.0 [] found (All-nil (λ t. next t ≢ None)))), rest.asked);
    }

pub jobs-rounds : (jobs : List Job) (rounds : List Known) → AreRounds (JobsWant jobs) rounds → length rounds ≤ max_rounds
jobs-rounds jobs [] h = omega arith
jobs-rounds jobs (known ∷ later) h =
    let job = throughout jobs known later h in few-rounds (question_of job.job) (known ∷ later) job.asked
