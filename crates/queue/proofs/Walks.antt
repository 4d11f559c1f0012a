-- The caller's walk.
use Rattle.std.proofs.Common.{◌≡◌, ◌≢◌, ℕ, zero, suc, ◌+◌, ◌<◌, Bool, true, false, List, [], ◌∷◌, ◌++◌, length, Option, Some, None, refl, sym, ap, subst, ◌∙◌, ⊎_elim, arith}
use Rattle.std.specs.Prelude.{All, slice_get}
use Rattle.std.proofs.lemmas.Bool.{cases_eq}
use Rattle.queue.proofs.JobAnswers.{slice_get-push}
use Rattle.signatures.specs.Known.{Known, all_known}
use Rattle.signatures.specs.Triple.{Triple, Triples}
use Rattle.interp.specs.Answer.{Answer, Says, Wants}
use Rattle.interp.specs.Question.{question_of}
use Rattle.interp.specs.declared.job.Job.{Job}
use Rattle.interp.specs.laws.KnownVerdicts.{wanted-unknown}
use Rattle.queue.specs.Jobs.{verdict_of, verdict_at}
use Rattle.queue.specs.declared.verdict.Verdict.{Verdict}
use Rattle.queue.specs.inside.Walk.{AreRight}
use Rattle.queue.specs.FirstAnswer.{want_of, wants_below, NoneRefused}

-- where all is known nothing is unknown
pub none_unknown : (table : Triples) (list : List Triple) → 0 < length list → All (λ t. all_known table t ≡ None) list → ⊥
none_unknown table [] some are = absurd (omega (arith, some))
none_unknown table (t ∷ list) some are = let none = are 0 t (omega arith) in cc

-- one place more that isn't refused
pub none-next : (count : ℕ) (verdict : ℕ → Answer Bool) (place : ℕ) → NoneRefused count verdict place → verdict place ≢ Says false → NoneRefused count verdict (place + 1)
none-next count verdict place before here x low = ⊎_elim
    (λ (e : x ≡ place). subst (λ (n : ℕ). verdict n ≢ Says false) (sym e) here)
    (λ (other : x ≡ place → ⊥). before x (omega (arith, low, other)))
    (cases_eq x place)

-- one slot more, without a verdict
pub right-next : (verdict : ℕ → Answer Bool) (slots : List (Option Verdict)) → AreRight verdict slots → AreRight verdict (slots ++ None ∷ [])
right-next verdict slots right place v there = ⊎_elim (λ before. right place v before) (λ last. let both : ◌≡◌ {A = Option Verdict} None (Some v) = last.1 in absurd cc) (slice_get-push slots None place (Some v) there)

-- ---- what is wanted
nil-parts : {A : Type 0} (xs ys : List A) → xs ++ ys ≡ [] → (xs ≡ []) × (ys ≡ [])
nil-parts [] ys e = (refl, e)
nil-parts (x ∷ xs) ys e = cc

yes-there : (a : Answer Bool) → a ≢ Says false → want_of a ≡ [] → a ≡ Says true
yes-there (Says true) other e = refl
yes-there (Says false) other e = absurd (other refl)
yes-there (Wants t) other e = cc

-- where nothing is wanted and none is refused, each is accepted
pub yes-below : (verdict : ℕ → Answer Bool) (n : ℕ) → ((place : ℕ) → place < n → verdict place ≢ Says false) → wants_below verdict n ≡ [] → (place : ℕ) → place < n → verdict place ≡ Says true
unfolding wants_below
yes-below verdict zero before e place low = absurd (omega arith)
yes-below verdict (suc n) before e place low =
    let parts = nil-parts (wants_below verdict n) (want_of (verdict n)) e in
    ⊎_elim
    (λ (same : place ≡ n). ap verdict same ∙ yes-there (verdict n) (before n (omega arith)) parts.1)
    (λ (other : place ≡ n → ⊥). yes-below verdict n (λ x below. before x (omega (arith, below))) parts.0 place (omega (arith, low, other)))
    (cases_eq place n)

-- of what a job wants nothing is known
pub want-unknown : (known : Known) (jobs : List Job) (place : ℕ) (t : Triple) → verdict_at known jobs place ≡ Wants t → known t ≡ None
want-unknown known jobs place t e = by (slice_get jobs place) e
  where
    by : (job : Option Job) → verdict_of known job ≡ Wants t → known t ≡ None
    by None e = cc
    by (Some job) e = wanted-unknown known (question_of job) t e
