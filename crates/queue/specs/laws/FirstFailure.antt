-- What is answered of jobs by what is known is right under every set of valid signatures that agrees.
use Rattle.std.proofs.Common.{Bool, List, None, Option, Some, [], ap, arith, false, length, refl, suc, sym, true, zero, ℕ, ◌<◌, ◌∙◌, ◌≡◌}
use Rattle.std.specs.Prelude.{All, slice_get}
use Rattle.std.proofs.lemmas.List.Elements.{All-append, All-cons, All-nil}
use Rattle.std.proofs.lemmas.Option.{slice_get_within}
use Rattle.signatures.specs.Known.{Known, Under}
use Rattle.signatures.specs.Triple.{Triple, Triples}
use Rattle.interp.specs.Answer.{Answer, Says, Wants}
use Rattle.interp.specs.Question.{question_of}
use Rattle.interp.specs.declared.job.Job.{Job}
use Rattle.interp.specs.laws.InputVerdict.{said-right}
use Rattle.queue.specs.Jobs.{IsAccepted, verdict_at, verdict_of}
use Rattle.queue.specs.FirstAnswer.{want_of, wants_below, IsFirst}

-- ---- the first failure
-- the job at this place, if there is one, is accepted
abbrev pub AcceptsAt : Triples → List Job → ℕ → Type 0
AcceptsAt triples jobs place = (job : Job) → slice_get jobs place ≡ Some job → IsAccepted (question_of job) triples

-- there is a job at this place, and it isn't accepted
abbrev pub FailsAt : Triples → List Job → ℕ → Type 0
FailsAt triples jobs place = (job : Job) × (slice_get jobs place ≡ Some job) × ¬ IsAccepted (question_of job) triples

-- none where every job is accepted, and else the least place whose job isn't
abbrev pub IsFirstFailure : Triples → List Job → Option ℕ → Type 0
IsFirstFailure triples jobs None = (place : ℕ) → AcceptsAt triples jobs place
IsFirstFailure triples jobs (Some least) = FailsAt triples jobs least × ((place : ℕ) → place < least → AcceptsAt triples jobs place)

accepts-at : (known : Known) (jobs : List Job) (place : ℕ) → verdict_at known jobs place ≡ Says true → Under known (λ triples. AcceptsAt triples jobs place)
accepts-at known jobs place e triples agrees job is = (said-right known (question_of job) true (ap (verdict_of known) (sym is) ∙ e) triples agrees).0 refl

fails-at : (known : Known) (jobs : List Job) (place : ℕ) → verdict_at known jobs place ≡ Says false → Under known (λ triples. FailsAt triples jobs place)
fails-at known jobs place e triples agrees = by (slice_get jobs place) refl
  where
    by : (job : Option Job) → slice_get jobs place ≡ job → FailsAt triples jobs place
    by None is = let both : Says true ≡ Says false = ap (verdict_of known) (sym is) ∙ e in absurd cc
    by (Some job) is = (job, is, λ accepted. let both : false ≡ true = (said-right known (question_of job) false (ap (verdict_of known) (sym is) ∙ e) triples agrees).1 accepted in absurd cc)

pub first-under : (known : Known) (jobs : List Job) (place : Option ℕ) → IsFirst (length jobs) (verdict_at known jobs) place → Under known (λ triples. IsFirstFailure triples jobs place)
first-under known jobs None all triples agrees = λ place job is. accepts-at known jobs place (all place (slice_get_within jobs place job is)) triples agrees job is
first-under known jobs (Some least) is triples agrees = (fails-at known jobs least is.1 triples agrees, λ place low. accepts-at known jobs place (is.2 place low) triples agrees)

-- ---- what is wanted
all-of : (P : Triple → Type 0) (a : Answer Bool) → ((t : Triple) → a ≡ Wants t → P t) → All P (want_of a)
all-of P (Says answer) here = All-nil P
all-of P (Wants t) here = All-cons P t [] (here t refl) (All-nil P)

-- what holds of each want below a place holds of all
pub all-wanted : (P : Triple → Type 0) (verdict : ℕ → Answer Bool) (n : ℕ) → ((place : ℕ) (t : Triple) → place < n → verdict place ≡ Wants t → P t) → All P (wants_below verdict n)
unfolding wants_below
all-wanted P verdict zero each = All-nil P
all-wanted P verdict (suc n) each =
    All-append P (wants_below verdict n) (want_of (verdict n)) (all-wanted P verdict n (λ place t low e. each place t (omega (arith, low)) e)) (all-of P (verdict n) (λ t e. each n t (omega arith) e))
