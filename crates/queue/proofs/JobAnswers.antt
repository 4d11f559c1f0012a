-- Answers by what is known.
use Rattle.std.proofs.Common.{◌≡◌, ℕ, zero, suc, Bool, List, [], ◌∷◌, ◌++◌, length, map, Some, inl, inr, refl, sym, ap, ap₂, ◌∙◌, ⊎_elim, arith}
use Rattle.std.specs.Prelude.{◌⊎◌, IsSome, Option, None, slice_get}
use Rattle.std.specs.Box.{box_value}
use Rattle.std.specs.Global.{Box}
use Rattle.std.specs.Option.{option_map, option_and_then}
use Rattle.std.proofs.lemmas.Option.{slice_get-map}
use Rattle.signatures.specs.Known.{Known}
use Rattle.signatures.specs.Triple.{Triple}
use Rattle.interp.specs.Answer.{Answer, Says, Wants}
use Rattle.interp.specs.Question.{Question, question_of}
use Rattle.interp.specs.computed.Step.{verdict}
use Rattle.interp.specs.declared.job.Job.{Job}
use Rattle.queue.specs.declared.verdict.Verdict.{Verdict}
use Rattle.queue.specs.declared.verdict.Verdict.TheVariants as verdict
use Rattle.queue.specs.Ahead.{answer_of}
use Rattle.queue.specs.Jobs.{answers_to, said, verdict_at, verdict_of}
use Rattle.queue.specs.Early.{answer_at}
use Rattle.queue.specs.inside.KnownAnswers.{AreSaid, AreTheirWants, AreWanted, wanted_in}

-- an element of a list with one more
pub slice_get-push : {A : Type 0} (xs : List A) (x : A) (k : ℕ) (y : A) → slice_get (xs ++ x ∷ []) k ≡ Some y → (slice_get xs k ≡ Some y) ⊎ ((k ≡ length xs) × (x ≡ y))
slice_get-push [] x zero y h = inr (refl, cc)
slice_get-push [] x (suc k) y h = absurd cc
slice_get-push (z ∷ xs) x zero y h = inl h
slice_get-push (z ∷ xs) x (suc k) y h = ⊎_elim (λ is. inl is) (λ (is : (k ≡ length xs) × (x ≡ y)). inr (ap (λ n. suc n) is.0, is.1)) (slice_get-push xs x k y h)

-- what is said at all places is what is answered to their questions
pub answers-of : (known : Known) (jobs : List Job) (answers : List (Option Bool)) → AreSaid (verdict_at known jobs) answers → length answers ≡ length jobs
    → answers ≡ answers_to known (map question_of jobs)
answers-of known [] [] each even = refl
answers-of known [] (a ∷ answers) each even = absurd (omega (arith, even))
answers-of known (job ∷ jobs) [] each even = absurd (omega (arith, even))
answers-of known (job ∷ jobs) (a ∷ answers) each even =
    ap₂ (λ (x : Option Bool) (l : List (Option Bool)). x ∷ l) (each 0 a refl) (answers-of known jobs answers (λ place answer is. each (suc place) answer is) (omega (arith, even)))

-- of the jobs that a batch asks
pub said-answers : (known : Known) (jobs : List Job) (asked : List Question) (answers : List (Option Bool)) → map question_of jobs ≡ asked
    → AreSaid (verdict_at known jobs) answers → length answers ≡ length jobs → answers ≡ answers_to known asked
said-answers known jobs asked answers same said even = answers-of known jobs answers said even ∙ ap (answers_to known) same

-- the verdict at the place of a question is that on it
verdict-asked : (known : Known) (jobs : List Job) (place : ℕ) (q : Question) → slice_get (map question_of jobs) place ≡ Some q → verdict_at known jobs place ≡ verdict known q
verdict-asked known jobs place q is = by (slice_get jobs place) refl
  where
    by : (job : Option Job) → slice_get jobs place ≡ job → verdict_at known jobs place ≡ verdict known q
    by (Some job) there =
        let same : ◌≡◌ {A = Option Question} (Some (question_of job)) (Some q) = sym (slice_get-map question_of jobs place ∙ ap (option_map question_of) there) ∙ is in
        let one : question_of job ≡ q = cc in
        ap (verdict_of known) there ∙ ap (verdict known) one
    by None none =
        let both : ◌≡◌ {A = Option Question} None (Some q) = sym (slice_get-map question_of jobs place ∙ ap (option_map question_of) none) ∙ is in absurd cc

-- what is wanted at each place its question wants
pub their-wants : (known : Known) (jobs : List Job) (asked : List Question) (wants : List (Option (Box Triple))) → map question_of jobs ≡ asked
    → AreWanted (verdict_at known jobs) wants → AreTheirWants known asked wants
their-wants known jobs asked wants same are place q t is want =
    sym (verdict-asked known jobs place q (ap (λ l. slice_get l place) same ∙ is)) ∙ are place t want

-- ---- one verdict more
pub said-next : (verdict : ℕ → Answer Bool) (answers : List (Option Bool)) (place : ℕ) (v : Verdict) → AreSaid verdict answers → length answers ≡ place → verdict place ≡ answer_of v
    → AreSaid verdict (answers ++ said (answer_of v) ∷ [])
said-next verdict answers place v before count is k answer there = ⊎_elim
    (λ (old : slice_get answers k ≡ Some answer). before k answer old)
    (λ (last : (k ≡ length answers) × (said (answer_of v) ≡ answer)). sym last.1 ∙ ap said (sym is) ∙ ap (λ n. said (verdict n)) (sym (last.0 ∙ count)))
    (slice_get-push answers (said (answer_of v)) k answer there)

want-is : (v : Verdict) (t : Box Triple) → wanted_in v ≡ Some t → answer_of v ≡ Wants (box_value t)
want-is verdict.Yes t is = cc
want-is verdict.No t is = cc
want-is (verdict.Wants u) t is = let same : u ≡ t = cc in ap (λ (b : Box Triple). Wants (box_value b)) same

pub wanted-next : (verdict : ℕ → Answer Bool) (wants : List (Option (Box Triple))) (place : ℕ) (v : Verdict) → AreWanted verdict wants → length wants ≡ place → verdict place ≡ answer_of v
    → AreWanted verdict (wants ++ wanted_in v ∷ [])
wanted-next verdict wants place v before count is k t there = ⊎_elim
    (λ (old : slice_get wants k ≡ Some (Some t)). before k t old)
    (λ (last : (k ≡ length wants) × (wanted_in v ≡ Some t)). ap verdict (last.0 ∙ count) ∙ is ∙ want-is v t last.1)
    (slice_get-push wants (wanted_in v) k (Some t) there)

said-is : (a : Answer Bool) (answer : Bool) → said a ≡ Some answer → a ≡ Says answer
said-is (Says b) answer e = cc
said-is (Wants t) answer e = cc

-- the answer at a place is that to the question there
pub answer-there : (known : Known) (asked : List Question) (place : ℕ) (q : Question) → slice_get asked place ≡ Some q → answer_at (answers_to known asked) place ≡ said (verdict known q)
answer-there known asked place q is =
    ap (option_and_then (λ answer. answer)) (slice_get-map (λ q. said (verdict known q)) asked place ∙ ap (option_map (λ q. said (verdict known q))) is)

-- an answer is the verdict, also by all that grew out of what was known
pub some-says : (a : Option Bool) → IsSome a → (answer : Bool) × (a ≡ Some answer)
some-says None none = cc
some-says (Some answer) some = (answer, refl)

pub answered-says : (known : Known) (asked : List Question) (place : ℕ) (q : Question) → slice_get asked place ≡ Some q → IsSome (answer_at (answers_to known asked) place) → (answer : Bool) × (verdict known q ≡ Says answer)
answered-says known asked place q is some =
    let answer = some-says (answer_at (answers_to known asked) place) some in
    (answer.0, said-is (verdict known q) answer.0 (sym (answer-there known asked place q is) ∙ answer.1))

pub says-answered : (known : Known) (asked : List Question) (place : ℕ) (q : Question) (answer : Bool) → slice_get asked place ≡ Some q → verdict known q ≡ Says answer → answer_at (answers_to known asked) place ≡ Some answer
says-answered known asked place q answer is says = answer-there known asked place q is ∙ ap said says
