-- Lists of scripts that have to accept.
use Rattle.std.proofs.Common.{◌≡◌, All, inl, inr, ℕ, zero, suc, ◌+◌, ◌<◌, List, [], ◌∷◌, ◌++◌, length, get_or, map, Option, Some, None, slice_get, refl, sym, ap, ap₂, subst, ◌∙◌, arith}
use Rattle.std.proofs.Common.{◌≢◌, Bool, true, false, append_assoc}
use Rattle.std.specs.Prelude.{IfSome}
use Rattle.std.specs.List.{zip, enumerate_from, AllZip}
use Rattle.std.proofs.lemmas.List.{append-nil, map-append, length-map, length_push}
use Rattle.std.proofs.lemmas.List.Elements.{All-push}
use Rattle.txn.specs.declared.reason.Reason.TheVariants.{ScriptRefused}
use Rattle.txn.specs.Tx.{Tx}
use Rattle.coins.specs.declared.coin.Coin.{Coin}
use Rattle.interp.specs.declared.flags.Flags.{Flags}
use Rattle.signatures.specs.Known.{Known}
use Rattle.signatures.specs.Triple.{Triple, Triples}
use Rattle.interp.specs.declared.job.Job.{Job}
use Rattle.interp.specs.Question.{question, question_of}
use Rattle.interp.specs.Answer.{Answer, Says, Wants}
use Rattle.interp.specs.computed.Step.{verdict}
use Rattle.queue.specs.Jobs.{HasInput, IsAccepted, verdict_at}
use Rattle.queue.specs.laws.FirstFailure.{AcceptsAt, FailsAt}
use Rattle.queue.specs.FirstAnswer.{AreTheWants, IsEnd, want_of, wants_below}
use Rattle.connect.specs.Scripts.{Check, input_checks, IsFirstRefused, AreWantedAmong, want_first, wants_of}
use Rattle.connect.specs.inside.ScriptLists.{checks_from}

pub zip_push : {A B : Type 0} (xs : List A) (ys : List B) (x : A) (y : B) → length xs ≡ length ys → zip (xs ++ x ∷ []) (ys ++ y ∷ []) ≡ zip xs ys ++ (x, y) ∷ []
zip_push [] [] x y h = refl
zip_push [] (b ∷ ys) x y h = absurd (omega arith)
zip_push (a ∷ xs) [] x y h = absurd (omega arith)
zip_push (a ∷ xs) (b ∷ ys) x y h = ap (λ l. (a, b) ∷ l) (zip_push xs ys x y (omega arith))

pub enumerate_push : {A : Type 0} (n : ℕ) (xs : List A) (x : A) → enumerate_from n (xs ++ x ∷ []) ≡ enumerate_from n xs ++ (n + length xs, x) ∷ []
enumerate_push n [] x = ap (λ k. (k, x) ∷ []) (omega arith)
enumerate_push n (y ∷ xs) x = ap (λ l. (n, y) ∷ l) (enumerate_push (n + 1) xs x ∙ ap (λ k. enumerate_from (n + 1) xs ++ (k, x) ∷ []) (omega arith))

-- ---- the first that fails

some_is : {A : Type 0} (x y : A) → ◌≡◌ {A = Option A} (Some x) (Some y) → x ≡ y
some_is x y h = cc

pub none_refused : (triples : Triples) (places : List ℕ) (jobs : List Job) → ((k : ℕ) → AcceptsAt triples jobs k) → IsFirstRefused triples (zip places (map question_of jobs)) None
none_refused triples [] jobs h = refl
none_refused triples (p ∷ places) [] h = refl
none_refused triples (p ∷ places) (job ∷ jobs) h = inr (h 0 job refl, none_refused triples places jobs (λ k other e. h (suc k) other e))

pub first_refused_is : (triples : Triples) (places : List ℕ) (jobs : List Job) (least t : ℕ) (job : Job) → length places ≡ length jobs → least < length places
    → t ≡ get_or places least t → job ≡ get_or jobs least job → FailsAt triples jobs least → ((k : ℕ) → k < least → AcceptsAt triples jobs k)
    → IsFirstRefused triples (zip places (map question_of jobs)) (Some (ScriptRefused t job.input))
first_refused_is triples [] jobs least t job alike h et ej fails others = absurd (omega arith)
first_refused_is triples (p ∷ places) [] least t job alike h et ej fails others = absurd (omega arith)
first_refused_is triples (p ∷ places) (j ∷ jobs) zero t job alike h et ej fails others =
    inl (subst (λ (x : Job). ¬ IsAccepted (question_of x) triples) (sym (some_is j fails.0 fails.1)) fails.2, ap₂ (λ x (y : Job). Some (ScriptRefused x y.input)) et ej)
first_refused_is triples (p ∷ places) (j ∷ jobs) (suc least) t job alike h et ej fails others =
    inr (others 0 (omega arith) j refl, first_refused_is triples places jobs least t job (omega arith) (omega arith) et ej fails (λ k lt other e. others (suc k) (omega arith) other e))

pub below_of : {A : Type 0} (xs : List A) (k : ℕ) (x : A) → slice_get xs k ≡ Some x → k < length xs
below_of [] k x h = cc
below_of (y ∷ xs) zero x h = omega arith
below_of (y ∷ xs) (suc k) x h = omega (arith, below_of xs k x h)

-- ---- listing them

pub input_push : (flags : Flags) (place : ℕ) (tx : Tx) (coins : List Coin) (x : Coin) → input_checks flags place tx (coins ++ x ∷ []) ≡ input_checks flags place tx coins ++ (place, question tx (length coins) x.script flags) ∷ []
input_push flags place tx coins x =
    let check : ℕ × Coin → Check = λ c. (place, question tx c.0 c.1.script flags) in
    ap (map check) (enumerate_push 0 coins x)
    ∙ map-append check (enumerate_from 0 coins) ((0 + length coins, x) ∷ [])
    ∙ ap (λ n. map check (enumerate_from 0 coins) ++ check (n, x) ∷ []) (omega arith)

pub checks_push : (places : List ℕ) (jobs : List Job) (place : ℕ) (job : Job) → length places ≡ length jobs → zip (places ++ place ∷ []) (map question_of (jobs ++ job ∷ [])) ≡ zip places (map question_of jobs) ++ (place, question_of job) ∷ []
checks_push places jobs place job even =
    ap (zip (places ++ place ∷ [])) (map-append question_of jobs (job ∷ [])) ∙ zip_push places (map question_of jobs) place (question_of job) (even ∙ sym (length-map jobs question_of))

-- with one job more

pub job_count : (before after : List Job) (job : Job) → after ≡ before ++ job ∷ [] → length after ≡ length before + 1
job_count before after job pushed = ap length pushed ∙ length_push before job

pub job_inputs : (before after : List Job) (job : Job) → after ≡ before ++ job ∷ [] → All HasInput before → HasInput job → All HasInput after
job_inputs before after job pushed all has = subst (λ (l : List Job). All HasInput l) (sym pushed) (All-push HasInput before job all has)

pub job_checks : (places numbers : List ℕ) (before after : List Job) (place : ℕ) (job : Job) → length places ≡ length before → numbers ≡ places ++ place ∷ [] → after ≡ before ++ job ∷ []
    → zip numbers (map question_of after) ≡ zip places (map question_of before) ++ (place, question_of job) ∷ []
job_checks places numbers before after place job even more pushed = ap₂ (λ (l : List ℕ) (k : List Job). zip l (map question_of k)) more pushed ∙ checks_push places before place job even

pub listed_next : (flags : Flags) (place : ℕ) (tx : Tx) (txs : List Tx) (coins : List Coin) (undo : List (List Coin)) → checks_from flags place (tx ∷ txs) (coins ∷ undo) ≡ input_checks flags place tx coins ++ checks_from flags (place + 1) txs undo
unfolding checks_from
listed_next flags place tx txs coins undo = refl

pub listed_none : (flags : Flags) (place : ℕ) (undo : List (List Coin)) → checks_from flags place [] undo ≡ []
unfolding checks_from
listed_none flags place undo = refl

pub alike_length : {A B : Type 0} (R : A → B → Type 0) (xs : List A) (ys : List B) → AllZip R xs ys → length xs ≡ length ys
alike_length R [] [] h = refl
alike_length R [] (y ∷ ys) h = absurd h
alike_length R (x ∷ xs) [] h = absurd h
alike_length R (x ∷ xs) (y ∷ ys) h = ap (λ n. suc n) (alike_length R xs ys h.1)

-- ---- what is wanted

-- the wants below a place are that of the first and those of the others
below-first : (verdict : ℕ → Answer Bool) (n : ℕ) → wants_below verdict (suc n) ≡ want_of (verdict 0) ++ wants_below (λ place. verdict (suc place)) n
unfolding wants_below
below-first verdict zero = sym (append-nil (want_of (verdict 0)))
below-first verdict (suc n) =
    ap (λ (l : List Triple). l ++ want_of (verdict (suc n))) (below-first verdict n)
    ∙ append_assoc (want_of (verdict 0)) (wants_below (λ place. verdict (suc place)) n) (want_of (verdict (suc n)))

first-wants : (a : Answer Bool) (others : List Triple) → a ≢ Says false → want_first a others ≡ want_of a ++ others
first-wants (Says true) others other = refl
first-wants (Says false) others other = absurd (other refl)
first-wants (Wants t) others other = refl

-- those before the first job that is refused are the scripts' wants
end_wants : (known : Known) (places : List ℕ) (jobs : List Job) → length places ≡ length jobs → (end : ℕ) → IsEnd (length jobs) (verdict_at known jobs) end
    → wants_below (verdict_at known jobs) end ≡ wants_of known (zip places (map question_of jobs))
unfolding wants_below
end_wants known [] [] even zero is = refl
end_wants known [] [] even (suc end) is = let inside = is.inside in absurd (omega (arith, inside))
end_wants known [] (j ∷ jobs) even end is = absurd (omega (arith, even))
end_wants known (p ∷ places) [] even end is = absurd (omega (arith, even))
end_wants known (p ∷ places) (j ∷ jobs) even zero is =
    ap (λ a. want_first a (wants_of known (zip places (map question_of jobs)))) (sym (is.refused (omega arith)))
end_wants known (p ∷ places) (j ∷ jobs) even (suc end) is =
    let inside = is.inside in
    let others : IsEnd (length jobs) (verdict_at known jobs) end = record {
      inside = omega (arith, inside);
      before = λ place low. is.before (suc place) (omega (arith, low));
      refused = λ low. is.refused (omega (arith, low));
    } in
    below-first (verdict_at known (j ∷ jobs)) end
    ∙ ap (λ (l : List Triple). want_of (verdict known (question_of j)) ++ l) (end_wants known places jobs (omega (arith, even)) end others)
    ∙ sym (first-wants (verdict known (question_of j)) (wants_of known (zip places (map question_of jobs))) (is.before 0 (omega arith)))

-- what is told of jobs is told of their scripts
pub told_wanted : (known : Known) (places : List ℕ) (jobs : List Job) → length places ≡ length jobs → (told : Option (List Triple))
    → IfSome told (AreTheWants (length jobs) (verdict_at known jobs)) → IfSome told (AreWantedAmong known (zip places (map question_of jobs)))
told_wanted known places jobs even None are = tt
told_wanted known places jobs even (Some list) are = (are.0, are.3 ∙ end_wants known places jobs even are.1 are.2)
