-- Jobs and the verdicts that are of them.
use Rattle.std.proofs.Common.{◌≡◌, inl, inr, ℕ, zero, suc, ◌-◌, ◌+◌, ◌<◌, ◌≤◌, Bool, true, false, cond, List, [], ◌∷◌, ◌++◌, length, get_or, map, Option, None, Some, refl, sym, ap, subst, ◌∙◌, ⊎_elim, arith}
use Rattle.std.specs.Prelude.{◌⊎◌, All, IfSome, IfNone, IsSome, is_some, slice_get, slice_index_or}
use Rattle.std.specs.Option.{option_map, option_and_then}
use Rattle.std.proofs.lemmas.Option.{slice_get-map, slice_get_past, slice_get_read, slice_get_within, get_or_from_slice_get}
use Rattle.std.proofs.lemmas.Bool.{cases_eq}
use Rattle.txn.specs.declared.input.TxIn.{TxIn}
use Rattle.txn.specs.Tx.{Tx}
use Rattle.signatures.specs.Known.{Known}
use Rattle.interp.specs.computed.Step.{verdict}
use Rattle.queue.proofs.JobAnswers.{answered-says, says-answered, slice_get-push}
use Rattle.interp.specs.laws.KnownVerdicts.{verdict-kept}
use Rattle.interp.specs.declared.flags.Flags.{Flags}
use Rattle.interp.specs.Answer.{Answer, Says}
use Rattle.interp.specs.declared.job.Job.{Job}
use Rattle.queue.specs.declared.early_jobs.Listed.{Listed}
use Rattle.queue.specs.declared.verdict_index.Key.{Key}
use Rattle.queue.specs.declared.verdict_index.Slot.{Slot}
use Rattle.interp.specs.Question.{Question, question, question_of}
use Rattle.queue.specs.Jobs.{Answered, AreNumbered, Batch, IsEarly, Spending, answers_to, known_then, questions, tx_at}
use Rattle.queue.specs.inside.KnownAnswers.{spending_of, IsOfSame, Covers, first_outpoint, key_of, slot_for}
use Rattle.queue.specs.Early.{Fits, AreKnown, AreAllKnown, answer_at}

pub some_is : {A : Type 0} (x y : A) → ◌≡◌ {A = Option A} (Some x) (Some y) → x ≡ y
some_is x y h = cc

below_or : (a b : ℕ) → (a < b) ⊎ (b ≤ a)
below_or a zero = inr (omega arith)
below_or zero (suc b) = inl (omega arith)
below_or (suc a) (suc b) = ⊎_elim (λ h. inl (omega (arith, h))) (λ h. inr (omega (arith, h))) (below_or a b)

-- a place within a list has an element
pub there_is : {A : Type 0} (xs : List A) (n : ℕ) → n < length xs → (x : A) × (slice_get xs n ≡ Some x)
there_is [] n within = absurd (omega arith)
there_is (x ∷ xs) zero within = (x, refl)
there_is (x ∷ xs) (suc n) within = there_is xs n (omega (arith, within))

-- what stood in it stays, and the one more stands last
pub slice_get-before : {A : Type 0} (xs : List A) (x : A) (k : ℕ) → k < length xs → slice_get (xs ++ x ∷ []) k ≡ slice_get xs k
slice_get-before [] x k h = absurd (omega arith)
slice_get-before (z ∷ xs) x zero h = refl
slice_get-before (z ∷ xs) x (suc k) h = slice_get-before xs x k (omega arith)

pub slice_get-last : {A : Type 0} (xs : List A) (x : A) → slice_get (xs ++ x ∷ []) (length xs) ≡ Some x
slice_get-last [] x = refl
slice_get-last (z ∷ xs) x = slice_get-last xs x

-- ---- what is listed

abbrev pub batch_of : List Tx → Flags → List Listed → Batch
batch_of txs flags items = record { txs = txs; flags = flags; spendings = map spending_of items }

abbrev pub asks : Batch → Spending → Question
asks batch s = question (tx_at batch.txs s.place) s.input s.spent batch.flags

-- what is asked at a place is asked by what is listed there
pub asked_at : (batch : Batch) (at : ℕ) (q : Question) → slice_get (questions batch) at ≡ Some q → (s : Spending) × (slice_get batch.spendings at ≡ Some s) × (asks batch s ≡ q)
asked_at batch at q h = by (slice_get batch.spendings at) refl
  where
    by : (s : Option Spending) → slice_get batch.spendings at ≡ s → (s : Spending) × (slice_get batch.spendings at ≡ Some s) × (asks batch s ≡ q)
    by (Some s) is = (s, is, some_is (asks batch s) q (sym (slice_get-map (asks batch) batch.spendings at ∙ ap (option_map (asks batch)) is) ∙ h))
    by None is =
        let both : ◌≡◌ {A = Option Question} None (Some q) = sym (slice_get-map (asks batch) batch.spendings at ∙ ap (option_map (asks batch)) is) ∙ h in absurd cc

pub listed_asks : (batch : Batch) (at : ℕ) (s : Spending) → slice_get batch.spendings at ≡ Some s → slice_get (questions batch) at ≡ Some (asks batch s)
listed_asks batch at s is = slice_get-map (asks batch) batch.spendings at ∙ ap (option_map (asks batch)) is

-- it asks what the job asks, but maybe of another transaction
abbrev pub AsksButForTx : Batch → ℕ → Job → Type 0
AsksButForTx batch at job = (s : Spending) × (slice_get batch.spendings at ≡ Some s) × (s.input ≡ job.input) × (s.spent ≡ job.spent.now) × (batch.flags ≡ job.flags)

abbrev pub IsOf : Batch → ℕ → Tx → Type 0
IsOf batch at tx = (s : Spending) × (slice_get batch.spendings at ≡ Some s) × (tx_at batch.txs s.place ≡ tx)

pub fits_from : (batch : Batch) (at : ℕ) (job : Job) → AsksButForTx batch at job → IsOf batch at job.tx.now → slice_get (questions batch) at ≡ Some (question_of job)
fits_from batch at job h of =
    let same : of.0 ≡ h.0 = some_is of.0 h.0 (sym of.1 ∙ h.1) in
    let tx : tx_at batch.txs h.0.place ≡ job.tx.now = subst (λ (s : Spending). tx_at batch.txs s.place ≡ job.tx.now) same of.2 in
    let is : asks batch h.0 ≡ question_of job = (λ i. question (tx i) (h.2 i) (h.3 i) (h.4 i)) in
    listed_asks batch at h.0 h.1 ∙ ap (λ (x : Question). Some x) is

pub fits_parts : (batch : Batch) (at : ℕ) (job : Job) → slice_get (questions batch) at ≡ Some (question_of job) → AsksButForTx batch at job × IsOf batch at job.tx.now
fits_parts batch at job h =
    let a = asked_at batch at (question_of job) h in (
      (a.0, a.1, ap (λ (q : Question). q.input) a.2, ap (λ (q : Question). q.spent) a.2, ap (λ (q : Question). q.flags) a.2),
      (a.0, a.1, ap (λ (q : Question). q.tx) a.2),
    )

-- of the transaction of another place
pub fits_like : (batch : Batch) (one at : ℕ) (q : Question) (job : Job) → slice_get (questions batch) one ≡ Some q → q.tx ≡ job.tx.now
    → ((s t : Spending) → slice_get batch.spendings one ≡ Some s → slice_get batch.spendings at ≡ Some t → s.place ≡ t.place)
    → AsksButForTx batch at job → slice_get (questions batch) at ≡ Some (question_of job)
fits_like batch one at q job there tx same h =
    let a = asked_at batch one q there in
    fits_from batch at job h (h.0, h.1, ap (tx_at batch.txs) (sym (same a.0 h.0 a.1 h.1)) ∙ ap (λ (x : Question). x.tx) a.2 ∙ tx)

-- a verdict that is asked and has an answer fits
pub fits_by : (verdicts : List Answered) (slot : Slot) (q : Question) (own : Answered) → slice_get verdicts slot.verdicts ≡ Some own → slice_get (questions own.batch) slot.place ≡ Some q
    → IsSome (answer_at (answers_to (known_then own) (questions own.batch)) slot.place) → Fits verdicts slot q
fits_by verdicts slot q own there asked some =
    let says = answered-says (known_then own) (questions own.batch) slot.place q asked some in
    record { own = own; there = there; asked = asked; answer = says.0; says = says.1 }

-- ---- the slots of all verdicts

-- of the verdicts of the first so many lists
abbrev pub CoversBelow : List Answered → ℕ → List (Key × Slot) → Type 0
CoversBelow verdicts n entries = (slot : Slot) (q : Question) → slot.verdicts < n → Fits verdicts slot q → IsSome (slot_for entries (key_of q))

pub covers_next : (verdicts : List Answered) (old new : List (Key × Slot)) (n : ℕ) (own : Answered) → slice_get verdicts n ≡ Some own
    → ((place : ℕ) (q : Question) (answer : Bool) → slice_get (questions own.batch) place ≡ Some q → verdict (known_then own) q ≡ Says answer → IsSome (slot_for new (key_of q)))
    → ((key : Key) → IsSome (slot_for old key) → IsSome (slot_for new key))
    → CoversBelow verdicts n old → CoversBelow verdicts (n + 1) new
covers_next verdicts old new n own there its others before slot q low fits =
    ⊎_elim
    (λ (e : slot.verdicts ≡ n).
    let same : fits.own ≡ own = some_is fits.own own (sym fits.there ∙ ap (slice_get verdicts) e ∙ there) in
    its slot.place q fits.answer (subst (λ (a : Answered). slice_get (questions a.batch) slot.place ≡ Some q) same fits.asked) (subst (λ (a : Answered). verdict (known_then a) q ≡ Says fits.answer) same fits.says))
    (λ (other : slot.verdicts ≡ n → ⊥). others (key_of q) (before slot q (omega (arith, low, other)) fits))
    (cases_eq slot.verdicts n)

pub covers_all : (verdicts : List Answered) (entries : List (Key × Slot)) (n : ℕ) → length verdicts ≤ n → CoversBelow verdicts n entries → Covers verdicts entries
covers_all verdicts entries n all below slot q fits =
    ⊎_elim
    (λ (h : slot.verdicts < n). below slot q h fits)
    (λ (h : n ≤ slot.verdicts). let none : ◌≡◌ {A = Option Answered} None (Some fits.own) = sym (slice_get_past verdicts slot.verdicts (omega (arith, h, all))) ∙ fits.there in absurd cc)
    (below_or slot.verdicts n)

-- an entry stays, or another comes in its place
pub stays_some : {A : Type 0} (b : Bool) (v : A) (o : Option A) → IsSome o → IsSome (cond b (Some v) o)
stays_some true v o h = refl
stays_some false v o h = h

-- ---- answers in order

-- one answer more
pub known_next : (verdict : ℕ → Answer Bool) (known : List (Option Bool)) (place : ℕ) (answer : Option Bool) → AreKnown verdict known → length known ≡ place → IfSome answer (λ said. verdict place ≡ Says said)
    → AreKnown verdict (known ++ answer ∷ [])
known_next verdict known place answer are count right k said known_k =
    ⊎_elim
    (λ before. are k said before)
    (λ (last : (k ≡ length known) × (answer ≡ Some said)).
    ap verdict (last.0 ∙ count) ∙ subst (λ (o : Option Bool). IfSome o (λ b. verdict place ≡ Says b)) last.1 right)
    (slice_get-push known answer k (Some said) known_k)

-- of the first so many jobs, each that a verdict fits has its answer
abbrev pub AllKnownBelow : List Answered → List Job → ℕ → List (Option Bool) → Type 0
AllKnownBelow verdicts jobs n known =
    (place : ℕ) (job : Job) (slot : Slot) → place < n → slice_get jobs place ≡ Some job → Fits verdicts slot (question_of job) → IsSome (answer_at known place)

pub all_next : (verdicts : List Answered) (jobs : List Job) (known : List (Option Bool)) (n : ℕ) (job : Job) (answer : Option Bool)
    → length known ≡ n → slice_get jobs n ≡ Some job → ((slot : Slot) → Fits verdicts slot (question_of job) → IsSome answer)
    → AllKnownBelow verdicts jobs n known → AllKnownBelow verdicts jobs (n + 1) (known ++ answer ∷ [])
all_next verdicts jobs known n job answer count is found below place other slot low there fits =
    ⊎_elim
    (λ (e : place ≡ n).
    let same : other ≡ job = some_is other job (sym there ∙ ap (slice_get jobs) e ∙ is) in
    let some : IsSome answer = found slot (subst (λ (j : Job). Fits verdicts slot (question_of j)) same fits) in
    subst (λ (o : Option (Option Bool)). IsSome (option_and_then (λ a. a) o)) (sym (ap (slice_get (known ++ answer ∷ [])) (e ∙ sym count) ∙ slice_get-last known answer)) some)
    (λ (ne : place ≡ n → ⊥).
    subst (λ (o : Option (Option Bool)). IsSome (option_and_then (λ a. a) o)) (sym (slice_get-before known answer place (omega (arith, low, ne, count))))
    (below place other slot (omega (arith, low, ne)) there fits))
    (cases_eq place n)

pub all_known : (verdicts : List Answered) (jobs : List Job) (known : List (Option Bool)) (n : ℕ) → length jobs ≤ n → AllKnownBelow verdicts jobs n known → AreAllKnown verdicts jobs known
all_known verdicts jobs known n all below place job slot there fits =
    ⊎_elim
    (λ (h : place < n). below place job slot h there fits)
    (λ (h : n ≤ place). let none : ◌≡◌ {A = Option Job} None (Some job) = sym (slice_get_past jobs place (omega (arith, h, all))) ∙ there in absurd cc)
    (below_or place n)

-- without verdicts none fits
pub none_fits : (verdicts : List Answered) (jobs : List Job) (known : List (Option Bool)) → verdicts ≡ [] → AreAllKnown verdicts jobs known
none_fits verdicts jobs known none place job slot there fits =
    let h : ◌≡◌ {A = Option Answered} None (Some fits.own) = sym (slice_get_past verdicts slot.verdicts (subst (λ (l : List Answered). length l ≤ slot.verdicts) (sym none) (omega arith))) ∙ fits.there in absurd cc

-- a job that goes on is of the transaction of the job before it
pub same_tx : (verdicts : List Answered) (numbers : List ℕ) (jobs : List Job) (place number : ℕ) (slot : Option Slot) (before job : Job)
    → AreNumbered numbers jobs → slice_get numbers (place - 1) ≡ Some number → slice_get numbers place ≡ Some number
    → slice_get jobs (place - 1) ≡ Some before → slice_get jobs place ≡ Some job
    → IfSome slot (λ s. Fits verdicts s (question_of before)) → IfSome slot (λ s. IsOfSame verdicts s job.tx.now)
same_tx verdicts numbers jobs place number None before job numbered at_before at_place is_before is h = tt
same_tx verdicts numbers jobs place number (Some s) before job numbered at_before at_place is_before is h =
    (question_of before, h, numbered (place - 1) place number before job is_before is at_before at_place)

-- ---- tests of what is listed

-- a transaction that is read
pub tx_read : (txs : List Tx) (place : ℕ) (tx : Tx) → place < length txs → tx ≡ get_or txs place tx → tx_at txs place ≡ tx
tx_read txs place tx within is = get_or_from_slice_get txs place tx _ (slice_get_read txs (length txs) place tx refl within is)

-- where a test tells of what is listed at a place all that it has to be, it tells of the place
pub test_at : (batch : Batch) (at : ℕ) (s : Spending) (P : Spending → Type 0) (test : Bool) → slice_get batch.spendings at ≡ Some s → (test ≡ true → P s) → (P s → test ≡ true)
    → (test ≡ true → (x : Spending) × (slice_get batch.spendings at ≡ Some x) × P x) × (((x : Spending) × (slice_get batch.spendings at ≡ Some x) × P x) → test ≡ true)
test_at batch at s P test there to from = (
  λ t. (s, there, to t),
  λ h. from (subst P (some_is h.0 s (sym h.1 ∙ there)) h.2),
)

-- the first of some inputs
pub first_of : (inputs : List TxIn) (input : TxIn) → 0 < length inputs → (slice_index_or inputs 0 input).prev ≡ first_outpoint inputs
first_of [] input h = absurd (omega arith)
first_of (i ∷ inputs) input h = refl

-- a slot that was looked for is found where a verdict fits
pub some_where_fits : (verdicts : List Answered) (q : Question) (slot : Option Slot) (answer : Option Bool) → IfNone slot ((s : Slot) → ¬ Fits verdicts s q) → (IsSome slot → IsSome answer)
    → (s : Slot) → Fits verdicts s q → IsSome answer
some_where_fits verdicts q None answer none some s fits = absurd (none s fits)
some_where_fits verdicts q (Some found) answer none some s fits = some refl

-- where no slot has a job's key, no verdict fits it
pub none_without_slot : (verdicts : List Answered) (entries : List (Key × Slot)) (q : Question) (key : Key) → Covers verdicts entries → ◌≡◌ {A = Key} key (key_of q) → slot_for entries key ≡ None
    → (slot : Slot) → ¬ Fits verdicts slot q
none_without_slot verdicts entries q key covers is none slot fits =
    let some : IsSome (slot_for entries (key_of q)) = covers slot q fits in
    let both : false ≡ true = sym (ap is_some (ap (slot_for entries) (sym is) ∙ none)) ∙ some in cc

pub if_none : {A : Type 0} (o : Option A) (P : Type 0) → P → IfNone o P
if_none None P p = p
if_none (Some x) P p = tt

-- of the first so many lists and one more
pub none_next : (verdicts : List Answered) (n : ℕ) (own : Answered) (q : Question) → slice_get verdicts n ≡ Some own
    → ((at : ℕ) → slice_get (questions own.batch) at ≡ Some q → ¬ IsSome (answer_at (answers_to (known_then own) (questions own.batch)) at))
    → ((slot : Slot) → slot.verdicts < n → ¬ Fits verdicts slot q) → (slot : Slot) → slot.verdicts < n + 1 → ¬ Fits verdicts slot q
none_next verdicts n own q there none before slot low fits =
    ⊎_elim
    (λ (e : slot.verdicts ≡ n).
    let same : fits.own ≡ own = some_is fits.own own (sym fits.there ∙ ap (slice_get verdicts) e ∙ there) in
    let there_asked = subst (λ (a : Answered). slice_get (questions a.batch) slot.place ≡ Some q) same fits.asked in
    none slot.place there_asked (ap is_some (says-answered (known_then own) (questions own.batch) slot.place q fits.answer there_asked (subst (λ (a : Answered). verdict (known_then a) q ≡ Says fits.answer) same fits.says))))
    (λ (other : slot.verdicts ≡ n → ⊥). before slot (omega (arith, low, other)) fits)
    (cases_eq slot.verdicts n)

pub none_all : (verdicts : List Answered) (n : ℕ) (q : Question) → length verdicts ≤ n → ((slot : Slot) → slot.verdicts < n → ¬ Fits verdicts slot q) → (slot : Slot) → ¬ Fits verdicts slot q
none_all verdicts n q all before slot fits =
    ⊎_elim
    (λ (h : slot.verdicts < n). before slot h fits)
    (λ (h : n ≤ slot.verdicts). let none : ◌≡◌ {A = Option Answered} None (Some fits.own) = sym (slice_get_past verdicts slot.verdicts (omega (arith, h, all))) ∙ fits.there in absurd cc)
    (below_or slot.verdicts n)

-- of the first so many places and one more
module _ (own : Answered) (new : List (Key × Slot)) where
  -- each answered question below a place has a slot
  abbrev pub OwnBelow : ℕ → Type 0
  OwnBelow n = (at : ℕ) (q : Question) (answer : Bool) → at < n → slice_get (questions own.batch) at ≡ Some q → verdict (known_then own) q ≡ Says answer → IsSome (slot_for new (key_of q))

  pub own_next : (n : ℕ) (key : Key) → ((q : Question) → slice_get (questions own.batch) n ≡ Some q → ◌≡◌ {A = Key} key (key_of q)) → IsSome (slot_for new key) → OwnBelow n → OwnBelow (n + 1)
  own_next n key is some before at q answer low asked says =
      ⊎_elim
      (λ (e : at ≡ n). subst (λ (k : Key). IsSome (slot_for new k)) (is q (sym (ap (slice_get (questions own.batch)) e) ∙ asked)) some)
      (λ (other : at ≡ n → ⊥). before at q answer (omega (arith, low, other)) asked says)
      (cases_eq at n)

  -- a place without an answer needs none
  pub own_past : (n : ℕ) → ¬ IsSome (answer_at (answers_to (known_then own) (questions own.batch)) n) → OwnBelow n → OwnBelow (n + 1)
  own_past n none before at q answer low asked says =
      ⊎_elim
      (λ (e : at ≡ n). absurd (none (subst (λ k. IsSome (answer_at (answers_to (known_then own) (questions own.batch)) k)) e (ap is_some (says-answered (known_then own) (questions own.batch) at q answer asked says)))))
      (λ (other : at ≡ n → ⊥). before at q answer (omega (arith, low, other)) asked says)
      (cases_eq at n)

  pub own_all : (n : ℕ) → length own.batch.spendings ≤ n → OwnBelow n
      → (at : ℕ) (q : Question) (answer : Bool) → slice_get (questions own.batch) at ≡ Some q → verdict (known_then own) q ≡ Says answer → IsSome (slot_for new (key_of q))
  own_all n all before at q answer asked says =
      ⊎_elim
      (λ (h : at < n). before at q answer h asked says)
      (λ (h : n ≤ at).
      let a = asked_at own.batch at q asked in
      let none : ◌≡◌ {A = Option Spending} None (Some a.0) = sym (slice_get_past own.batch.spendings at (omega (arith, h, all))) ∙ a.1 in absurd cc)
      (below_or at n)

-- ---- the answer of a verdict

pub list-there : (verdicts : List Answered) (slot : Slot) (q : Question) → Fits verdicts slot q → slot.verdicts < length verdicts
list-there verdicts slot q fits = slice_get_within verdicts slot.verdicts fits.own fits.there

module _ (verdicts : List Answered) (slot : Slot) (q : Question) (own : Answered) (fits : Fits verdicts slot q) (there : slice_get verdicts slot.verdicts ≡ Some own) where
  its : fits.own ≡ own
  its = some_is fits.own own (sym fits.there ∙ there)

  -- there is one, and it is the verdict by all that is known since
  pub answer-is : (known : Known) → All (IsEarly known) verdicts → (answer : Option Bool) → answer ≡ answer_at (answers_to (known_then own) (questions own.batch)) slot.place
      → IsSome answer × IfSome answer (λ said. verdict known q ≡ Says said)
  answer-is known early answer is =
      let asked = subst (λ (a : Answered). slice_get (questions a.batch) slot.place ≡ Some q) its fits.asked in
      let says = subst (λ (a : Answered). verdict (known_then a) q ≡ Says fits.answer) its fits.says in
      let some : answer ≡ Some fits.answer = is ∙ says-answered (known_then own) (questions own.batch) slot.place q fits.answer asked says in
      let own_early = subst (IsEarly known) (get_or_from_slice_get verdicts slot.verdicts own own there) (early slot.verdicts own (list-there verdicts slot q fits)) in
      let right : verdict known q ≡ Says fits.answer = verdict-kept (known_then own) known own_early q fits.answer says in (
        ap is_some some,
        subst (λ (o : Option Bool). IfSome o (λ said. verdict known q ≡ Says said)) (sym some) right,
      )
