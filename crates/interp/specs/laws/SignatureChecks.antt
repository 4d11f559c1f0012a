-- What is computed of signatures is what the relations say.
use Rattle.std.specs.Prelude.{if◌then◌else◌}
use Rattle.std.proofs.Common.{◌≡◌, ◌⊎◌, inl, inr, ℕ, List, [], ◌∷◌, Bool, true, false, not, ◌||◌, eqb, Some, None, length, refl, sym, ap, ◌∙◌, ⊎_elim}
use Rattle.std.proofs.lemmas.Bool.{cases_lt}
use Rattle.std.proofs.lemmas.List.{nil_from_length}
use borrow.Author.Tests.{lt-ltb, le-ltb, eqb-true}
use Rattle.std.specs.Option.{option_map, option_map_or, option_and_then}
use Rattle.signatures.specs.Shape.{IsStrict}
use Rattle.signatures.specs.laws.Shape.{strict-sound, strict-again}
use Rattle.signatures.specs.computed.Shape.{is_strict}
use Rattle.interp.specs.Stack.{Stack, Bytes}
use Rattle.interp.specs.Elements.{truth_bytes}
use Rattle.interp.specs.Answer.{Says, answer_map}
use Rattle.interp.specs.Question.{Question}
use Rattle.interp.specs.Running.{base}
use Rattle.interp.specs.inside.JobContext.{spending_for}
use Rattle.interp.specs.declared.flags.Flags.{Flags}
use Rattle.interp.specs.State.{State}
use Rattle.interp.specs.Row.{Multisig}
use Rattle.interp.specs.Signatures.{signed_code, is_valid, MayBeTried, MayBeDummy, Tries}
use Rattle.interp.specs.computed.Signatures.{may_be_tried, may_be_dummy, pair_verdict, pairs_verdict}
use Rattle.interp.specs.computed.Step.{after_sig, after_taking, after_multisig, dummy_of, after_dummy, after_test}
use Rattle.interp.specs.Rules.{ChecksOne, Taken, multisig_of, with_answer, ChecksMany}
use Rattle.signatures.specs.Known.{all_known}
use Rattle.signatures.specs.Triple.{Triples}
use Rattle.interp.specs.laws.Answers.{map-some, map-says, some-says, then-some, then-says}

-- ---- a pair
pub may-sound : (flags : Flags) (signature : Bytes) → may_be_tried flags signature ≡ true → MayBeTried flags signature
unfolding may_be_tried
may-sound flags signature e = λ asked. strict-sound signature (rw asked at e)

may-again : (flags : Flags) (signature : Bytes) → MayBeTried flags signature → may_be_tried flags signature ≡ true
unfolding may_be_tried
may-again flags signature h = by flags.dersig h
  where
    by : (asked : Bool) → (asked ≡ true → IsStrict signature) → (not asked || is_strict signature) ≡ true
    by true h = strict-again signature (h refl)
    by false h = refl

-- with a table all pairs that may be tried have a verdict
pair-by : (q : Question) (triples : Triples) (code : List ℕ) (signature key : Bytes) (may empty : Bool) → may_be_tried q.flags signature ≡ may → eqb (length signature) 0 ≡ empty
    → pair_verdict (all_known triples) (base q) code signature key ≡ (if may then Says (Some (is_valid (spending_for q triples) code signature key)) else Says None)
unfolding pair_verdict is_valid
pair-by q triples code signature key false empty is e = rw is refl
pair-by q triples code signature key true true is e = rw (is, e) refl
pair-by q triples code signature key true false is e = rw (is, e) refl

judged-by : (q : Question) (triples : Triples) (code : List ℕ) (signature key : Bytes) (valid may : Bool) → may_be_tried q.flags signature ≡ may → pair_verdict (all_known triples) (base q) code signature key ≡ Says (Some valid)
    → MayBeTried q.flags signature × (is_valid (spending_for q triples) code signature key ≡ valid)
judged-by q triples code signature key valid true is e =
    let f = sym (pair-by q triples code signature key true (eqb (length signature) 0) is refl) ∙ e in (may-sound q.flags signature is, cc)
judged-by q triples code signature key valid false is e =
    let f = sym (pair-by q triples code signature key false (eqb (length signature) 0) is refl) ∙ e in cc

judged-sound : (q : Question) (triples : Triples) (code : List ℕ) (signature key : Bytes) (valid : Bool) → pair_verdict (all_known triples) (base q) code signature key ≡ Says (Some valid)
    → MayBeTried q.flags signature × (is_valid (spending_for q triples) code signature key ≡ valid)
judged-sound q triples code signature key valid e = judged-by q triples code signature key valid (may_be_tried q.flags signature) refl e

judged-again : (q : Question) (triples : Triples) (code : List ℕ) (signature key : Bytes) (valid : Bool) → MayBeTried q.flags signature → is_valid (spending_for q triples) code signature key ≡ valid
    → pair_verdict (all_known triples) (base q) code signature key ≡ Says (Some valid)
judged-again q triples code signature key valid h is =
    pair-by q triples code signature key true (eqb (length signature) 0) (may-again q.flags signature h) refl ∙ ap (λ v. Says (Some v)) is

-- ---- CHECKSIG
pub sig-sound : (q : Question) (triples : Triples) (s t : State) (main : Stack) → s.main ≡ main → after_sig (all_known triples) (base q) s main ≡ Says (Some t) → ChecksOne (spending_for q triples) s t
unfolding after_sig
sig-sound q triples s t [] is e = cc
sig-sound q triples s t (key ∷ []) is e = cc
sig-sound q triples s t (key ∷ signature ∷ rest) is e =
    let code = signed_code s.code (signature ∷ []) in
    let with_answer : Bool → State = λ valid. record s { main = truth_bytes valid ∷ rest } in
    let g = map-says (option_map with_answer) (pair_verdict (all_known triples) (base q) code signature key) (Some t) e in
    let v = map-some g.0 with_answer t g.2 in
    let j = judged-sound q triples code signature key v.0 (g.1 ∙ ap Says v.1) in
    (signature, key, rest, is, j.0, v.2 ∙ ap with_answer (sym j.1))

pub sig-again : (q : Question) (triples : Triples) (s t : State) → ChecksOne (spending_for q triples) s t → after_sig (all_known triples) (base q) s s.main ≡ Says (Some t)
unfolding after_sig
sig-again q triples s t (signature, key, rest, is, strict, after) =
    let j = judged-again q triples (signed_code s.code (signature ∷ [])) signature key _ strict refl in
    rw (is, j, after) refl

-- ---- pairs
pairs-by : (q : Question) (triples : Triples) (code : List ℕ) (signature key : Bytes) (signatures keys : List Bytes) (answer valid : Bool) → is_valid (spending_for q triples) code signature key ≡ valid
    → (if valid then pairs_verdict (all_known triples) (base q) code signatures keys else pairs_verdict (all_known triples) (base q) code (signature ∷ signatures) keys) ≡ Says (Some answer)
    → (pairs_verdict (all_known triples) (base q) code signatures keys ≡ Says (Some answer) → Tries (spending_for q triples) code signatures keys answer)
    → (pairs_verdict (all_known triples) (base q) code (signature ∷ signatures) keys ≡ Says (Some answer) → Tries (spending_for q triples) code (signature ∷ signatures) keys answer)
    → ((is_valid (spending_for q triples) code signature key ≡ true) × Tries (spending_for q triples) code signatures keys answer)
    ⊎ ((is_valid (spending_for q triples) code signature key ≡ false) × Tries (spending_for q triples) code (signature ∷ signatures) keys answer)
pairs-by q triples code signature key signatures keys answer true is e used kept = inl (is, used e)
pairs-by q triples code signature key signatures keys answer false is e used kept = inr (is, kept e)

tried-sound : (q : Question) (triples : Triples) (code : List ℕ) (signatures keys : List Bytes) (answer : Bool) → pairs_verdict (all_known triples) (base q) code signatures keys ≡ Says (Some answer)
    → Tries (spending_for q triples) code signatures keys answer
unfolding pairs_verdict
tried-sound q triples code [] keys answer e = cc
tried-sound q triples code (signature ∷ signatures) [] answer e = cc
tried-sound q triples code (signature ∷ signatures) (key ∷ keys) answer e =
    let known = all_known triples in
    ⊎_elim (λ short. let f = rw (lt-ltb (length keys) (length signatures) short) at e in inl (short, cc))
    (λ enough.
    let f = rw (le-ltb (length keys) (length signatures) enough) at e in
    let h = then-says (λ valid. (if valid then pairs_verdict known (base q) code signatures keys else pairs_verdict known (base q) code (signature ∷ signatures) keys)) (pair_verdict known (base q) code signature key) answer f in
    let j = judged-sound q triples code signature key h.0 h.1 in
    inr (enough, j.0, pairs-by q triples code signature key signatures keys answer h.0 j.1 h.2 (tried-sound q triples code signatures keys answer) (tried-sound q triples code (signature ∷ signatures) keys answer)))
    (cases_lt (length keys) (length signatures))

tried-again : (q : Question) (triples : Triples) (code : List ℕ) (signatures keys : List Bytes) (answer : Bool) → Tries (spending_for q triples) code signatures keys answer
    → pairs_verdict (all_known triples) (base q) code signatures keys ≡ Says (Some answer)
unfolding pairs_verdict
tried-again q triples code [] keys answer r = ap (λ a. Says (Some a)) (sym r)
tried-again q triples code (signature ∷ signatures) [] answer r = ap (λ a. Says (Some a)) (sym r)
tried-again q triples code (signature ∷ signatures) (key ∷ keys) answer r =
    ⊎_elim (λ h. rw (lt-ltb (length keys) (length signatures) h.0, h.1) refl)
    (λ h. ⊎_elim (λ v. rw (le-ltb (length keys) (length signatures) h.0, judged-again q triples code signature key true h.1 v.0) (tried-again q triples code signatures keys answer v.1))
    (λ v. rw (le-ltb (length keys) (length signatures) h.0, judged-again q triples code signature key false h.1 v.0) (tried-again q triples code (signature ∷ signatures) keys answer v.1)) h.2) r

-- ---- CHECKMULTISIG
dummy-sound : (flags : Flags) (dummy : Bytes) → may_be_dummy flags dummy ≡ true → MayBeDummy flags dummy
unfolding may_be_dummy
dummy-sound flags dummy e = λ asked. nil_from_length dummy (eqb-true (length dummy) 0 (by (eqb (length dummy) 0) (ap (λ in_force. eqb (length dummy) 0 || not in_force) (sym asked) ∙ e)))
  where
    by : (empty : Bool) → (empty || false) ≡ true → empty ≡ true
    by true h = refl
    by false h = h

dummy-again : (flags : Flags) (dummy : Bytes) → MayBeDummy flags dummy → may_be_dummy flags dummy ≡ true
unfolding may_be_dummy
dummy-again flags dummy h = by flags.nulldummy h
  where
    either : (empty : Bool) → (empty || true) ≡ true
    either true = refl
    either false = refl

    by : (asked : Bool) → (asked ≡ true → dummy ≡ []) → (eqb (length dummy) 0 || not asked) ≡ true
    by true h = rw (h refl) refl
    by false h = either (eqb (length dummy) 0)

-- the element more, looked at once the answer is there
after-sound : (flags : Flags) (s answered t : State) (taken : Taken) → multisig_of s ≡ Some taken → after_dummy flags s answered ≡ Some t → MayBeDummy flags taken.dummy × (answered ≡ t)
unfolding after_dummy
after-sound flags s answered t taken takes e = by (may_be_dummy flags (dummy_of s)) refl e
  where
    same : dummy_of s ≡ taken.dummy
    same = ap (λ o. option_map_or (λ (found : Taken). found.dummy) o []) takes

    by : (may : Bool) → may_be_dummy flags (dummy_of s) ≡ may → (if may then Some answered else None) ≡ Some t → MayBeDummy flags taken.dummy × (answered ≡ t)
    by true is e = (dummy-sound flags taken.dummy (ap (may_be_dummy flags) (sym same) ∙ is), cc)
    by false is e = cc

after-again : (flags : Flags) (s answered : State) (taken : Taken) → multisig_of s ≡ Some taken → MayBeDummy flags taken.dummy → after_dummy flags s answered ≡ Some answered
unfolding after_dummy
after-again flags s answered taken takes h =
    let same : dummy_of s ≡ taken.dummy = ap (λ o. option_map_or (λ (found : Taken). found.dummy) o []) takes in
    let may : may_be_dummy flags (dummy_of s) ≡ true = ap (may_be_dummy flags) same ∙ dummy-again flags taken.dummy h in
    rw may refl

pub multisig-sound : (q : Question) (triples : Triples) (s t : State) → after_test (all_known triples) (base q) Multisig s ≡ Says (Some t) → ChecksMany (spending_for q triples) s t
unfolding after_multisig
multisig-sound q triples s t e =
    let known = all_known triples in
    let d = map-says (option_and_then (after_dummy q.flags s)) (after_multisig known (base q) s) (Some t) e in
    let v = then-some d.0 (after_dummy q.flags s) t d.2 in
    let h = some-says (after_taking known (base q) s) (multisig_of s) v.0 (d.1 ∙ ap Says v.1) in
    let o = map-says (option_map (with_answer s h.0)) (pairs_verdict known (base q) (signed_code s.code h.0.signatures) h.0.signatures h.0.keys) (Some v.0) h.2 in
    let g = map-some o.0 (with_answer s h.0) v.0 o.2 in
    let n = after-sound q.flags s v.0 t h.0 h.1 v.2 in
    (h.0, g.0, h.1, tried-sound q triples (signed_code s.code h.0.signatures) h.0.signatures h.0.keys g.0 (o.1 ∙ ap Says g.1), n.0, sym n.1 ∙ g.2)

pub multisig-again : (q : Question) (triples : Triples) (s t : State) → ChecksMany (spending_for q triples) s t → after_test (all_known triples) (base q) Multisig s ≡ Says (Some t)
unfolding after_multisig
multisig-again q triples s t (taken, answer, takes, tries, may, after) =
    let answered : after_multisig (all_known triples) (base q) s ≡ Says (Some (with_answer s taken answer)) =
    rw (takes, tried-again q triples (signed_code s.code taken.signatures) taken.signatures taken.keys answer tries) refl in
    ap (answer_map (option_and_then (after_dummy q.flags s))) answered
    ∙ ap Says (after-again q.flags s (with_answer s taken answer) taken takes may) ∙ ap (λ u. Says (Some u)) (sym after)
