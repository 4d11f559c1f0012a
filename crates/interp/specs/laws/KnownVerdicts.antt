-- What was answered stays so however much more is known; what was wanted is wanted until it is known.
use Rattle.std.specs.Prelude.{if◌then◌else◌, ◌&&◌}
use Rattle.std.proofs.Common.{◌≡◌, ℕ, List, [], ◌∷◌, ◌++◌, Bool, true, false, Option, Some, None, length, ltb, eqb, slice_get, refl, sym, ap, ◌∙◌}
use Rattle.std.specs.List.{concat}
use Rattle.script.specs.Ops.{ops, rest}
use Rattle.script.specs.Kinds.{is_push_only, is_p2sh}
use Rattle.txn.specs.declared.input.TxIn.{TxIn}
use Rattle.signatures.specs.Known.{Known}
use Rattle.signatures.specs.Triple.{Triple}
use Rattle.signatures.specs.laws.Growth.{Grows}
use Rattle.interp.specs.Answer.{Answer, Says, Wants, answer_map, on_some, and_then, also}
use Rattle.interp.specs.Question.{Question}
use Rattle.interp.specs.Running.{Running, base, code_with}
use Rattle.interp.specs.Stack.{Stack, Bytes}
use Rattle.interp.specs.State.{State, is_executing, start}
use Rattle.interp.specs.Row.{Check, Of, Sig, Multisig, Row, Does, Controls, Tests, AndVerifies, Separates, Asks, row_of}
use Rattle.interp.specs.Rules.{multisig_of, with_count}
use Rattle.interp.specs.computed.Signatures.{may_be_tried, triple_for, verdict_or_wanted, pair_verdict, pairs_verdict}
use Rattle.interp.specs.computed.Step.{after_sig, after_multisig, after_test, after_executing, after_acting, step_at, step, run, outcome, ends_true, inner_outcome, inner_verdict, verdict_on, verdict_after, verdict_with, verdict_of_input, verdict}

-- What the first says the second says. Of a triple that the first wants nothing is known, and the second wants it where nothing
-- is known of it still.
abbrev Stays : Known → Known → {A : Type 0} → Answer A → Answer A → Type 0
Stays known more (Says x) b = b ≡ Says x
Stays known more (Wants t) b = (known t ≡ None) × (more t ≡ None → b ≡ Wants t)

module _ (known more : Known) where
  map-stays : {A B : Type 0} (f : A → B) (a b : Answer A) → Stays known more a b → Stays known more (answer_map f a) (answer_map f b)
  map-stays f (Says x) b h = ap (answer_map f) h
  map-stays f (Wants t) b h = (h.0, λ none. ap (answer_map f) (h.1 none))

  some-stays : {A B : Type 0} (f g : A → Answer (Option B)) (o : Option A) → ((x : A) → Stays known more (f x) (g x)) → Stays known more (on_some f o) (on_some g o)
  some-stays f g (Some x) h = h x
  some-stays f g None h = refl

  then-stays : {A B : Type 0} (f g : A → Answer (Option B)) (a b : Answer (Option A)) → ((x : A) → Stays known more (f x) (g x)) → Stays known more a b → Stays known more (and_then f a) (and_then g b)
  then-stays f g (Says o) b h k = rw k (some-stays f g o h)
  then-stays f g (Wants t) b h k = (k.0, λ none. ap (and_then g) (k.1 none))

  also-stays : (a b c d : Answer Bool) → Stays known more a b → Stays known more c d → Stays known more (also a c) (also b d)
  also-stays (Says true) b c d h k = rw h k
  also-stays (Says false) b c d h k = rw h refl
  also-stays (Wants t) b c d h k = (h.0, λ none. ap (λ a. also a d) (h.1 none))

  if-stays : {A : Type 0} (b : Bool) (f g h k : Answer A) → Stays known more f g → Stays known more h k → Stays known more (if b then f else h) (if b then g else k)
  if-stays true f g h k s t = s
  if-stays false f g h k s t = t

module _ (known more : Known) (grows : Grows known more) (r : Running) where
  wanted-stays : (t : Triple) (o : Option Bool) → known t ≡ o → Stays known more (verdict_or_wanted o t) (verdict_or_wanted (more t) t)
  wanted-stays t (Some valid) is = rw (grows t valid is) refl
  wanted-stays t None is = (is, λ none. ap (λ o. verdict_or_wanted o t) none)

  pair-stays : (code : List ℕ) (signature key : Bytes) → Stays known more (pair_verdict known r code signature key) (pair_verdict more r code signature key)
  unfolding pair_verdict
  pair-stays code signature key =
      if-stays known more (may_be_tried r.flags signature) _ _ _ _
      (if-stays known more (eqb (length signature) 0) _ _ _ _ refl (map-stays known more Some _ _ (wanted-stays (triple_for r code signature key) (known (triple_for r code signature key)) refl))) refl

  pairs-stay : (code : List ℕ) (signatures keys : List Bytes) → Stays known more (pairs_verdict known r code signatures keys) (pairs_verdict more r code signatures keys)
  unfolding pairs_verdict
  pairs-stay code [] keys = refl
  pairs-stay code (signature ∷ signatures) [] = refl
  pairs-stay code (signature ∷ signatures) (key ∷ keys) =
      if-stays known more (ltb (length keys) (length signatures)) _ _ _ _ refl
      (then-stays known more _ _ _ _ (λ valid. if-stays known more valid _ _ _ _ (pairs-stay code signatures keys) (pairs-stay code (signature ∷ signatures) keys)) (pair-stays code signature key))

  sig-stays : (s : State) (main : Stack) → Stays known more (after_sig known r s main) (after_sig more r s main)
  unfolding after_sig
  sig-stays s [] = refl
  sig-stays s (key ∷ []) = refl
  sig-stays s (key ∷ signature ∷ rest) = map-stays known more _ _ _ (pair-stays (code_with r.value s.code (signature ∷ [])) signature key)

  multisig-stays : (s : State) → Stays known more (after_multisig known r s) (after_multisig more r s)
  unfolding after_multisig
  multisig-stays s = some-stays known more _ _ (multisig_of s) (λ taken. map-stays known more _ _ _ (pairs-stay _ _ _))

  test-stays : (check : Check) (s : State) → Stays known more (after_test known r check s) (after_test more r check s)
  test-stays (Of f) s = refl
  test-stays Sig s = sig-stays s s.main
  test-stays Multisig s = map-stays known more _ _ _ (multisig-stays s)

  executing-stays : (after : List ℕ) (row : Row) (s : State) → Stays known more (after_executing known r after row s) (after_executing more r after row s)
  executing-stays after (Does f) s = refl
  executing-stays after (Controls f untaken) s = refl
  executing-stays after (Tests check) s = test-stays check s
  executing-stays after (AndVerifies check) s = map-stays known more _ _ _ (test-stays check s)
  executing-stays after Separates s = refl
  executing-stays after (Asks in_force test) s = refl

  acting-stays : (after : List ℕ) (row : Row) (s : State) → Stays known more (after_acting known r after row s) (after_acting more r after row s)
  unfolding after_acting
  acting-stays after row s = if-stays known more (is_executing s) _ _ _ _ (executing-stays after row s) refl

  step-stays : (after op : List ℕ) (s : State) → Stays known more (step known r after op s) (step more r after op s)
  unfolding step step_at
  step-stays after [] s = refl
  step-stays after (number ∷ bytes) s =
      some-stays known more _ _ (with_count number s) (λ counted. map-stays known more _ _ _ (acting-stays after (row_of (number ∷ bytes)) counted))

  run-stays : (left : List ℕ) (list : List (List ℕ)) (s : State) → Stays known more (run known r left list s) (run more r left list s)
  unfolding run
  run-stays left [] s = refl
  run-stays left (op ∷ others) s = then-stays known more _ _ _ _ (run-stays left others) (step-stays (concat others ++ left) op s)

  outcome-stays : (script : List ℕ) (stack : Stack) → Stays known more (outcome known r script stack) (outcome more r script stack)
  unfolding outcome
  outcome-stays script stack =
      if-stays known more (ltb 10000 (length script)) _ _ _ _ refl (map-stays known more _ _ _ (run-stays (rest script) (ops script) (start script stack)))

  ends-stay : (a b : Answer (Option Stack)) → Stays known more a b → Stays known more (ends_true a) (ends_true b)
  unfolding ends_true
  ends-stay a b h = map-stays known more _ a b h

  inner-outcome-stays : (left : Stack) → Stays known more (inner_outcome known r left) (inner_outcome more r left)
  inner-outcome-stays [] = refl
  inner-outcome-stays (inner ∷ others) = outcome-stays inner others

module _ (known more : Known) (grows : Grows known more) (q : Question) where
  inner-stays : (script : List ℕ) (left : Stack) → Stays known more (inner_verdict known q script left) (inner_verdict more q script left)
  unfolding inner_verdict
  inner-stays script left = if-stays known more (is_push_only script) _ _ _ _ (ends-stay known more grows (base q) _ _ (inner-outcome-stays known more grows (base q) left)) refl

  on-stays : (script : List ℕ) (left : Stack) → Stays known more (verdict_on known q script left) (verdict_on more q script left)
  unfolding verdict_on
  on-stays script left =
      also-stays known more _ _ _ _ (ends-stay known more grows (base q) _ _ (outcome-stays known more grows (base q) q.spent left)) (if-stays known more (q.flags.p2sh && is_p2sh q.spent) _ _ _ _ (inner-stays script left) refl)

  after-stays : (script : List ℕ) (a b : Answer (Option Stack)) → Stays known more a b → Stays known more (verdict_after known q script a) (verdict_after more q script b)
  after-stays script (Says (Some left)) b h = rw h (on-stays script left)
  after-stays script (Says None) b h = rw h refl
  after-stays script (Wants t) b h = (h.0, λ none. ap (verdict_after more q script) (h.1 none))

  input-stays : (own : Option TxIn) → Stays known more (verdict_of_input known q own) (verdict_of_input more q own)
  unfolding verdict_with
  input-stays (Some own) = after-stays own.script _ _ (outcome-stays known more grows (base q) own.script [])
  input-stays None = refl

  verdict-stays : Stays known more (verdict known q) (verdict more q)
  unfolding verdict
  verdict-stays = input-stays (slice_get q.tx.inputs q.input)

says-by : (known more : Known) (a b : Answer Bool) (answer : Bool) → Stays known more a b → a ≡ Says answer → b ≡ Says answer
says-by known more (Says x) b answer h e = h ∙ e
says-by known more (Wants t) b answer h e = cc

wants-by : (known more : Known) (a b : Answer Bool) (t : Triple) → Stays known more a b → a ≡ Wants t → (known t ≡ None) × (more t ≡ None → b ≡ Wants t)
wants-by known more (Says x) b t h e = cc
wants-by known more (Wants u) b t h e =
    let same : u ≡ t = cc in
    (ap known (sym same) ∙ h.0, λ none. h.1 (ap more same ∙ none) ∙ ap Wants same)

pub verdict-kept : (known more : Known) → Grows known more → (q : Question) (answer : Bool) → verdict known q ≡ Says answer → verdict more q ≡ Says answer
verdict-kept known more grows q answer e = says-by known more (verdict known q) (verdict more q) answer (verdict-stays known more grows q) e

-- a triple that was wanted is wanted as long as nothing is known of it
pub want-kept : (known more : Known) → Grows known more → (q : Question) (t : Triple) → verdict known q ≡ Wants t → more t ≡ None → verdict more q ≡ Wants t
want-kept known more grows q t e none = (wants-by known more (verdict known q) (verdict more q) t (verdict-stays known more grows q) e).1 none

pub wanted-unknown : (known : Known) (q : Question) (t : Triple) → verdict known q ≡ Wants t → known t ≡ None
wanted-unknown known q t e = (wants-by known known (verdict known q) (verdict known q) t (verdict-stays known known (λ u valid is. is) q) e).0
