-- CHECKMULTISIG's pairs, a key at a time.
use Rattle.std.specs.Prelude.{if◌then◌else◌}
use Rattle.std.proofs.Common.{◌≡◌, ℕ, zero, suc, ◌+◌, ◌-◌, ◌<◌, ◌≤◌, ◌==◌, ◌⊎◌, inl, inr, List, [], ◌∷◌, Bool, true, false, not, ◌||◌, eqb, ltb, Option, Some, None, length, drop, get_or, slice_get, refl, sym, ap, ◌∙◌, length-drop, arith}
use Rattle.std.specs.Borrow.{Bor}
use Rattle.std.proofs.lemmas.List.{get_or-map, length-map}
use Rattle.std.proofs.lemmas.Bool.{cases_lt, eq-eqb}
use borrow.Author.Tests.{ne_eqb, lt-ltb, le-ltb}
use Rattle.script.specs.Removal.{bytes_of}
use Rattle.signatures.specs.Known.{Known}
use Rattle.signatures.specs.Triple.{Triple, triple_of}
use Rattle.interp.specs.Answer.{Answer, Says, Wants, answer_map, and_then}
use Rattle.interp.specs.Running.{Running, digest_with, code_with}
use Rattle.interp.specs.Signatures.{signature_proper, type_of}
use Rattle.signatures.specs.computed.Shape.{is_strict}
use Rattle.interp.specs.declared.flags.Flags.{Flags}
use Rattle.interp.specs.Stack.{Bytes, Stack, nth}
use Rattle.interp.specs.inside.Multisig.{keys_in, signatures_in, multisig_answer}
use Rattle.interp.specs.computed.Signatures.{may_be_tried, verdict_or_wanted, pair_verdict, pairs_verdict}

-- ---- lists
pub split : (xs : List Bytes) (k : ℕ) → k < length xs → drop k xs ≡ nth xs k ∷ drop (k + 1) xs
split [] k h = absurd (omega arith)
split (x ∷ xs) zero h = refl
split (x ∷ xs) (suc k) h =
    let one : suc k + 1 ≡ suc (k + 1) = omega arith in split xs k (omega arith) ∙ ap (λ n. nth xs k ∷ drop n (x ∷ xs)) (sym one)

pub nth-bytes : (xs : List (Bor (List ℕ))) (k : ℕ) (d : Bor (List ℕ)) → k < length xs → nth (bytes_of xs) k ≡ (get_or xs k d).now
nth-bytes xs k d h = get_or-map (λ x. x.now) xs k d [] h

pub many : (xs : List (Bor (List ℕ))) → length (bytes_of xs) ≡ length xs
many xs = length-map xs (λ x. x.now)

module _ (known : Known) (r : Running) (code : List ℕ) where
  -- ---- a pair
  pub pair-unshaped : (signature key : Bytes) → may_be_tried r.flags signature ≡ false → pair_verdict known r code signature key ≡ Says None
  unfolding pair_verdict
  pair-unshaped signature key shaped = rw shaped refl

  pub pair-empty : (signature key : Bytes) → may_be_tried r.flags signature ≡ true → length signature ≡ 0 → pair_verdict known r code signature key ≡ Says (Some false)
  unfolding pair_verdict
  pair-empty signature key shaped none = rw (shaped, none) refl

  pub pair-asked : (signature key digest : Bytes) → may_be_tried r.flags signature ≡ true → 0 < length signature → digest ≡ digest_with r.value r.tx r.input code (type_of signature)
      → pair_verdict known r code signature key
      ≡ answer_map Some (verdict_or_wanted (known (triple_of key (signature_proper signature) digest)) (triple_of key (signature_proper signature) digest))
  unfolding pair_verdict
  pair-asked signature key digest shaped some is = rw (shaped, ne_eqb (length signature) 0 (λ e. omega arith), is) refl

  -- ---- all pairs
  none-left : (signatures keys : List Bytes) (used : ℕ) → length signatures ≤ used → pairs_verdict known r code (drop used signatures) keys ≡ Says (Some true)
  unfolding pairs_verdict
  none-left signatures keys used h = by (drop used signatures) (omega (arith, length-drop used signatures))
    where
      by : (xs : List Bytes) → length xs ≡ 0 → pairs_verdict known r code xs keys ≡ Says (Some true)
      by [] none = refl
      by (x ∷ xs) none = absurd (omega arith)

  too-few : (signatures keys : List Bytes) (used : ℕ) → used < length signatures → length keys < length signatures - used → pairs_verdict known r code (drop used signatures) keys ≡ Says (Some false)
  unfolding pairs_verdict
  too-few signatures [] used h few = rw (split signatures used h) refl
  too-few signatures (k ∷ keys) used h few =
      rw (split signatures used h, lt-ltb (length keys) (length (drop (used + 1) signatures)) (omega (arith, length-drop (used + 1) signatures))) refl

  next : (signatures keys : List Bytes) (used place : ℕ) → used < length signatures → place < length keys → length signatures - used ≤ length keys - place
      → pairs_verdict known r code (drop used signatures) (drop place keys)
      ≡ and_then (λ valid. if valid then pairs_verdict known r code (drop (used + 1) signatures) (drop (place + 1) keys) else pairs_verdict known r code (drop used signatures) (drop (place + 1) keys))
      (pair_verdict known r code (nth signatures used) (nth keys place))
  unfolding pairs_verdict
  next signatures keys used place h below enough =
      rw (split signatures used h, split keys place below, le-ltb (length (drop (place + 1) keys)) (length (drop (used + 1) signatures)) (omega (arith, length-drop (place + 1) keys, length-drop (used + 1) signatures))) refl

-- a signature that isn't used up, and a key that was not tried with it, of slices that are long enough
pub record Turn (signatures keys : List (Bor (List ℕ))) (used place : ℕ) (signature key : Bytes) : Type 0 where
  pub first : nth (bytes_of signatures) used ≡ signature
  pub tried : nth (bytes_of keys) place ≡ key
  pub inside : used < length signatures
  pub below : place < length keys
  pub enough : length signatures - used ≤ length keys - place

pub turn-of : (signatures keys : List (Bor (List ℕ))) (used place : ℕ) (s d : Bor (List ℕ)) → used < length signatures → s ≡ get_or signatures used s → place < length keys → length signatures - used ≤ length keys - place
    → Turn signatures keys used place s.now (get_or keys place d).now
turn-of signatures keys used place s d inside is below enough = record {
  first = nth-bytes signatures used s inside ∙ ap (λ x. x.now) (sym is);
  tried = nth-bytes keys place d below;
  inside = inside;
  below = below;
  enough = enough;
}

pub some-there : (n : ℕ) → false ≡ eqb n 0 → 0 < n
some-there zero e = cc
some-there (suc n) e = omega arith

module _ (known : Known) (r : Running) (code : List ℕ) (signatures keys : List (Bor (List ℕ))) (used place : ℕ) where
  abbrev left : ℕ → ℕ → Answer (Option Bool)
  left used place = pairs_verdict known r code (drop used (bytes_of signatures)) (drop place (bytes_of keys))

  -- what comes next, once the verdict on the pair is known
  abbrev onward : Bool → Answer (Option Bool)
  onward valid = if valid then left (used + 1) (place + 1) else left used (place + 1)

  pub ended : length keys ≤ place → used ≤ length signatures → left used place ≡ Says (Some (used == length signatures))
  ended over within = by (cases_lt used (length signatures))
    where
      by : (used < length signatures) ⊎ (length signatures ≤ used) → left used place ≡ Says (Some (used == length signatures))
      by (inl h) =
          too-few known r code (bytes_of signatures) (drop place (bytes_of keys)) used (omega (arith, many signatures)) (omega (arith, many signatures, many keys, length-drop place (bytes_of keys)))
          ∙ ap (λ b. Says (Some b)) (sym (ne_eqb used (length signatures) (λ e. omega arith)))
      by (inr h) =
          none-left known r code (bytes_of signatures) (drop place (bytes_of keys)) used (omega (arith, many signatures))
          ∙ ap (λ b. Says (Some b)) (sym (eq-eqb used (length signatures) (omega arith)))

  pub used-up : length signatures ≤ used → left used place ≡ Says (Some true)
  used-up h = none-left known r code (bytes_of signatures) (drop place (bytes_of keys)) used (omega (arith, many signatures))

  pub few-left : used < length signatures → length keys - place < length signatures - used → left used place ≡ Says (Some false)
  few-left h few = too-few known r code (bytes_of signatures) (drop place (bytes_of keys)) used (omega (arith, many signatures)) (omega (arith, many signatures, many keys, length-drop place (bytes_of keys)))

  module _ (signature key : Bytes) (turn : Turn signatures keys used place signature key) where
    turned : left used place ≡ and_then onward (pair_verdict known r code signature key)
    turned =
        next known r code (bytes_of signatures) (bytes_of keys) used place (omega (arith, turn.inside, many signatures)) (omega (arith, turn.below, many keys)) (omega (arith, turn.enough, many signatures, many keys))
        ∙ ap (λ s. and_then onward (pair_verdict known r code s (nth (bytes_of keys) place))) turn.first ∙ ap (λ k. and_then onward (pair_verdict known r code signature k)) turn.tried

    pub unshaped : may_be_tried r.flags signature ≡ false → left used place ≡ Says None
    unshaped shaped = turned ∙ ap (and_then onward) (pair-unshaped known r code signature key shaped)

    pub empty : may_be_tried r.flags signature ≡ true → length signature ≡ 0 → left used place ≡ left used (place + 1)
    empty shaped none = turned ∙ ap (and_then onward) (pair-empty known r code signature key shaped none)

    module _ (digest : Bytes) (shaped : may_be_tried r.flags signature ≡ true) (some : 0 < length signature) (is : digest ≡ digest_with r.value r.tx r.input code (type_of signature)) where
      abbrev asked : Answer Bool
      asked = verdict_or_wanted (known (triple_of key (signature_proper signature) digest)) (triple_of key (signature_proper signature) digest)

      judged : (a : Answer Bool) → asked ≡ a → left used place ≡ and_then onward (answer_map Some a)
      judged a e = turned ∙ ap (and_then onward) (pair-asked known r code signature key digest shaped some is ∙ ap (answer_map Some) e)

      pub wanted : (t : Triple) → asked ≡ Wants t → left used place ≡ Wants t
      wanted t e = judged (Wants t) e

      pub valid : asked ≡ Says true → left used place ≡ left (used + 1) (place + 1)
      valid e = judged (Says true) e

      pub invalid : asked ≡ Says false → left used place ≡ left used (place + 1)
      invalid e = judged (Says false) e

-- ---- where no code is needed
no-bytes : (flags : Flags) (signature : Bytes) → length signature ≡ 0 → may_be_tried flags signature ≡ true
unfolding may_be_tried is_strict
no-bytes flags signature none = rw none (or_true (not flags.dersig))
  where
    or_true : (b : Bool) → (b || true) ≡ true
    or_true true = refl
    or_true false = refl

-- an empty signature is valid for no key
tried-none : (known : Known) (r : Running) (code : List ℕ) (signature : Bytes) (others keys : List Bytes) → length signature ≡ 0 → pairs_verdict known r code (signature ∷ others) keys ≡ Says (Some false)
unfolding pairs_verdict
tried-none known r code signature others [] none = refl
tried-none known r code signature others (key ∷ keys) none =
    by (ltb (length keys) (length others)) (pair-empty known r code signature key (no-bytes r.flags signature none) none) (tried-none known r code signature others keys none)
  where
    by : (few : Bool) → pair_verdict known r code signature key ≡ Says (Some false) → pairs_verdict known r code (signature ∷ others) keys ≡ Says (Some false)
        → (if few then Says (Some false) else and_then (λ valid. if valid then pairs_verdict known r code others keys else pairs_verdict known r code (signature ∷ others) keys) (pair_verdict known r code signature key)) ≡ Says (Some false)
    by true e later = refl
    by false e later = rw e later

pub answer-none : (known : Known) (r : Running) (code : List ℕ) (s : Stack) (counts : ℕ × ℕ) (slices : List (Bor (List ℕ))) → bytes_of slices ≡ signatures_in counts.0 counts.1 s → None ≡ slice_get slices 0
    → multisig_answer known r code s counts ≡ Says (Some true)
unfolding pairs_verdict
answer-none known r code s counts [] is none = rw (sym is) refl
answer-none known r code s counts (slice ∷ slices) is none = cc

pub answer-empty : (known : Known) (r : Running) (code : List ℕ) (s : Stack) (counts : ℕ × ℕ) (first : Bor (List ℕ)) (slices : List (Bor (List ℕ))) → bytes_of slices ≡ signatures_in counts.0 counts.1 s → Some first ≡ slice_get slices 0 → length first.now ≡ 0
    → multisig_answer known r code s counts ≡ Says (Some false)
answer-empty known r code s counts first [] is there none = cc
answer-empty known r code s counts first (slice ∷ slices) is there none =
    let same : first ≡ slice = cc in
    let no_bytes : length slice.now ≡ 0 = ap (λ (x : Bor (List ℕ)). length x.now) (sym same) ∙ none in
    ap (λ ss. pairs_verdict known r (code_with r.value code ss) ss (keys_in counts.0 s)) (sym is)
    ∙ tried-none known r (code_with r.value code (bytes_of (slice ∷ slices))) slice.now (bytes_of slices) (keys_in counts.0 s) no_bytes
