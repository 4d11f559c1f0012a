-- The test of the strict encoding holds exactly where the grammar does.
use Rattle.std.proofs.Common.{◌≡◌, inl, inr, ℕ, zero, suc, List, [], ◌∷◌, ◌++◌, Bool, true, false, not, ◌&&◌, ◌||◌, nat_lt, nat_le, eqb, IsTrue, length, take, drop, slice_index, refl, sym, ap, ◌∙◌, ⊎_elim, append_assoc, arith}
use Rattle.std.specs.Str.{bytes_eq}
use Rattle.std.proofs.lemmas.Slice.Eq.{bytes_eq-Decides}
use Rattle.std.proofs.lemmas.Bool.{and_parts, and_from, leb-true, ltb-true}
use Rattle.std.proofs.lemmas.List.{take_at, drop_at}
use borrow.Author.Tests.{lt-ltb, le-leb, ne_eqb}
use Rattle.signatures.specs.Shape.{IsInteger, integer, signature, IsSignature, IsStrict}
use Rattle.signatures.specs.computed.Shape.{is_integer, r_in, after_r, s_in, type_in, is_signature, is_strict}

integer-sound : (bytes : List ℕ) → is_integer bytes ≡ true → IsInteger bytes
integer-sound [] e = cc
integer-sound (byte ∷ []) e = ltb-true byte 128 e
integer-sound (byte ∷ next ∷ more) e =
    let both = and_parts (nat_lt byte 0x80) (not (eqb byte 0) || nat_le 0x80 next) e in
    (ltb-true byte 128 both.0, λ z. leb-true 128 next (rw z at both.1))

integer-again : (bytes : List ℕ) → IsInteger bytes → is_integer bytes ≡ true
integer-again [] h = absurd h
integer-again (byte ∷ []) h = lt-ltb byte 128 h
integer-again (zero ∷ next ∷ more) h = le-leb 128 next (h.1 refl)
integer-again (suc byte ∷ next ∷ more) h = rw (lt-ltb (suc byte) 128 h.0, ne_eqb (suc byte) 0 (λ e. omega arith)) refl

-- the parts of a spelled signature are found
parts : (r s : List ℕ) (kind : ℕ) → (r_in (signature r s kind) ≡ r) × (s_in (signature r s kind) ≡ s) × (type_in (signature r s kind) ≡ kind)
parts r s kind =
    let more = integer s ++ kind ∷ [] in
    let split : (r ++ integer s) ++ kind ∷ [] ≡ r ++ more = append_assoc r (integer s) (kind ∷ []) in
    let after : after_r (signature r s kind) ≡ more = ap (drop (length r)) split ∙ drop_at r more (length r) refl in (
      ap (take (length r)) split ∙ take_at r more (length r) refl,
      ap (λ bytes. take (slice_index bytes 1) (drop 2 bytes)) after ∙ take_at s (kind ∷ []) (length s) refl,
      ap (λ bytes. slice_index (drop (slice_index bytes 1) (drop 2 bytes)) 0) after ∙ ap (λ bytes. slice_index bytes 0) (drop_at s (kind ∷ []) (length s) refl),
    )

signature-sound : (bytes : List ℕ) → is_signature bytes ≡ true → IsSignature bytes
signature-sound bytes e =
    let r = r_in bytes in
    let s = s_in bytes in
    let same = bytes_eq bytes (signature r s (type_in bytes)) in
    let last = and_parts (is_integer r && is_integer s && same) (nat_le (length bytes) 73) e in
    let next = and_parts (is_integer r && is_integer s) same last.0 in
    let first = and_parts (is_integer r) (is_integer s) next.0 in
    record {
      r = r;
      s = s;
      kind = type_in bytes;
      r_is = integer-sound r first.0;
      s_is = integer-sound s first.1;
      spelled = (bytes_eq-Decides bytes (signature r s (type_in bytes))).0 next.1;
      short = leb-true (length bytes) 73 last.1;
    }

signature-again : (bytes : List ℕ) → IsSignature bytes → is_signature bytes ≡ true
signature-again bytes h =
    let p = parts h.r h.s h.kind in
    let r_is : r_in bytes ≡ h.r = ap r_in h.spelled ∙ p.0 in
    let s_is : s_in bytes ≡ h.s = ap s_in h.spelled ∙ p.1 in
    let kind_is : type_in bytes ≡ h.kind = ap type_in h.spelled ∙ p.2 in
    let same : bytes ≡ signature (r_in bytes) (s_in bytes) (type_in bytes) = h.spelled ∙ cc in
    and_from _ _ (and_from _ _ (and_from _ _ (ap is_integer r_is ∙ integer-again h.r h.r_is) (ap is_integer s_is ∙ integer-again h.s h.s_is))
    ((bytes_eq-Decides bytes (signature (r_in bytes) (s_in bytes) (type_in bytes))).1 same)) (le-leb (length bytes) 73 h.short)

pub strict-sound : (bytes : List ℕ) → is_strict bytes ≡ true → IsStrict bytes
unfolding is_strict
strict-sound [] e = inl refl
strict-sound (b ∷ bytes) e = inr (signature-sound (b ∷ bytes) (rw (ne_eqb (length (b ∷ bytes)) 0 (λ z. omega arith)) at e))

pub strict-again : (bytes : List ℕ) → IsStrict bytes → is_strict bytes ≡ true
unfolding is_strict
strict-again [] h = refl
strict-again (b ∷ bytes) h =
    ⊎_elim (λ e. cc) (λ is. rw (ne_eqb (length (b ∷ bytes)) 0 (λ z. omega arith)) (signature-again (b ∷ bytes) is)) h

-- the same, of the two cases
pub strict-empty : (bytes : List ℕ) → true ≡ eqb (length bytes) 0 → true ≡ is_strict bytes
unfolding is_strict
strict-empty [] e = refl
strict-empty (b ∷ bytes) e = let no : eqb (length (b ∷ bytes)) 0 ≡ false = ne_eqb (length (b ∷ bytes)) 0 (λ z. omega arith) in cc

pub strict-some : (bytes : List ℕ) (b : Bool) → false ≡ eqb (length bytes) 0 → (IsTrue b → IsSignature bytes) → (IsSignature bytes → IsTrue b) → b ≡ is_strict bytes
unfolding is_strict
strict-some bytes true e f g = rw (sym e) (sym (signature-again bytes (f refl)))
strict-some bytes false e f g = rw (sym e) (some-by (is_signature bytes) refl)
  where
    some-by : (t : Bool) → is_signature bytes ≡ t → false ≡ t
    some-by true e = g (signature-sound bytes e)
    some-by false e = refl
