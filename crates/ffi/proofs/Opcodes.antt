-- An opcode at the front of a script, and what it pushes.
use Rattle.std.proofs.Common.{◌≡◌, ℕ, suc, ◌-◌, ◌≤◌, List, [], ◌∷◌, ◌++◌, length, take, drop, Option, Some, None, refl, sym, ap, ◌∙◌, inl, inr, arith, length-drop}
use Rattle.std.proofs.lemmas.Bool.{cases_lt}
use Rattle.std.proofs.lemmas.List.{take_at, drop_at, drop_all}
use Rattle.std.specs.Option.{option_map_or}
use Rattle.script.specs.Op.{length_width, number_of, pushed_of, pushed_after}
use Rattle.script.specs.Ops.{ops}
use Rattle.ffi.specs.Scripts.{IsOpShown}

-- what is behind some bytes are the last of all
last_behind : (k : ℕ) (xs : List ℕ) → drop (length xs - length (drop k xs)) xs ≡ drop k xs
last_behind k xs = elim (cases_lt k (length xs)) [
  | inl lt ↦
      let same : length xs - length (drop k xs) ≡ k = omega (arith, length-drop k xs) in
      ap (λ n. drop n xs) same
  | inr le ↦
      let all : length xs ≤ length xs - length (drop k xs) = omega (arith, length-drop k xs) in
      drop_all _ xs all ∙ sym (drop_all k xs le)
]

-- what is pushed stands behind the number and the length
behind : (number : ℕ) (bytes : List ℕ) → (k : ℕ) × (pushed_after number bytes ≡ drop k (number ∷ bytes))
behind number bytes = by (length_width number)
  where
    by : (width : Option ℕ) → (k : ℕ) × (option_map_or (λ w. drop w bytes) width [] ≡ drop k (number ∷ bytes))
    by (Some width) = (suc width, refl)
    by None = (suc (length bytes), sym (drop_all (suc (length bytes)) (number ∷ bytes) (omega arith)))

-- the bytes that an opcode pushes are its last
pushed_last : (op : List ℕ) → drop (length op - length (pushed_of op)) op ≡ pushed_of op
unfolding pushed_of
pushed_last [] = refl
pushed_last (number ∷ bytes) =
    let k = behind number bytes in
    ap (λ (p : List ℕ). drop (length (number ∷ bytes) - length p) (number ∷ bytes)) k.1 ∙ last_behind k.0 (number ∷ bytes) ∙ sym k.1

pub first_shown : (script op rest : List ℕ) (kept : Type 0) → script ≡ op ++ rest → ops script ≡ op ∷ ops rest → IsOpShown script (ops script) (record { length = length op; pushed = length (pushed_of op); number = number_of op }) kept 0
first_shown script op rest kept parts first =
    rw first (
      refl,
      record {
        number = refl;
        bytes = refl;
        front = ap (take (length op)) parts ∙ take_at op rest (length op) refl;
        pushed = refl;
        last = pushed_last op;
      },
      ap ops (ap (drop (length op)) parts ∙ drop_at op rest (length op) refl),
    )
