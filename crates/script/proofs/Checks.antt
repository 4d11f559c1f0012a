-- A script without a byte of an opcode that checks signatures counts none.
use Rattle.std.specs.Prelude.{if◌then◌else◌, option_and_then}
use Rattle.std.proofs.Common.{◌≡◌, ℕ, zero, suc, ◌+◌, List, [], ◌∷◌, Bool, true, false, ◌||◌, Option, Some, None, length, drop, nat_lt, refl, zero-add, ◌∙◌, arith}
use Rattle.std.proofs.lemmas.Bool.Decides.{nat_tests}
use Rattle.std.specs.List.{list_any}
use Rattle.script.specs.declared.signatures.Counting.{Counting}
use Rattle.script.specs.Ops.{operand_len, within, cut_first, ops_within, ops}
use Rattle.script.specs.Signatures.{op_sigops, sigops_after, sigops}
use Rattle.script.specs.inside.Signatures.{is_check}

neither : (a b : Bool) → (a || b) ≡ false → (a ≡ false) × (b ≡ false)
neither true b e = absurd (cc)
neither false b e = (refl, e)

after_drop : (n : ℕ) (bytes : List ℕ) → list_any is_check bytes ≡ false → list_any is_check (drop n bytes) ≡ false
after_drop zero bytes e = e
after_drop (suc n) [] e = refl
after_drop (suc n) (b ∷ bytes) e = after_drop n bytes (neither (is_check b) (list_any is_check bytes) e).1

counts_none : (counting : Counting) (before b : ℕ) → is_check b ≡ false → op_sigops counting before b ≡ 0
unfolding op_sigops
counts_none counting before b e = grind (arith, nat_tests)

-- the opcode at the front and what follows it, where neither counts any
cut_none : (counting : Counting) (before b : ℕ) (bytes : List ℕ) (others : List ℕ → List (List ℕ)) → is_check b ≡ false → ((len : ℕ) → sigops_after counting b (others (drop len bytes)) ≡ 0) → (o : Option ℕ) → sigops_after counting before (cut_first others (b ∷ bytes) (option_and_then (within bytes) o)) ≡ 0
cut_none counting before b bytes others first next None = refl
cut_none counting before b bytes others first next (Some len) = whole (nat_lt (length bytes) len)
  where
    whole : (short : Bool) → sigops_after counting before (cut_first others (b ∷ bytes) (if short then None else Some (len + 1))) ≡ 0
    whole true = refl
    whole false = let one : len + 1 ≡ suc len = omega arith in rw (one, counts_none counting before b first) (zero-add _ ∙ next len)

none_after : (n : ℕ) (counting : Counting) (before : ℕ) (bytes : List ℕ) → list_any is_check bytes ≡ false → sigops_after counting before (ops_within n bytes) ≡ 0
none_after zero counting before bytes e = refl
none_after (suc n) counting before [] e = refl
none_after (suc n) counting before (b ∷ bytes) e =
    let both = neither (is_check b) (list_any is_check bytes) e in
    cut_none counting before b bytes (ops_within n) both.0 (λ len. none_after n counting b (drop len bytes) (after_drop len bytes both.1)) (operand_len b bytes)

pub no_checks : (counting : Counting) (script : List ℕ) → list_any is_check script ≡ false → sigops counting script ≡ 0
unfolding sigops ops
no_checks counting script e = none_after (length script) counting 255 script e
