use Rattle.std.proofs.Common.{◌≡◌, ℕ, zero, suc, ◌+◌, ◌*◌, ◌≤◌, List, [], ◌∷◌, Option, Some, None, length, drop, ap, arith, zero-add}
use Rattle.std.proofs.lemmas.Bool.Decides.{nat_tests}
use Rattle.script.specs.declared.signatures.Counting.{Counting}
use Rattle.script.specs.declared.signatures.Counting.TheVariants.{Plain, Accurate}
use Rattle.script.specs.Op.{number_of}
use Rattle.script.specs.Ops.{op_len, cut_first, ops_within, ops}
use Rattle.script.specs.Signatures.{keys, op_sigops, sigops_after, sigops}

keys_bound : (counting : Counting) (before : ℕ) → keys counting before ≤ 20
keys_bound Plain before = omega arith
keys_bound Accurate before = grind (arith, nat_tests)

op_sigops_bound : (counting : Counting) (before number : ℕ) → op_sigops counting before number ≤ 20
unfolding op_sigops
op_sigops_bound counting before number = let h = keys_bound counting before in grind (arith, nat_tests)

after_bound : (counting : Counting) (before : ℕ) (list : List (List ℕ)) → sigops_after counting before list ≤ 20 * length list
after_bound counting before [] = omega arith
after_bound counting before (op ∷ list) =
    omega (arith, op_sigops_bound counting before (number_of op), after_bound counting (number_of op) list)

cut_bound : (n : ℕ) (others : List ℕ → List (List ℕ)) (bytes : List ℕ) (o : Option ℕ) → ((more : List ℕ) → length (others more) ≤ n) → length (cut_first others bytes o) ≤ suc n
cut_bound n others bytes None h = omega arith
cut_bound n others bytes (Some k) h = omega (arith, h (drop k bytes))

within_bound : (n : ℕ) (bytes : List ℕ) → length (ops_within n bytes) ≤ n
within_bound zero bytes = omega arith
within_bound (suc n) bytes = cut_bound n (ops_within n) bytes (op_len bytes) (within_bound n)

-- at most 20 for each byte
pub sigops_bound : (counting : Counting) (script : List ℕ) → sigops counting script ≤ 20 * length script
unfolding sigops ops
sigops_bound counting script =
    omega (arith, after_bound counting 255 (ops_within (length script) script), within_bound (length script) script)

pub sigops_start : (counting : Counting) (script : List ℕ) → 0 + sigops_after counting 255 (ops script) ≡ sigops counting script
unfolding sigops
sigops_start counting script = zero-add (sigops_after counting 255 (ops script))

-- what is counted already, and the next opcode's
pub counted_next : (counting : Counting) (before total all : ℕ) (list : List (List ℕ)) (op : List ℕ) (others : List (List ℕ)) → total + sigops_after counting before list ≡ all → list ≡ op ∷ others → total + op_sigops counting before (number_of op) ≤ all
counted_next counting before total all list op others e now =
    let at = ap (sigops_after counting before) now in omega arith
