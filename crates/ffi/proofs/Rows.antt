-- The scripts that rows speak of, in bytes.
use Rattle.std.proofs.Common.{◌≡◌, ℕ, ◌+◌, ◌<◌, List, length, get_or, take, drop, suc, ap, ◌∙◌, arith, drop-cons}
use Rattle.std.proofs.lemmas.List.Sums.{sum_by-take-drop, sum_by-cons}
use Rattle.ffi.specs.declared.shown.InputRow.{InputRow}
use Rattle.ffi.specs.declared.shown.OutputRow.{OutputRow}
use Rattle.ffi.specs.NamedFailures.{all_sizes}
use Rattle.ffi.specs.Parts.{input_bytes, output_bytes}

-- where those of the rows before leave less than the next row's, all rows want more than there is
pub input_short : (rows : List InputRow) (i left whole : ℕ) (d : InputRow) → i < length rows → whole ≡ input_bytes (take i rows) + left → left < (get_or rows i d).script → whole < input_bytes rows
input_short rows i left whole d h is less =
    let split : input_bytes (take i rows) + input_bytes (drop i rows) ≡ input_bytes rows = sum_by-take-drop (λ (row : InputRow). row.script) rows i in
    let next : input_bytes (drop i rows) ≡ (get_or rows i d).script + input_bytes (drop (suc i) rows) = ap input_bytes (drop-cons rows i d h) ∙ sum_by-cons (λ (row : InputRow). row.script) (get_or rows i d) (drop (suc i) rows) in
    omega (arith, split, next)

pub output_short : (rows : List OutputRow) (i left whole : ℕ) (d : OutputRow) → i < length rows → whole ≡ output_bytes (take i rows) + left → left < (get_or rows i d).script → whole < output_bytes rows
output_short rows i left whole d h is less =
    let split : output_bytes (take i rows) + output_bytes (drop i rows) ≡ output_bytes rows = sum_by-take-drop (λ (row : OutputRow). row.script) rows i in
    let next : output_bytes (drop i rows) ≡ (get_or rows i d).script + output_bytes (drop (suc i) rows) = ap output_bytes (drop-cons rows i d h) ∙ sum_by-cons (λ (row : OutputRow). row.script) (get_or rows i d) (drop (suc i) rows) in
    omega (arith, split, next)

pub size_short : (sizes : List ℕ) (i left whole : ℕ) (d : ℕ) → i < length sizes → whole ≡ all_sizes (take i sizes) + left → left < get_or sizes i d → whole < all_sizes sizes
size_short sizes i left whole d h is less =
    let split : all_sizes (take i sizes) + all_sizes (drop i sizes) ≡ all_sizes sizes = sum_by-take-drop (λ (size : ℕ). size) sizes i in
    let next : all_sizes (drop i sizes) ≡ get_or sizes i d + all_sizes (drop (suc i) sizes) = ap all_sizes (drop-cons sizes i d h) ∙ sum_by-cons (λ (size : ℕ). size) (get_or sizes i d) (drop (suc i) sizes) in
    omega (arith, split, next)
