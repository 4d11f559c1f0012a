-- Reading a count and then so many parts, as a loop does.
use Rattle.std.proofs.Common.{◌≡◌, ℕ, suc, ◌-◌, ◌+◌, ◌≤◌, ◌<◌, List, [], ◌∷◌, ◌++◌, Option, Some, None, Result, Ok, Err, refl, sym, ap, ◌∙◌, append_assoc, arith}
use Rattle.std.specs.Prelude.{IfSome}
use Rattle.std.proofs.lemmas.List.{append-nil}
use Rattle.wire.specs.declared.fault.WireFault.{WireFault}
use Rattle.wire.specs.computed.Reader.{◌>>=◌, Part, compact_at, many_at, counted_at}

-- what was read before, and what is still read
abbrev pub with_front : {A : Type 0} → List A → Result (List A × List ℕ) WireFault → Result (List A × List ℕ) WireFault
with_front front read = read >>= λ x. Ok (front ++ x.0, x.1)

none_before : {A : Type 0} (read : Result (List A × List ℕ) WireFault) → with_front [] read ≡ read
none_before (Ok x) = refl
none_before (Err f) = refl

pub begins : {A : Type 0} (part : Part A) (bytes : List ℕ) (count : ℕ) (after : List ℕ) → compact_at bytes ≡ Ok (count, after) → with_front [] (many_at part (count - 0) after) ≡ counted_at part bytes
unfolding counted_at
begins part bytes count after h =
    let k : count - 0 ≡ count = omega arith in
    rw (k, h) (none_before (many_at part count after))

pub starts : {A : Type 0} (part : Part A) (count : ℕ) (bytes : List ℕ) → with_front [] (many_at part (count - 0) bytes) ≡ many_at part count bytes
starts part count bytes =
    let k : count - 0 ≡ count = omega arith in
    rw k (none_before (many_at part count bytes))

regroup : {A : Type 0} (front : List A) (n : A) (read : Result (List A × List ℕ) WireFault) → with_front front (read >>= λ x. Ok (n ∷ x.0, x.1)) ≡ with_front (front ++ n ∷ []) read
regroup {A = A} front n (Ok x) = ap (λ (ns : List A). Ok (ns, x.1)) (simp append_assoc)
regroup front n (Err f) = refl

pub goes_on : {A : Type 0} (part : Part A) (front : List A) (count i : ℕ) (bytes : List ℕ) (n : A) (after : List ℕ) (total : Result (List A × List ℕ) WireFault) → i < count → part bytes ≡ Ok (n, after)
    → with_front front (many_at part (count - i) bytes) ≡ total → with_front (front ++ n ∷ []) (many_at part (count - (i + 1)) after) ≡ total
unfolding many_at
goes_on part front count i bytes n after total lt h so_far =
    let k : count - i ≡ suc (count - (i + 1)) = omega arith in
    let one : with_front front (many_at part (count - i) bytes) ≡ with_front (front ++ n ∷ []) (many_at part (count - (i + 1)) after) = rw (k, h) (regroup front n (many_at part (count - (i + 1)) after)) in
    sym one ∙ so_far

pub ends : {A : Type 0} (part : Part A) (e : Option WireFault) (front : List A) (count i : ℕ) (bytes : List ℕ) (total : Result (List A × List ℕ) WireFault) → i < count → IfSome e (λ f. part bytes ≡ Err f)
    → with_front front (many_at part (count - i) bytes) ≡ total → IfSome e (λ f. total ≡ Err f)
unfolding many_at
ends part None front count i bytes total lt h so_far = tt
ends part (Some f) front count i bytes total lt h so_far =
    let k : count - i ≡ suc (count - (i + 1)) = omega arith in
    let one : with_front front (many_at part (count - i) bytes) ≡ Err f = rw (k, h) refl in
    sym so_far ∙ one

pub is_done : {A : Type 0} (part : Part A) (front : List A) (count i : ℕ) (bytes : List ℕ) (total : Result (List A × List ℕ) WireFault) → count ≤ i → with_front front (many_at part (count - i) bytes) ≡ total → total ≡ Ok (front, bytes)
unfolding many_at
is_done {A = A} part front count i bytes total le so_far =
    let k : count - i ≡ 0 = omega arith in
    let one : with_front front (many_at part (count - i) bytes) ≡ Ok (front, bytes) = rw k (ap (λ (ns : List A). Ok (ns, bytes)) (append-nil front)) in
    sym so_far ∙ one
