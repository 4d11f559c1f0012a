-- Hash values from block to block of a message that grows.
use Rattle.std.proofs.Common.{◌≡◌, ℕ, ◌+◌, ◌-◌, ◌*◌, ◌/◌, ◌<◌, ◌≤◌, List, [], ◌++◌, length, take, drop, refl, sym, ap, ap₂, subst, ◌∙◌, append_assoc, arith}
use Rattle.std.proofs.lemmas.List.{append-nil, length-append, length-drop, length-take-le, take_all, drop-drop, drop-take, take-take}
use Rattle.std.proofs.Math.Seq.{drop-append_seam, take-add}
use Rattle.sha2.proofs.Absorbing256.{hash_after-append, hash_after_next}
use Rattle.sha2.specs.Sha256.{compress, final_hash, hash_after, initial_hash_256, padding}
use Rattle.lanes.specs.Midstate.{IsValueAfter, part}
use Rattle.lanes.proofs.Cases.{below_8}

pub nothing_yet : (value : List ℕ) → value ≡ initial_hash_256 → IsValueAfter [] value
unfolding hash_after
nothing_yet value e = (refl, e)

-- one block more
pub block_more : (before value block : List ℕ) → length block ≡ 64 → IsValueAfter before value → IsValueAfter (before ++ block) (compress value block)
block_more before value block len held =
    let n : ℕ = length before / 64 in
    let p : List ℕ = before ++ block in
    let at : n * 64 ≡ length before = omega (arith, held.0) in
    let count : length p / 64 ≡ n + 1 = omega (arith, length-append before block, held.0, len) in
    let here : take 64 (drop (n * 64) p) ≡ block = ap (λ (k : ℕ). take 64 (drop k p)) at ∙ ap (take 64) (drop-append_seam before block) ∙ take_all 64 block (omega (arith, len)) in (
      omega (arith, length-append before block, held.0, len),
      ap (λ (v : List ℕ). compress v block) held.1
          ∙ ap₂ compress (sym (hash_after-append initial_hash_256 before block n (omega (arith, at)))) (sym here)
          ∙ sym (hash_after_next initial_hash_256 p n) ∙ ap (hash_after initial_hash_256 p) (sym count),
    )

-- block k of what the message goes on with
pub next_block : (before all value block next : List ℕ) (k : ℕ) → 64 * k + 64 ≤ length all → block ≡ take 64 (drop (64 * k) all) → next ≡ compress value block
    → IsValueAfter (before ++ take (64 * k) all) value → IsValueAfter (before ++ take (64 * (k + 1)) all) next
next_block before all value block next k room is e held =
    let len : length block ≡ 64 = ap length is ∙ length-take-le 64 (drop (64 * k) all) (omega (arith, room, length-drop (64 * k) all)) in
    let at : 64 * (k + 1) ≡ 64 * k + 64 = omega arith in
    let grown : (before ++ take (64 * k) all) ++ block ≡ before ++ take (64 * (k + 1)) all =
    append_assoc before (take (64 * k) all) block
    ∙ ap (λ (b : List ℕ). before ++ (take (64 * k) all ++ b)) is
    ∙ ap (λ (b : List ℕ). before ++ b) (sym (take-add (64 * k) 64 all) ∙ ap (λ (n : ℕ). take n all) (sym at)) in
    subst (λ (b : List ℕ). IsValueAfter b next) grown (subst (IsValueAfter ((before ++ take (64 * k) all) ++ block)) (sym e) (block_more (before ++ take (64 * k) all) value block len held))

-- before the first block, and behind the last
pub none_taken : (before all value : List ℕ) (n : ℕ) → n ≡ 0 → IsValueAfter before value → IsValueAfter (before ++ take n all) value
none_taken before all value n e held = subst (λ (b : List ℕ). IsValueAfter b value) (sym (ap (λ (k : ℕ). before ++ take k all) e ∙ append-nil before)) held

pub all_taken : (before all value : List ℕ) (n : ℕ) → n ≡ length all → IsValueAfter (before ++ take n all) value → IsValueAfter (before ++ all) value
all_taken before all value n e held = subst (λ (b : List ℕ). IsValueAfter (before ++ b) value) (take_all n all (omega (arith, e))) held

-- block k of part l of eight
pub block_of_part : (parts : List ℕ) (l k w n : ℕ) → 64 * k + 64 ≤ w → n ≡ 64 → take n (drop (l * w + 64 * k) parts) ≡ take 64 (drop (64 * k) (take w (drop (l * w) parts)))
block_of_part parts l k w n room en =
    let rest : List ℕ = drop (l * w) parts in
    let width : 64 * k + (w - 64 * k) ≡ w = omega (arith, room) in
    let cut : drop (64 * k) (take w rest) ≡ take (w - 64 * k) (drop (64 * k) rest) = ap (λ (m : ℕ). drop (64 * k) (take m rest)) (sym width) ∙ drop-take (64 * k) (w - 64 * k) rest in
    ap (λ (m : ℕ). take m (drop (l * w + 64 * k) parts)) en
    ∙ ap (take 64) (sym (drop-drop (64 * k) (l * w) parts))
    ∙ sym (ap (take 64) cut ∙ take-take 64 (w - 64 * k) (drop (64 * k) rest) (omega (arith, room)))

pub length-part : (parts : List ℕ) (l : ℕ) → l < 8 → length (part parts l) ≡ length parts / 8
length-part parts l lt =
    let w : ℕ = length parts / 8 in
    length-take-le w (drop (l * w) parts) (omega (arith, length-drop (l * w) parts, within l lt)) where
      within : (l : ℕ) → l < 8 → l * (length parts / 8) + length parts / 8 ≤ length parts
      within l lt = below_8 (λ (n : ℕ). n * (length parts / 8) + length parts / 8 ≤ length parts) (omega arith) (omega arith) (omega arith) (omega arith) (omega arith) (omega arith) (omega arith) (omega arith) l lt

-- behind the padding
pub finished : (front end blocks rest last value : List ℕ) → blocks ++ rest ≡ end → last ≡ rest ++ padding (length (front ++ end)) → IsValueAfter ((front ++ blocks) ++ last) value
    → value ≡ final_hash initial_hash_256 (front ++ end)
finished front end blocks rest last value cut is held =
    let pad : List ℕ = padding (length (front ++ end)) in
    let whole : (front ++ blocks) ++ last ≡ (front ++ end) ++ pad =
    ap (λ (b : List ℕ). (front ++ blocks) ++ b) is ∙ sym (append_assoc (front ++ blocks) rest pad)
    ∙ ap (λ (b : List ℕ). b ++ pad) (append_assoc front blocks rest ∙ ap (λ (b : List ℕ). front ++ b) cut) in
    held.1 ∙ ap (λ (p : List ℕ). hash_after initial_hash_256 p (length p / 64)) whole
