-- Of what stands at a record's place there is one reading.
use Rattle.std.proofs.Common.{◌≡◌, inl, inr, ℕ, suc, ◌≤◌, ◌<◌, ◌^◌, List, [], ◌∷◌, ◌++◌, length, length-append, take, drop, refl, sym, ap, ap₂, ◌∙◌, subst, take_at, drop_at, append_assoc, arith}
use Rattle.std.specs.Prelude.{Option, Some, None, Result, Ok, Err, IfOk, IfErr, MatchOption, MatchResult}
use Rattle.std.specs.List.{flat_map, AllByRecursion}
use Rattle.byteorder.specs.Endian.{little_number}
use Rattle.byteorder.specs.Numbers.{little_number-reads_back}
use Rattle.wire.specs.Numbers.{limit}
use Rattle.block.specs.declared.blk_fault.BlkFault.{BlkFault}
use Rattle.block.specs.declared.blk_fault.BlkFault.TheVariants.{Foreign, Cut, TooLong, Read, Memory, Stopped}
use Rattle.block.specs.Blk.{magic, head, record_bytes, IsRecord, IsEnd, IsCut, IsTooLong, IsFault, IsOutside}
use Rattle.block.specs.laws.Files.{Splits, Gave, IsLast}

-- no head is another
same_head : (n m : ℕ) (a b : List ℕ) → n < 256 ^ 4 → m < 256 ^ 4 → head n ++ a ≡ head m ++ b → (n ≡ m) × (a ≡ b)
same_head n m a b hn hm e =
    (sym (little_number-reads_back 4 n a hn) ∙ ap (λ (t : List ℕ). little_number 4 (drop 4 t)) e ∙ little_number-reads_back 4 m b hm, ap (drop 8) e)

-- a record is its head and then the rest
after_head : (block rest after : List ℕ) → IsRecord block rest after → rest ≡ head (length block) ++ (block ++ after)
after_head block rest after h = h.1

small : (n : ℕ) → n ≤ limit → n < 256 ^ 4
small n h = omega (arith, h)

same_pieces : (a b x y : List ℕ) → length a ≡ length b → a ++ x ≡ b ++ y → (a ≡ b) × (x ≡ y)
same_pieces a b x y len e = (
  sym (take_at a x (length a) refl) ∙ ap (take (length a)) e ∙ take_at b y (length a) (sym len),
  sym (drop_at a x (length a) refl) ∙ ap (drop (length a)) e ∙ drop_at b y (length a) (sym len),
)

pub record_record : (rest a b x y : List ℕ) → IsRecord a rest x → IsRecord b rest y → (a ≡ b) × (x ≡ y)
record_record rest a b x y p q =
    let k = same_head (length a) (length b) (a ++ x) (b ++ y) (small _ p.0) (small _ q.0) (sym (after_head a rest x p) ∙ after_head b rest y q) in
    same_pieces a b x y k.0 k.1

magic_not_end : (rest after : List ℕ) → rest ≡ magic ++ after → IsEnd rest → ⊥
magic_not_end rest after e h = let z : 250 ≡ 0 = (subst IsEnd e h).0 in absurd (omega (arith, z))

pub record_end : (rest block after : List ℕ) → IsRecord block rest after → IsEnd rest → ⊥
record_end rest block after p h = magic_not_end rest _ (after_head block rest after p) h

-- fewer than four bytes after the magic are no length
no_length : (after more : List ℕ) (n : ℕ) → length after < 4 → magic ++ after ≡ head n ++ more → ⊥
no_length after more n short e =
    let k : length after ≡ suc (suc (suc (suc (length more)))) = ap (λ (t : List ℕ). length (drop 4 t)) e in
    absurd (omega (arith, k, short))

record_cut : (rest block after : List ℕ) → IsRecord block rest after → IsCut rest → ⊥
record_cut rest block after p (inl c) = no_length c.0 (block ++ after) (length block) c.2 (sym c.1 ∙ after_head block rest after p)
record_cut rest block after p (inr c) =
    let k = same_head (length block) c.0 (block ++ after) c.1 (small _ p.0) (small _ c.3) (sym (after_head block rest after p) ∙ c.2) in
    absurd (omega (arith, k.0, ap length k.1, length-append block after, c.4))

record_long : (rest block after : List ℕ) → IsRecord block rest after → IsTooLong rest → ⊥
record_long rest block after p c =
    let k = same_head (length block) c.0 (block ++ after) c.1 (small _ p.0) c.4 (sym (after_head block rest after p) ∙ c.2) in
    absurd (omega (arith, k.0, p.0, c.3))

pub record_fault : (place : ℕ) (rest block after : List ℕ) (e : BlkFault) → IsRecord block rest after → IsFault place rest e → IsOutside e
record_fault place rest block after (Foreign at) p f = f.1.1 _ (after_head block rest after p)
record_fault place rest block after (Cut at) p f = record_cut rest block after p f.1
record_fault place rest block after (TooLong at) p f = record_long rest block after p f.1
record_fault place rest block after Read p f = tt
record_fault place rest block after Memory p f = tt
record_fault place rest block after Stopped p f = f

-- what a call tells of a record, an end, a fault, where what it tells is so
pub told_record : {V : Type 0} (items : V → List ℕ) (place : ℕ) (rest new : List ℕ) (result : Result (Option V) BlkFault)
    → IfOk result (λ found. MatchOption found (IsEnd rest × (new ≡ [])) (λ b. IsRecord (items b) rest new)) → IfErr result (λ e. IsFault place rest e)
    → (block after : List ℕ) → IsRecord block rest after → MatchResult result (λ found. MatchOption found ⊥ (λ b. (items b ≡ block) × (new ≡ after))) IsOutside
told_record items place rest new (Ok (Some b)) found refused block after is = record_record rest (items b) block new after found is
told_record items place rest new (Ok None) found refused block after is = record_end rest block after is found.0
told_record items place rest new (Err e) found refused block after is = record_fault place rest block after e is refused

-- the record of the first block stands at the front of a file of one block more
first : (block : List ℕ) (blocks : List (List ℕ)) (rest : List ℕ) → flat_map record_bytes (block ∷ blocks) ++ rest ≡ record_bytes block ++ (flat_map record_bytes blocks ++ rest)
first block blocks rest = append_assoc (record_bytes block) (flat_map record_bytes blocks) rest

one_split_of : (blocks others : List (List ℕ)) (rest last : List ℕ) → flat_map record_bytes blocks ++ rest ≡ flat_map record_bytes others ++ last
    → AllByRecursion (λ block. length block ≤ limit) blocks → AllByRecursion (λ block. length block ≤ limit) others
    → ((block after : List ℕ) → IsRecord block rest after → ⊥) → ((block after : List ℕ) → IsRecord block last after → ⊥) → (blocks ≡ others) × (rest ≡ last)
one_split_of [] [] rest last e p q nop noq = (refl, e)
one_split_of [] (b ∷ others) rest last e p q nop noq = absurd (nop b _ (q.0, e ∙ first b others last))
one_split_of (a ∷ blocks) [] rest last e p q nop noq = absurd (noq a _ (p.0, sym e ∙ first a blocks rest))
one_split_of (a ∷ blocks) (b ∷ others) rest last e p q nop noq =
    let k = record_record (flat_map record_bytes (a ∷ blocks) ++ rest) a b _ _ (p.0, first a blocks rest) (q.0, e ∙ first b others last) in
    let more = one_split_of blocks others rest last k.1 p.1 q.1 nop noq in
    (ap₂ (λ (x : List ℕ) (xs : List (List ℕ)). x ∷ xs) k.0 more.0, more.1)

pub one_split : (file : List ℕ) (blocks others : List (List ℕ)) (rest last : List ℕ) → Splits file blocks rest → Splits file others last → (blocks ≡ others) × (rest ≡ last)
one_split file blocks others rest last p q = one_split_of blocks others rest last (sym p.whole ∙ q.whole) p.each q.each p.last q.last

-- at what a call tells that finds no block, no record stands
no_record : (rest : List ℕ) → IsLast rest → (block after : List ℕ) → IsRecord block rest after → ⊥
no_record rest (inl h) block after p = record_end rest block after p h
no_record rest (inr (inl f)) block after p = f.1 _ (after_head block rest after p)
no_record rest (inr (inr (inl c))) block after p = record_cut rest block after p c
no_record rest (inr (inr (inr c))) block after p = record_long rest block after p c

gave_whole : (file : List ℕ) (blocks : List (List ℕ)) (rest : List ℕ) → Gave file blocks rest → file ≡ flat_map record_bytes blocks ++ rest
gave_whole file [] rest h = h
gave_whole file (block ∷ blocks) rest h = h.1.1 ∙ ap (λ (t : List ℕ). record_bytes block ++ t) (gave_whole h.0 blocks rest h.2) ∙ sym (first block blocks rest)

gave_each : (file : List ℕ) (blocks : List (List ℕ)) (rest : List ℕ) → Gave file blocks rest → AllByRecursion (λ block. length block ≤ limit) blocks
gave_each file [] rest h = tt
gave_each file (block ∷ blocks) rest h = (h.1.0, gave_each h.0 blocks rest h.2)

pub run_splits : (file rest : List ℕ) (blocks : List (List ℕ)) → Gave file blocks rest → IsLast rest → Splits file blocks rest
run_splits file rest blocks h last = record { whole = gave_whole file blocks rest h; each = gave_each file blocks rest h; last = no_record rest last }
