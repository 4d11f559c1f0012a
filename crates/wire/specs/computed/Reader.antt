-- Reading from left to right, with the first fault that is met.
use Rattle.std.specs.Prelude.{◌≡◌, ℕ, ◌^◌, ℤ, zero, suc, List, [], ◌∷◌, length, take, drop, Option, IfSome, Result, Ok, Err, nat_lt, ◌==◌, if◌then◌else◌}
use Rattle.std.specs.Int.{w32, w64, cast_signed}
use Rattle.byteorder.specs.Endian.{little_number}
use Rattle.wire.specs.declared.fault.WireFault.{WireFault}
use Rattle.wire.specs.declared.fault.WireFault.TheVariants.{Short, LongForm, TooLarge}
use Rattle.wire.specs.Numbers.{limit}

infixl 10 ◌>>=◌
abbrev pub ◌>>=◌ : {A B : Type 0} → Result A WireFault → (A → Result B WireFault) → Result B WireFault
(Ok x) >>= f = f x
(Err e) >>= f = Err e

-- What a call returned and left is what reading gives, unless memory ran out: spoken says what an error
-- says of the bytes, which is nothing where memory ran out.
abbrev pub Gives : {E X : Type 0} → (E → Option WireFault) → Result X E → List ℕ → Result (X × List ℕ) WireFault → Type 0
Gives spoken (Ok x) new read = read ≡ Ok (x, new)
Gives spoken (Err e) new read = IfSome (spoken e) (λ fault. read ≡ Err fault)

-- a part at the front, and the bytes after it
abbrev pub Part : Type 0 → Type 0
Part A = List ℕ → Result (A × List ℕ) WireFault

-- What a call returned, seen by view, and what it left are what reading gives. A refusal leaves all.
abbrev pub Reads : {X Y : Type 0} → (X → Y) → Result X WireFault → List ℕ → List ℕ → Result (Y × List ℕ) WireFault → Type 0
Reads view (Ok x) old new read = read ≡ Ok (view x, new)
Reads view (Err e) old new read = (read ≡ Err e) × (new ≡ old)

abbrev pub piece_at : ℕ → Part (List ℕ)
piece_at n bytes = if nat_lt (length bytes) n then Err Short else Ok (take n bytes, drop n bytes)

abbrev pub number_at : ℕ → Part ℕ
number_at n bytes = do
  piece ← piece_at n bytes
  Ok (little_number n piece.0, piece.1)

abbrev pub i32_at : Part ℤ
i32_at bytes = do
  n ← number_at 4 bytes
  Ok (cast_signed w32 n.0, n.1)

abbrev pub i64_at : Part ℤ
i64_at bytes = do
  n ← number_at 8 bytes
  Ok (cast_signed w64 n.0, n.1)

-- a count in the long form of n bytes, which is for numbers from least on
unfoldable pub long_at : ℕ → ℕ → Part ℕ
long_at least n bytes = do
  x ← number_at n bytes
  if nat_lt x.0 least then Err LongForm else if nat_lt limit x.0 then Err TooLarge else Ok x

unfoldable pub compact_at : Part ℕ
compact_at [] = Err Short
compact_at (b ∷ bytes) =
    if nat_lt b 253 then Ok (b, bytes)
    else if b == 253 then long_at 253 2 bytes
    else if b == 254 then long_at (256 ^ 2) 4 bytes
    else long_at (256 ^ 4) 8 bytes

-- n parts, one after the other
unfoldable pub many_at : {A : Type 0} → Part A → ℕ → Part (List A)
many_at part zero bytes = Ok ([], bytes)
many_at part (suc n) bytes = do
  first ← part bytes
  others ← many_at part n first.1
  Ok (first.0 ∷ others.0, others.1)

unfoldable pub counted_at : {A : Type 0} → Part A → Part (List A)
counted_at part bytes = do
  n ← compact_at bytes
  many_at part n.0 n.1

unfoldable pub sized_at : Part (List ℕ)
sized_at bytes = do
  n ← compact_at bytes
  piece_at n.0 n.1
