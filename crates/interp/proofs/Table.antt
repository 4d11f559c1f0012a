-- The numbers of no row, and those whose rows do nothing in a branch that isn't taken.
use Rattle.std.proofs.Common.{◌≡◌, ℕ, ◌≤◌, List, [], ◌∷◌, Bool, true, false, ◌&&◌, ◌||◌, nat_lt, nat_le, eqb, if◌then◌else◌, Some, refl, sym, arith}
use Rattle.std.proofs.lemmas.Grind.{common_steps}
use Rattle.interp.specs.Row.{Row, Does, Controls, Tests, AndVerifies, Separates, Asks, fails, nothing, rows, row_among, row_at}
use Rattle.interp.specs.State.{State}
use Rattle.interp.specs.Rules.{skipped}

-- no row's number is from lo to hi
abbrev pub none_from : List (ℕ × Row) → ℕ → ℕ → Bool
none_from [] lo hi = true
none_from (row ∷ others) lo hi = (nat_lt row.0 lo || nat_lt hi row.0) && none_from others lo hi

pub and_true : (a b : Bool) → (a && b) ≡ true → (a ≡ true) × (b ≡ true)
and_true true b e = (refl, e)
and_true false b e = absurd (cc)

or_apart : (n lo hi b : ℕ) → (nat_lt n lo || nat_lt hi n) ≡ true → lo ≤ b → b ≤ hi → eqb b n ≡ false
or_apart n lo hi b e p q = grind (arith, common_steps)

row_among-gap : (rs : List (ℕ × Row)) (lo hi b : ℕ) → none_from rs lo hi ≡ true → lo ≤ b → b ≤ hi → row_among rs b ≡ fails
row_among-gap [] lo hi b e p q = refl
row_among-gap (row ∷ others) lo hi b e p q =
    let both = and_true (nat_lt row.0 lo || nat_lt hi row.0) (none_from others lo hi) e in
    rw (or_apart row.0 lo hi b both.0 p q) (row_among-gap others lo hi b both.1 p q)

pub outside : (x y lo hi b : ℕ) → (nat_lt hi x || nat_lt y lo) ≡ true → lo ≤ b → b ≤ hi → (nat_le x b && nat_le b y) ≡ false
outside x y lo hi b e p q = grind (arith, common_steps)

-- what stands in no row fails
row_at-gap : (lo hi b : ℕ) → none_from rows lo hi ≡ true → (nat_lt hi 0x51 || nat_lt 0x60 lo) ≡ true → (nat_lt hi 0xb3 || nat_lt 0xb9 lo) ≡ true → lo ≤ b → b ≤ hi → fails ≡ row_at b
unfolding row_at
row_at-gap lo hi b e f g p q =
    rw (outside 0x51 0x60 lo hi b f p q, outside 0xb3 0xb9 lo hi b g p q) (sym (row_among-gap rows lo hi b e p q))

pub fails_0 : (b : ℕ) → 0 ≤ b → b ≤ 0x4e → fails ≡ row_at b
fails_0 b p q = row_at-gap 0 0x4e b refl refl refl p q

pub fails_50 : (b : ℕ) → 0x50 ≤ b → b ≤ 0x50 → fails ≡ row_at b
fails_50 b p q = row_at-gap 0x50 0x50 b refl refl refl p q

pub fails_62 : (b : ℕ) → 0x62 ≤ b → b ≤ 0x62 → fails ≡ row_at b
fails_62 b p q = row_at-gap 0x62 0x62 b refl refl refl p q

pub fails_6a : (b : ℕ) → 0x6a ≤ b → b ≤ 0x6a → fails ≡ row_at b
fails_6a b p q = row_at-gap 0x6a 0x6a b refl refl refl p q

pub fails_89 : (b : ℕ) → 0x89 ≤ b → b ≤ 0x8a → fails ≡ row_at b
fails_89 b p q = row_at-gap 0x89 0x8a b refl refl refl p q

pub fails_ba : (b : ℕ) → 0xba ≤ b → b ≤ 0xff → fails ≡ row_at b
fails_ba b p q = row_at-gap 0xba 0xff b refl refl refl p q

pub ruleset failing = (fails_0, fails_50, fails_62, fails_6a, fails_89, fails_ba)

-- ---- rows that do nothing in a branch that isn't taken
abbrev pub is_passed : Row → Bool
is_passed (Controls f untaken) = false
is_passed (Does f) = true
is_passed (Tests check) = true
is_passed (AndVerifies check) = true
is_passed Separates = true
is_passed (Asks in_force test) = true

passed : (row : Row) (s : State) → is_passed row ≡ true → skipped row s ≡ Some s
passed (Controls f untaken) s e = absurd (cc)
passed (Does f) s e = refl
passed (Tests check) s e = refl
passed (AndVerifies check) s e = refl
passed Separates s e = refl
passed (Asks in_force test) s e = refl

-- each row whose number is from lo to hi is one of these
abbrev pub all_passed : List (ℕ × Row) → ℕ → ℕ → Bool
all_passed [] lo hi = true
all_passed (row ∷ others) lo hi = ((nat_lt row.0 lo || nat_lt hi row.0) || is_passed row.1) && all_passed others lo hi

within : (n lo hi b : ℕ) (r : Bool) → ((nat_lt n lo || nat_lt hi n) || r) ≡ true → lo ≤ b → b ≤ hi → eqb b n ≡ true → r ≡ true
within n lo hi b r e p q same = grind (arith, common_steps)

one_of : (c : Bool) (x y : Row) → (c ≡ true → is_passed x ≡ true) → is_passed y ≡ true → is_passed (if c then x else y) ≡ true
one_of true x y first second = first refl
one_of false x y first second = second

row_among-passed : (rs : List (ℕ × Row)) (lo hi b : ℕ) → all_passed rs lo hi ≡ true → lo ≤ b → b ≤ hi → is_passed (row_among rs b) ≡ true
row_among-passed [] lo hi b e p q = refl
row_among-passed (row ∷ others) lo hi b e p q =
    let both = and_true ((nat_lt row.0 lo || nat_lt hi row.0) || is_passed row.1) (all_passed others lo hi) e in
    one_of (eqb b row.0) row.1 (row_among others b) (λ same. within row.0 lo hi b (is_passed row.1) both.0 p q same)
    (row_among-passed others lo hi b both.1 p q)

row_at-passed : (lo hi b : ℕ) (s : State) → all_passed rows lo hi ≡ true → lo ≤ b → b ≤ hi → skipped (row_at b) s ≡ Some s
unfolding row_at
row_at-passed lo hi b s e p q =
    passed (row_at b) s (one_of (nat_le 0x51 b && nat_le b 0x60) _ _ (λ _. refl)
    (one_of (nat_le 0xb3 b && nat_le b 0xb9) nothing (row_among rows b) (λ _. refl) (row_among-passed rows lo hi b e p q)))

pub passed_0 : (b : ℕ) (s : State) → 0 ≤ b → b ≤ 0x62 → skipped (row_at b) s ≡ Some s
passed_0 b s p q = row_at-passed 0 0x62 b s refl p q

pub passed_69 : (b : ℕ) (s : State) → 0x69 ≤ b → b ≤ 0x7d → skipped (row_at b) s ≡ Some s
passed_69 b s p q = row_at-passed 0x69 0x7d b s refl p q

pub passed_82 : (b : ℕ) (s : State) → 0x82 ≤ b → b ≤ 0x82 → skipped (row_at b) s ≡ Some s
passed_82 b s p q = row_at-passed 0x82 0x82 b s refl p q

pub passed_87 : (b : ℕ) (s : State) → 0x87 ≤ b → b ≤ 0x8c → skipped (row_at b) s ≡ Some s
passed_87 b s p q = row_at-passed 0x87 0x8c b s refl p q

pub passed_8f : (b : ℕ) (s : State) → 0x8f ≤ b → b ≤ 0x94 → skipped (row_at b) s ≡ Some s
passed_8f b s p q = row_at-passed 0x8f 0x94 b s refl p q

pub passed_9a : (b : ℕ) (s : State) → 0x9a ≤ b → b ≤ 0xff → skipped (row_at b) s ≡ Some s
passed_9a b s p q = row_at-passed 0x9a 0xff b s refl p q

pub ruleset untaken = (passed_0, passed_69, passed_82, passed_87, passed_8f, passed_9a)
