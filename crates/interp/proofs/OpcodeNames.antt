-- The name at each opcode's number.
use Rattle.std.proofs.Common.{◌≡◌, ◌∙◌, ℕ, zero, suc, ◌≤◌, List, [], ◌∷◌, Bool, true, ◌&&◌, ◌||◌, nat_lt, nat_le, length, take, drop, refl, sym, arith}
use Rattle.std.proofs.lemmas.Grind.{common_steps}
use Rattle.interp.specs.Stack.{Stack}
use Rattle.interp.specs.Failures.{few, place_name, lock_name, multisig_name, names, name_among, name_at}
use Rattle.interp.specs.declared.script_error.ScriptError.{ScriptError}
use Rattle.interp.specs.declared.script_error.ScriptError.TheVariants.{UnknownError, OpReturn, PushSize, Verify, BadOpcode, DisabledOpcode, InvalidStackOperation, InvalidAltstackOperation, UnbalancedConditional, SigDer}
use Rattle.interp.proofs.Table.{and_true, outside}

abbrev Rows : Type 0
Rows = List (ℕ × ℕ × (Stack → ℕ → ScriptError))

-- no row has a number from lo to hi
abbrev none_from : Rows → ℕ → ℕ → Bool
none_from [] lo hi = true
none_from (row ∷ others) lo hi = (nat_lt hi row.0 || nat_lt row.1 lo) && none_from others lo hi

module _ (lo hi b : ℕ) (above : lo ≤ b) (below : b ≤ hi) (m : Stack) (c : ℕ) where
  passed : (k : ℕ) (rows : Rows) → none_from (take k rows) lo hi ≡ true → name_among rows b m c ≡ name_among (drop k rows) b m c
  passed zero rows e = refl
  passed (suc k) [] e = refl
  passed (suc k) (row ∷ rows) e =
      let both = and_true (nat_lt hi row.0 || nat_lt row.1 lo) (none_from (take k rows) lo hi) e in
      rw (outside row.0 row.1 lo hi b both.0 above below) (passed k rows both.1)

inside : (lo hi b : ℕ) → lo ≤ b → b ≤ hi → (nat_le lo b && nat_le b hi) ≡ true
inside lo hi b p q = grind (arith, common_steps)

-- the row behind so many others
at_row : (k lo hi b : ℕ) (name : Stack → ℕ → ScriptError) (others : Rows) (m : Stack) (c : ℕ) → none_from (take k names) lo hi ≡ true → drop k names ≡ (lo, hi, name) ∷ others → lo ≤ b → b ≤ hi
    → name m c ≡ name_at b m c
unfolding name_at
at_row k lo hi b name others m c none is p q =
    let found : name_among (drop k names) b m c ≡ name m c = rw (is, inside lo hi b p q) refl in
    sym (passed lo hi b p q m c k names none ∙ found)

-- no row
at_none : (lo hi b : ℕ) (m : Stack) (c : ℕ) → none_from (take (length names) names) lo hi ≡ true → lo ≤ b → b ≤ hi → BadOpcode ≡ name_at b m c
unfolding name_at
at_none lo hi b m c none p q = sym (passed lo hi b p q m c (length names) names none)

pub name_00 : (b : ℕ) (m : Stack) (c : ℕ) → 0x00 ≤ b → b ≤ 0x4e → PushSize ≡ name_at b m c
name_00 b m c p q = at_row 0 0x00 0x4e b _ _ m c refl refl p q

pub name_63 : (b : ℕ) (m : Stack) (c : ℕ) → 0x63 ≤ b → b ≤ 0x64 → UnbalancedConditional ≡ name_at b m c
name_63 b m c p q = at_row 1 0x63 0x64 b _ _ m c refl refl p q

pub name_67 : (b : ℕ) (m : Stack) (c : ℕ) → 0x67 ≤ b → b ≤ 0x68 → UnbalancedConditional ≡ name_at b m c
name_67 b m c p q = at_row 2 0x67 0x68 b _ _ m c refl refl p q

pub name_69 : (b : ℕ) (m : Stack) (c : ℕ) → 0x69 ≤ b → b ≤ 0x69 → few 1 Verify m 0 ≡ name_at b m c
name_69 b m c p q = at_row 3 0x69 0x69 b _ _ m c refl refl p q

pub name_6a : (b : ℕ) (m : Stack) (c : ℕ) → 0x6a ≤ b → b ≤ 0x6a → OpReturn ≡ name_at b m c
name_6a b m c p q = at_row 4 0x6a 0x6a b _ _ m c refl refl p q

pub name_6b : (b : ℕ) (m : Stack) (c : ℕ) → 0x6b ≤ b → b ≤ 0x6b → InvalidStackOperation ≡ name_at b m c
name_6b b m c p q = at_row 5 0x6b 0x6b b _ _ m c refl refl p q

pub name_6c : (b : ℕ) (m : Stack) (c : ℕ) → 0x6c ≤ b → b ≤ 0x6c → InvalidAltstackOperation ≡ name_at b m c
name_6c b m c p q = at_row 6 0x6c 0x6c b _ _ m c refl refl p q

pub name_6d : (b : ℕ) (m : Stack) (c : ℕ) → 0x6d ≤ b → b ≤ 0x78 → InvalidStackOperation ≡ name_at b m c
name_6d b m c p q = at_row 7 0x6d 0x78 b _ _ m c refl refl p q

pub name_79 : (b : ℕ) (m : Stack) (c : ℕ) → 0x79 ≤ b → b ≤ 0x7a → place_name m ≡ name_at b m c
name_79 b m c p q = at_row 8 0x79 0x7a b _ _ m c refl refl p q

pub name_7b : (b : ℕ) (m : Stack) (c : ℕ) → 0x7b ≤ b → b ≤ 0x7d → InvalidStackOperation ≡ name_at b m c
name_7b b m c p q = at_row 9 0x7b 0x7d b _ _ m c refl refl p q

pub name_7e : (b : ℕ) (m : Stack) (c : ℕ) → 0x7e ≤ b → b ≤ 0x81 → DisabledOpcode ≡ name_at b m c
name_7e b m c p q = at_row 10 0x7e 0x81 b _ _ m c refl refl p q

pub name_82 : (b : ℕ) (m : Stack) (c : ℕ) → 0x82 ≤ b → b ≤ 0x82 → InvalidStackOperation ≡ name_at b m c
name_82 b m c p q = at_row 11 0x82 0x82 b _ _ m c refl refl p q

pub name_83 : (b : ℕ) (m : Stack) (c : ℕ) → 0x83 ≤ b → b ≤ 0x86 → DisabledOpcode ≡ name_at b m c
name_83 b m c p q = at_row 12 0x83 0x86 b _ _ m c refl refl p q

pub name_87 : (b : ℕ) (m : Stack) (c : ℕ) → 0x87 ≤ b → b ≤ 0x88 → InvalidStackOperation ≡ name_at b m c
name_87 b m c p q = at_row 13 0x87 0x88 b _ _ m c refl refl p q

pub name_8b : (b : ℕ) (m : Stack) (c : ℕ) → 0x8b ≤ b → b ≤ 0x8c → few 1 UnknownError m 0 ≡ name_at b m c
name_8b b m c p q = at_row 14 0x8b 0x8c b _ _ m c refl refl p q

pub name_8d : (b : ℕ) (m : Stack) (c : ℕ) → 0x8d ≤ b → b ≤ 0x8e → DisabledOpcode ≡ name_at b m c
name_8d b m c p q = at_row 15 0x8d 0x8e b _ _ m c refl refl p q

pub name_8f : (b : ℕ) (m : Stack) (c : ℕ) → 0x8f ≤ b → b ≤ 0x92 → few 1 UnknownError m 0 ≡ name_at b m c
name_8f b m c p q = at_row 16 0x8f 0x92 b _ _ m c refl refl p q

pub name_93 : (b : ℕ) (m : Stack) (c : ℕ) → 0x93 ≤ b → b ≤ 0x94 → few 2 UnknownError m 0 ≡ name_at b m c
name_93 b m c p q = at_row 17 0x93 0x94 b _ _ m c refl refl p q

pub name_95 : (b : ℕ) (m : Stack) (c : ℕ) → 0x95 ≤ b → b ≤ 0x99 → DisabledOpcode ≡ name_at b m c
name_95 b m c p q = at_row 18 0x95 0x99 b _ _ m c refl refl p q

pub name_9a : (b : ℕ) (m : Stack) (c : ℕ) → 0x9a ≤ b → b ≤ 0xa4 → few 2 UnknownError m 0 ≡ name_at b m c
name_9a b m c p q = at_row 19 0x9a 0xa4 b _ _ m c refl refl p q

pub name_a5 : (b : ℕ) (m : Stack) (c : ℕ) → 0xa5 ≤ b → b ≤ 0xa5 → few 3 UnknownError m 0 ≡ name_at b m c
name_a5 b m c p q = at_row 20 0xa5 0xa5 b _ _ m c refl refl p q

pub name_a6 : (b : ℕ) (m : Stack) (c : ℕ) → 0xa6 ≤ b → b ≤ 0xaa → InvalidStackOperation ≡ name_at b m c
name_a6 b m c p q = at_row 21 0xa6 0xaa b _ _ m c refl refl p q

pub name_ac : (b : ℕ) (m : Stack) (c : ℕ) → 0xac ≤ b → b ≤ 0xad → few 2 SigDer m 0 ≡ name_at b m c
name_ac b m c p q = at_row 22 0xac 0xad b _ _ m c refl refl p q

pub name_ae : (b : ℕ) (m : Stack) (c : ℕ) → 0xae ≤ b → b ≤ 0xaf → multisig_name m c ≡ name_at b m c
name_ae b m c p q = at_row 23 0xae 0xaf b _ _ m c refl refl p q

pub name_b1 : (b : ℕ) (m : Stack) (c : ℕ) → 0xb1 ≤ b → b ≤ 0xb2 → lock_name m ≡ name_at b m c
name_b1 b m c p q = at_row 24 0xb1 0xb2 b _ _ m c refl refl p q

pub name_4f : (b : ℕ) (m : Stack) (c : ℕ) → 0x4f ≤ b → b ≤ 0x62 → BadOpcode ≡ name_at b m c
name_4f b m c p q = at_none 0x4f 0x62 b m c refl p q

pub name_65 : (b : ℕ) (m : Stack) (c : ℕ) → 0x65 ≤ b → b ≤ 0x66 → BadOpcode ≡ name_at b m c
name_65 b m c p q = at_none 0x65 0x66 b m c refl p q

pub name_89 : (b : ℕ) (m : Stack) (c : ℕ) → 0x89 ≤ b → b ≤ 0x8a → BadOpcode ≡ name_at b m c
name_89 b m c p q = at_none 0x89 0x8a b m c refl p q

pub name_ab : (b : ℕ) (m : Stack) (c : ℕ) → 0xab ≤ b → b ≤ 0xab → BadOpcode ≡ name_at b m c
name_ab b m c p q = at_none 0xab 0xab b m c refl p q

pub name_b0 : (b : ℕ) (m : Stack) (c : ℕ) → 0xb0 ≤ b → b ≤ 0xb0 → BadOpcode ≡ name_at b m c
name_b0 b m c p q = at_none 0xb0 0xb0 b m c refl p q

pub name_b3 : (b : ℕ) (m : Stack) (c : ℕ) → 0xb3 ≤ b → b ≤ 0xff → BadOpcode ≡ name_at b m c
name_b3 b m c p q = at_none 0xb3 0xff b m c refl p q

pub ruleset naming = (name_00, name_63, name_67, name_69, name_6a, name_6b, name_6c, name_6d, name_79, name_7b, name_7e, name_82, name_83, name_87, name_8b, name_8d, name_8f, name_93, name_95, name_9a, name_a5, name_a6, name_ac, name_ae, name_b1, name_4f, name_65, name_89, name_ab, name_b0, name_b3)
