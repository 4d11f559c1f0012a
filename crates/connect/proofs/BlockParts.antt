-- The transactions of a block as its coinbase and the others behind it.
use Rattle.std.proofs.Common.{◌≡◌, ◌<◌, ℕ, ℤ, false, ◌-◌, List, ◌∷◌, ◌++◌, length, take, drop, map, sym, ap, ap₂, subst, ◌∙◌}
use Rattle.std.specs.Prelude.{get_or}
use Rattle.std.specs.List.{flat_map, list_any}
use Rattle.txn.specs.Tx.{Tx}
use Rattle.txn.specs.First.{first_broken}
use Rattle.coins.specs.declared.coin.Coin.{Coin}
use Rattle.coins.specs.Coins.{Coins, Layer}
use Rattle.connect.specs.declared.block_fault.BlockFault.{BlockFault}
use Rattle.connect.specs.BlockContext.{Setting}
use Rattle.connect.specs.Turns.{Turn, turn, turns, effect, spent_in, undo_of, left_by}
use Rattle.connect.specs.Faults.{overwrites, turn_rules, connect_rules}
use Rattle.connect.specs.inside.Turns.{IsReason, Passes}
use Rattle.connect.proofs.Steps.{drop_item, tail_of, neither}
use Rattle.connect.proofs.Blocks.{at_turn, each_is, later_is, later_turns, undo_is, effect_next, past, still_first}

abbrev pub others : List Tx → List Tx
others xs = take (length xs - 1) (drop 1 xs)

-- in the setting s, over the coins m
pub record Parted (s : Setting) (m : Coins) (xs : List Tx) (x : Tx) : Type 0 where
  pub parts : xs ≡ x ∷ others xs
  pub each : flat_map (turn_rules s) (turns s.height m 0 xs) ≡ turn_rules s (turn x m 0) ++ flat_map (turn_rules s) (later_turns s m x (others xs))
  pub later : drop 1 (turns s.height m 0 xs) ≡ later_turns s m x (others xs)
  pub undo : undo_of s.height m xs ≡ map spent_in (later_turns s m x (others xs))
  pub effect_is : effect s.height m xs ≡ effect s.height (left_by s.height (turn x m 0)) (others xs)

pub parted : (s : Setting) (m : Coins) (xs : List Tx) (x : Tx) → 0 < length xs → x ≡ get_or xs 0 x → Parted s m xs x
parted s m xs x some is =
    let h : ℕ = s.height in
    let parts : xs ≡ x ∷ others xs = drop_item xs 0 x some is ∙ ap (λ (l : List Tx). x ∷ l) (sym (tail_of xs)) in
    record {
      parts = parts;
      each = ap (λ (l : List Tx). flat_map (turn_rules s) (turns h m 0 l)) parts ∙ each_is s m x (others xs);
      later = ap (λ (l : List Tx). drop 1 (turns h m 0 l)) parts ∙ later_is s m x (others xs);
      undo = ap (undo_of h m) parts ∙ undo_is s m x (others xs);
      effect_is = ap (effect h m) parts ∙ effect_next h m x (others xs);
    }

-- coins that no transaction overwrites
pub none_overwrites : (b : Coins) (xs : List Tx) (x : Tx) → xs ≡ x ∷ others xs → list_any (overwrites b) xs ≡ false → (overwrites b x ≡ false) × (list_any (overwrites b) (others xs) ≡ false)
none_overwrites b xs x parts new = neither (overwrites b x) (list_any (overwrites b) (others xs)) (sym (ap (list_any (overwrites b)) parts) ∙ new)

-- the coinbase breaks a rule
pub at_coinbase : (s : Setting) (m : Coins) (xs : List Tx) (x : Tx) (why : BlockFault) → Parted s m xs x → list_any (overwrites m) xs ≡ false
    → IsReason (first_broken (turn_rules s (turn x m 0))) why → IsReason (first_broken (connect_rules s m xs)) why
at_coinbase s m xs x why p new broken =
    at_turn s m xs why new (subst (λ l. IsReason (first_broken l) why) (sym p.each) (still_first (turn_rules s (turn x m 0)) (flat_map (turn_rules s) (later_turns s m x (others xs))) why broken))

-- once the coinbase has passed, and left a layer and a count, the others take their turns over these
pub record Begun (s : Setting) (m : Coins) (xs : List Tx) (x : Tx) (left : Layer) (n : ℕ) : Type 0 where
  pub coins_are : left.coins ≡ left_by s.height (turn x m 0)
  pub turns_are : turns s.height left.coins n (others xs) ≡ later_turns s m x (others xs)
  pub rules_are : first_broken (flat_map (turn_rules s) (turns s.height m 0 xs)) ≡ first_broken (flat_map (turn_rules s) (turns s.height left.coins n (others xs)))

pub begun : (s : Setting) (before : Layer) (xs : List Tx) (x : Tx) (left : Layer) (lent : List Coin) (given : ℤ) (n : ℕ)
    → Parted s before.coins xs x → Passes s before (turn x before.coins 0) left lent given n → Begun s before.coins xs x left n
begun s before xs x left lent given n p done =
    let h : ℕ = s.height in
    let m : Coins = before.coins in
    let t : Turn = turn x m 0 in
    let now : left.coins ≡ left_by h t = ap (λ (l : Layer). l.coins) done.layer in
    let same : turns h left.coins n (others xs) ≡ later_turns s m x (others xs) = ap₂ (λ (l : Coins) (k : ℕ). turns h l k (others xs)) now done.counted in
    record {
      coins_are = now;
      turns_are = same;
      rules_are = ap first_broken p.each ∙ past (turn_rules s t) (flat_map (turn_rules s) (later_turns s m x (others xs))) done.none
          ∙ ap (λ (l : List Turn). first_broken (flat_map (turn_rules s) l)) (sym same);
    }
