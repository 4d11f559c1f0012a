-- Maps of coins, copied.
use Rattle.std.proofs.Common.{◌≡◌, ℕ, ◌+◌, true, List, [], ◌∷◌, ◌++◌, length, refl, sym, ap, subst, ◌∙◌}
use Rattle.std.specs.Prelude.{is_some}
use Rattle.std.specs.List.{AllZip}
use Rattle.std.specs.BTreeMap.{BTreeMap, IsClone}
use Rattle.txn.specs.declared.outpoint.OutPoint.{OutPoint}
use Rattle.coins.specs.Coins.{Coin}
use Rattle.coins.specs.inside.Shards.{Maps, gathered, place, HaveTheirOwn}
use Rattle.coins.specs.laws.Lookups.{entry_for}

-- a copy of entries is equal
abbrev Same : OutPoint × Coin → OutPoint × Coin → Type 0
Same p q = (q.0 ≡ p.0) × (q.1 ≡ p.1)

pub same_entries : (es fs : List (OutPoint × Coin)) → AllZip Same es fs → fs ≡ es
same_entries [] [] h = refl
same_entries [] (y ∷ fs) h = absurd h
same_entries (x ∷ es) [] h = absurd h
same_entries (x ∷ es) (y ∷ fs) h =
    let one : (y.0, y.1) ≡ (x.0, x.1) = λ i. (h.0.0 i, h.0.1 i) in
    ap (λ (z : OutPoint × Coin). z ∷ fs) one ∙ ap (λ (l : List (OutPoint × Coin)). x ∷ l) (same_entries es fs h.1)

-- maps of which each is a copy
abbrev pub AreCopies : Maps → Maps → Type 0
AreCopies ms ns = AllZip (λ (m n : BTreeMap OutPoint Coin). AllZip Same m.entries n.entries) ms ns

pub same_gathered : (ms ns : Maps) → AreCopies ms ns → gathered ns ≡ gathered ms
same_gathered [] [] h = refl
same_gathered [] (n ∷ ns) h = absurd h
same_gathered (m ∷ ms) [] h = absurd h
same_gathered (m ∷ ms) (n ∷ ns) h =
    ap (λ (l : List (OutPoint × Coin)). l ++ gathered ns) (same_entries m.entries n.entries h.0) ∙ ap (λ (l : List (OutPoint × Coin)). m.entries ++ l) (same_gathered ms ns h.1)

pub same_own : (i : ℕ) (ms ns : Maps) → AreCopies ms ns → HaveTheirOwn i ms → HaveTheirOwn i ns
same_own i [] [] h own = tt
same_own i [] (n ∷ ns) h own = absurd h
same_own i (m ∷ ms) [] h own = absurd h
same_own i (m ∷ ms) (n ∷ ns) h own = (
  subst (λ (l : List (OutPoint × Coin)). (q : OutPoint) → is_some (entry_for l q) ≡ true → place q ≡ i) (sym (same_entries m.entries n.entries h.0)) own.0,
  same_own (i + 1) ms ns h.1 own.1,
)
