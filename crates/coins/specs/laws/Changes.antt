-- What lists of changes do.
use Rattle.std.specs.Prelude.{◌≡◌, Bool, true, false, cond, ◌&&◌, T, [], ◌∷◌, Option, None, Some, refl}
use Rattle.std.proofs.Common.{sym, ap, subst, ◌∙◌}
use Rattle.std.specs.declared.cmp.Ordering.TheVariants.{Less}
use Rattle.std.specs.Ordering.{is_lt}
use Rattle.std.specs.List.{AllByRecursion}
use Rattle.std.specs.List.Sorted.{IsStrictlySortedBy}
use Rattle.std.specs.Map.{keys_of}
use Rattle.std.specs.FinMap as map
use Rattle.std.specs.FinMap.Entries.{find, is_sorted, below_all, same_entries}
use Rattle.txn.specs.declared.outpoint.OutPoint.{OutPoint}
use Rattle.coins.specs.declared.coin.Coin.{Coin}
use Rattle.coins.specs.Coins.{Coins, outpoint_cmp, same}
use Rattle.coins.specs.Changes.{Changes, change_at, IsInOrder, AreChanges, after_changes}
use Rattle.coins.specs.laws.Lookups.{total_order, exact, same_coins, get-put}

-- what stands where some were written
abbrev pub written_at : Option (Option Coin) → Option Coin → Option Coin
written_at None below = below
written_at (Some coin) below = coin

laid_here : (b : Bool) (w below : Option Coin) (o : Option (Option Coin)) → cond b w (written_at o below) ≡ written_at (cond b (Some w) o) below
laid_here true w below o = refl
laid_here false w below o = refl

pub get-laid : (m : Coins) (cs : Changes) (q : OutPoint) → map.get (after_changes m cs) q ≡ written_at (change_at cs q) (map.get m q)
unfolding after_changes
get-laid m [] q = refl
get-laid m (c ∷ cs) q =
    get-put (after_changes m cs) c.0 c.1 q
    ∙ ap (cond (same q c.0) c.1) (get-laid m cs q)
    ∙ laid_here (same q c.0) c.1 (map.get m q) (change_at cs q)

laid_there : (o : Option (Option Coin)) (below now : Option Coin) → (o ≡ None → now ≡ below) → ((w : Option Coin) → o ≡ Some w → w ≡ now) → written_at o below ≡ now
laid_there None below now others differ = sym (others refl)
laid_there (Some w) below now others differ = differ w refl

-- the changes from m to n, laid over m, give n
pub laid-changes : (m n : Coins) (cs : Changes) → AreChanges m n cs → after_changes m cs ≡ n
laid-changes m n cs h = same_coins _ _ (λ q.
    get-laid m cs q ∙ laid_there (change_at cs q) (map.get m q) (map.get n q) (h.others q) (λ w e. (h.differ q w e).0))

-- ---- there is one list of changes alone

below-all : (k : OutPoint) (cs : Changes) → AllByRecursion (λ y. outpoint_cmp k y ≡ Less) (keys_of cs) → T (below_all outpoint_cmp k cs)
below-all k [] a = tt
below-all k (c ∷ cs) a = both (is_lt (outpoint_cmp k c.0)) (below_all outpoint_cmp k cs) (subst (λ o. T (is_lt o)) (sym a.0) tt) (below-all k cs a.1)
  where
    both : (p q : Bool) → T p → T q → T (p && q)
    both true q s t = t
    both false q s t = s

sorted : (cs : Changes) → IsInOrder cs → T (is_sorted outpoint_cmp cs)
unfolding IsStrictlySortedBy
sorted [] s = tt
sorted (c ∷ cs) s = both (below_all outpoint_cmp c.0 cs) (is_sorted outpoint_cmp cs) (below-all c.0 cs s.0) (sorted cs s.1)
  where
    both : (p q : Bool) → T p → T q → T (p && q)
    both true q s t = t
    both false q s t = s

one_name : (o p : Option (Option Coin)) (below now : Option Coin)
    → ((w : Option Coin) → o ≡ Some w → (w ≡ now) × ¬ (now ≡ below)) → (o ≡ None → now ≡ below)
    → ((w : Option Coin) → p ≡ Some w → (w ≡ now) × ¬ (now ≡ below)) → (p ≡ None → now ≡ below)
    → o ≡ p
one_name None None below now d e f g = refl
one_name None (Some w) below now d e f g = absurd ((f w refl).1 (e refl))
one_name (Some v) None below now d e f g = absurd ((d v refl).1 (g refl))
one_name (Some v) (Some w) below now d e f g = ap (λ x. Some x) ((d v refl).0 ∙ sym (f w refl).0)

find_named : (cs : Changes) (q : OutPoint) → find outpoint_cmp q cs ≡ change_at cs q
find_named [] q = refl
find_named (c ∷ cs) q = ap (cond (same q c.0) (Some c.1)) (find_named cs q)

pub one_list : (m n : Coins) (cs ds : Changes) → AreChanges m n cs → AreChanges m n ds → cs ≡ ds
one_list m n cs ds h i = same_entries outpoint_cmp total_order exact cs ds (sorted cs h.in_order) (sorted ds i.in_order) (λ q.
    find_named cs q ∙ one_name (change_at cs q) (change_at ds q) (map.get m q) (map.get n q) (h.differ q) (h.others q) (i.differ q) (i.others q) ∙ sym (find_named ds q))
