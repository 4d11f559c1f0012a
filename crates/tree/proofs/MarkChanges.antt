-- A tree of which one mark is another now, or of which the marks were lent whole.
use Rattle.std.proofs.Common.{◌≡◌, ℕ, ◌<◌, ◌≤◌, Bool, false, List, ◌++◌, length, reverse, get_or, take, drop, sym, ap, ◌∙◌, arith}
use Rattle.std.proofs.Math.ListN.{set}
use Rattle.std.proofs.lemmas.List.{length-set}
use Rattle.hash.specs.declared.id.Id.{Id}
use Rattle.block.specs.declared.block.Block.{Block}
use Rattle.tree.specs.declared.block_index.BlockIndex.{BlockIndex}
use Rattle.tree.specs.declared.block_index.Mark.{Mark}
use Rattle.tree.specs.Branches.{has}
use Rattle.tree.specs.State.{State, rank_in}
use Rattle.tree.specs.Nodes.{mark_at, places_where, state_of}
use Rattle.tree.specs.inside.Nodes.{IsRight}
use Rattle.tree.proofs.Views.{kept, where_agree}
use Rattle.tree.proofs.Changes.{set_kept, made, blocks-view, bad-view, seen-view, right_flags, whole}

module _ {ns : List BlockIndex} {ms : List Mark} {cs : List ℕ} {is : List (Id × ℕ)} {ls : List ℕ} (right : IsRight ns ms cs is ls) where
  -- a kept block has a mark
  pub has_mark : {s : State Block} → state_of ns ms cs ≡ s → (p : ℕ) → p ≤ length s.blocks → p < length ms
  has_mark view p h = let k = kept right view in let l = right.same in omega arith

  module _ (p : ℕ) (m n : Mark) (h : p < length ms) (e : m ≡ get_or ms p m) where
    -- a test that is passed at p as before is passed at the same places
    pub where_still : (f : Mark → Bool) → f n ≡ f m → places_where f (set ms p n) ≡ places_where f ms
    where_still f g = where_agree f ms (set ms p n) (length-set ms p n) (λ q w. set_kept ms p m n h e f g q) (omega arith)

    -- the tree stays right if at p neither the mark of an invalid block nor usability is another, and the ranks are those of the calls
    pub right_set : (ds : List ℕ) → n.bad ≡ m.bad → n.usable ≡ m.usable → ((q : ℕ) → q < length ns → (mark_at (set ms p n) q).rank ≡ rank_in (reverse ds) q)
        → ((q : ℕ) → length ns ≤ q → has (reverse ds) q ≡ false) → IsRight ns (set ms p n) ds is ls
    right_set ds bad usable ranks calls =
        right_flags right (set ms p n) ds (length-set ms p n ∙ right.same)
        (set_kept ms p m n h e (λ x. x.bad) bad) (set_kept ms p m n h e (λ x. x.usable) usable) ranks calls

    -- the state with other calls, where at p only the rank is another
    pub state_ranked : {s : State Block} → state_of ns ms cs ≡ s → n.bad ≡ m.bad → n.seen ≡ m.seen → (ds : List ℕ) {calls : List ℕ} → ◌≡◌ {A = List ℕ} (reverse ds) calls
        → state_of ns (set ms p n) ds ≡ record { blocks = s.blocks; bad = s.bad; seen = s.seen; precious = calls }
    state_ranked view bad seen ds calls =
        made ns (set ms p n) ds (blocks-view ns ms cs view)
        (where_still (λ x. x.bad) bad ∙ bad-view ns ms cs view) (where_still (λ x. x.seen) seen ∙ seen-view ns ms cs view) calls

-- a list that was lent whole is then as the call left it
pub comes_back : {A : Type 0} (new old lent : List A) (n : ℕ) → lent ≡ old → length lent ≡ n → length new ≡ length old → take n (new ++ drop (length new) old) ≡ new
comes_back new old lent n is len same = whole new old n (sym len ∙ ap (λ (l : List _). length l) is ∙ sym same)
