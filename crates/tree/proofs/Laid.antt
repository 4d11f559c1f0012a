-- Marks that are laid over a state, or put in the place of a tree's own.
use Rattle.std.proofs.Common.{◌≡◌, ℕ, suc, ◌<◌, ◌≤◌, Bool, true, false, not, ◌&&◌, ◌||◌, eqb, List, [], length, get_or, sym, refl, ap, ◌∙◌, subst, arith}
use Rattle.std.specs.List.{filter, list_all}
use Rattle.std.proofs.Math.ListN.{set}
use Rattle.std.proofs.lemmas.List.{length-set}
use Rattle.hash.specs.declared.id.Id.{Id}
use Rattle.block.specs.declared.block.Block.{Block}
use Rattle.tree.specs.declared.block_index.BlockIndex.{BlockIndex}
use Rattle.tree.specs.declared.block_index.Mark.{Mark}
use Rattle.tree.specs.Branches.{Blocks, has, branch, on, places}
use Rattle.tree.specs.State.{State, beats, union_where, has_no_mark, rank, with_mark, with_seen, without_marks}
use Rattle.tree.specs.Nodes.{AreMarks, blocks_of, mark_at, laid, places_where, state_of}
use Rattle.tree.specs.inside.Nodes.{AreRemarked, AreUsable, IsRight}
use Rattle.tree.specs.laws.Marks.{usable-genesis}
use Rattle.tree.proofs.Views.{has-where, length-blocks, where_agree, where_joined}
use Rattle.tree.proofs.Changes.{set_kept, set_joined}
use Rattle.tree.proofs.ClearedMarks.{where_cleared}

-- marks that agree on which blocks are invalid leave the same branches usable
usable_same : (s : State Block) (ms ls : List Mark) (p : ℕ) → places_where (λ m. m.bad) ls ≡ places_where (λ m. m.bad) ms → has_no_mark (laid s ls) p ≡ has_no_mark (laid s ms) p
unfolding has_no_mark
usable_same s ms ls p e = ap (λ (l : List ℕ). list_all (λ x. not (has l x)) (branch s.blocks p)) e

-- which of two blocks is better doesn't hang on marks
pub better_laid : (s : State Block) (ms : List Mark) (a b : ℕ) → beats (laid s ms) a b ≡ beats s a b
unfolding beats rank
better_laid s ms a b = refl

-- what holds of lists that were lent holds of those that lent them
pub of_lent : {ns nodes : List BlockIndex} {ms lent : List Mark} (new : List Mark) (bad : ℕ → Bool → Bool) → nodes ≡ ns → lent ≡ ms → AreRemarked nodes lent new bad → AreRemarked ns ms new bad
of_lent {ns} {lent = lent} new bad nodes-are lent-are is =
    subst (λ (l : List Mark). AreRemarked ns l new bad) lent-are (subst (λ (l : List BlockIndex). AreRemarked l lent new bad) nodes-are is)

module _ {s : State Block} {ms : List Mark} (are : AreMarks s ms) where
  pub genesis_usable : has_no_mark (laid s ms) 0 ≡ true
  genesis_usable =
      let n = are.count in
      usable-genesis (laid s ms) ∙ ap (λ (b : Bool). not b && true) (has-where (λ m. m.bad) ms 0 (omega arith) ∙ are.genesis)

  -- a kept block has a mark
  pub has_one : (p : ℕ) → p ≤ length s.blocks → p < length ms
  has_one p h = let n = are.count in omega arith

  -- ---- one block is seen

  module _ (p : ℕ) (h : p < length ms) (m : Mark) (e : m ≡ get_or ms p m) where
    abbrev seen : List Mark
    seen = set ms p (record m { seen = true })

    bad_same : places_where (λ m. m.bad) seen ≡ places_where (λ m. m.bad) ms
    bad_same = where_agree (λ x. x.bad) ms seen (length-set ms p (record m { seen = true })) (λ q w. set_kept ms p m (record m { seen = true }) h e (λ x. x.bad) refl q) (omega arith)

    pub are_seen : AreMarks s (set ms p (record m { seen = true }))
    unfolding rank
    are_seen = record {
      count = length-set ms p (record m { seen = true }) ∙ are.count;
      genesis = set_kept ms p m (record m { seen = true }) h e (λ x. x.bad) refl 0 ∙ are.genesis;
      right = λ q l. record {
        usable = set_kept ms p m (record m { seen = true }) h e (λ x. x.usable) refl q ∙ (are.right q l).usable ∙ sym (usable_same s ms seen q bad_same);
        rank = set_kept ms p m (record m { seen = true }) h e (λ x. x.rank) refl q ∙ (are.right q l).rank;
      };
    }

    pub laid_seen : laid s (set ms p (record m { seen = true })) ≡ with_seen (laid s ms) p
    laid_seen =
        ap (λ (l : List ℕ). record s { bad = l; seen = places_where (λ m. m.seen) seen }) bad_same
        ∙ ap (λ (l : List ℕ). record s { bad = places_where (λ m. m.bad) ms; seen = l })
        (where_joined (λ x. x.seen) (length s.blocks) ms seen (λ x. eqb x p) are.count (length-set ms p (record m { seen = true })) (λ q w. set_joined ms p m (record m { seen = true }) h e (λ x. x.seen) refl q))

  -- ---- the marks of invalid blocks are others

  module _ (ns : List BlockIndex) (some : 0 < length ns) (blocks : ◌≡◌ {A = Blocks Block} (blocks_of ns) s.blocks) where
    pub same_count : length ms ≡ length ns
    same_count = are.count ∙ ap (λ (t : Blocks Block). suc (length t)) (sym blocks) ∙ length-blocks ns some

    usable_there : (ls : List Mark) (p : ℕ) → has_no_mark (state_of ns ls []) p ≡ has_no_mark (laid s ls) p
    unfolding has_no_mark state_of
    usable_there ls p = ap (λ (t : Blocks Block). list_all (λ x. not (has (places_where (λ m. m.bad) ls) x)) (branch t p)) blocks

    pub usable_before : AreUsable (state_of ns ms []) ms (length ns)
    usable_before p h = let n = same_count in let k = are.count in (are.right p (omega arith)).usable ∙ sym (usable_there ms p)

    module _ (new : List Mark) where
      pub are_remarked : (bad : ℕ → Bool → Bool) → bad 0 false ≡ false → AreRemarked ns ms new bad → AreMarks s new
      unfolding rank
      are_remarked bad spares is =
          let n = same_count in
          let k = are.count in record {
            count = is.count ∙ sym n ∙ k;
            genesis = is.bad_are 0 some ∙ ap (bad 0) are.genesis ∙ spares;
            right = λ p l. record {
              usable = is.usable_are p (omega arith) ∙ usable_there new p;
              rank = is.ranks_are p (omega arith) ∙ (are.right p l).rank;
            };
          }

      seen_same : (bad : ℕ → Bool → Bool) → AreRemarked ns ms new bad → places_where (λ m. m.seen) new ≡ places_where (λ m. m.seen) ms
      seen_same bad is =
          let n = same_count in
          where_agree (λ x. x.seen) ms new (is.count ∙ sym n) (λ q h. is.seen_are q (omega arith)) (omega arith)

      pub laid_marked : (p : ℕ) → AreRemarked ns ms new (λ q bad. bad || eqb q p) → laid s new ≡ with_mark (laid s ms) p
      laid_marked p is =
          let n = same_count in
          ap (λ (l : List ℕ). record s { bad = l; seen = places_where (λ m. m.seen) new })
          (where_joined (λ x. x.bad) (length s.blocks) ms new (λ q. eqb q p) are.count (is.count ∙ sym n) (λ q h. is.bad_are q (omega arith)))
          ∙ ap (λ (l : List ℕ). record s { bad = union_where (places s.blocks) (places_where (λ m. m.bad) ms) (λ q. eqb q p); seen = l }) (seen_same (λ q bad. bad || eqb q p) is)

      pub laid_cleared : (p : ℕ) (told : List Bool) → ((x : ℕ) → x < length ns → get_or told x false ≡ (on (blocks_of ns) p x || on (blocks_of ns) x p))
          → AreRemarked ns ms new (λ q bad. bad && not (get_or told q false)) → laid s new ≡ without_marks (laid s ms) p
      unfolding without_marks
      laid_cleared p told related is =
          let n = same_count in
          let k = are.count in
          let same : (x : ℕ) → x < length ns → get_or told x false ≡ (on s.blocks p x || on s.blocks x p) =
          λ x h. related x h ∙ ap (λ (t : Blocks Block). on t p x || on t x p) blocks in
          ap (λ (l : List ℕ). record s { bad = l; seen = places_where (λ m. m.seen) new })
          (where_cleared (λ x. not (on s.blocks p x || on s.blocks x p)) ms new (is.count ∙ sym n) (omega arith)
          (λ q h. is.bad_are q (omega arith) ∙ ap (λ (b : Bool). (mark_at ms q).bad && not b) (same q (omega arith))))
          ∙ ap (λ (l : List ℕ). record s { bad = filter (λ x. not (on s.blocks p x || on s.blocks x p)) (places_where (λ m. m.bad) ms); seen = l })
          (seen_same (λ q bad. bad && not (get_or told q false)) is)

-- ---- a tree's own marks

module _ {ns : List BlockIndex} {ms : List Mark} {cs : List ℕ} {is : List (Id × ℕ)} {ls : List ℕ} (right : IsRight ns ms cs is ls) {s : State Block} (view : state_of ns ms cs ≡ s) where
  pub blocks_there : ◌≡◌ {A = Blocks Block} (blocks_of ns) s.blocks
  unfolding state_of
  blocks_there = ap (λ (t : State Block). t.blocks) view

  pub own_marks : AreMarks s ms
  unfolding state_of
  own_marks =
      let n = length-blocks ns right.some in
      subst (λ (t : State Block). AreMarks t ms) view (record { count = right.same ∙ sym n; genesis = right.genesis; right = λ p h. right.are_marks p (omega arith) })

  -- with others it is right, and has the state that they are laid over
  module _ (new : List Mark) (are : AreMarks s new) where
    pub right_laid : IsRight ns new cs is ls
    unfolding state_of
    right_laid =
        let n = length-blocks ns right.some in
        let own = subst (λ (t : State Block). AreMarks t new) (sym view) are in record {
          some = right.some;
          room = right.room;
          same = own.count ∙ n;
          are_nodes = right.are_nodes;
          are_marks = λ p h. own.right p (omega arith);
          genesis = own.genesis;
          are_calls = right.are_calls;
          in_order = right.in_order;
          are_ids = right.are_ids;
          are_leaves = right.are_leaves;
        }

  pub state_laid : (new : List Mark) → state_of ns new cs ≡ laid s new
  unfolding state_of
  state_laid new = ap (λ (t : State Block). laid t new) view

  pub own_laid : laid s ms ≡ s
  own_laid = sym (state_laid ms) ∙ view
