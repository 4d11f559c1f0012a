-- A try of a block that isn't kept yet, told of the blocks with it.
use Rattle.std.proofs.Common.{◌≡◌, ℕ, suc, ◌+◌, ◌≤◌, true, eqb, List, [], ◌∷◌, ◌++◌, length, map, reverse, Option, Some, sym, refl, ap, ◌∙◌, subst, inl, inr, arith}
use Rattle.std.proofs.lemmas.Bool.{eqb-true, or_cases, or_right, false_from_ne_true}
use Rattle.std.proofs.lemmas.List.{length-map, length-reverse, reverse-append, append_assoc}
use Rattle.txn.specs.declared.reason.Reason.{Reason}
use Rattle.hash.specs.declared.id.Id.{Id}
use Rattle.block.specs.declared.block.Block.{Block}
use Rattle.signatures.specs.Known.{Known}
use Rattle.signatures.specs.Triple.{Triple, Triples}
use Rattle.rules.specs.declared.params.Params.{Params}
use Rattle.rules.specs.Params.{at}
use Rattle.rules.specs.declared.in_force.InForce.{InForce}
use Rattle.coins.specs.declared.coin.Coin.{Coin}
use Rattle.coins.specs.Coins.{Coins}
use Rattle.coins.specs.Changes.{AreChanges, after_changes}
use Rattle.connect.specs.BlockContext.{Setting}
use Rattle.connect.specs.computed.Scripts.{connect_fault}
use Rattle.connect.specs.Scripts.{AreWantedByBlock}
use Rattle.connect.specs.Turns.{effect, undo_of}
use Rattle.tree.specs.Branches.{Kept, Blocks, has, branch, height, on, parent_at, block_at}
use Rattle.tree.specs.MedianTime.{median_time_past}
use Rattle.tree.specs.Names.{names}
use Rattle.tree.specs.laws.Above.{above, until, above-step}
use Rattle.tree.specs.laws.AddedBlock.{block_there, blocks-new, blocks-old}
use Rattle.tree.specs.laws.Branches.{branch_there, height_there, on-bounds, on-itself, on_here, on_there, parent_here, parent_there}
use Rattle.model.specs.Rules.{Rules}
use Rattle.model.specs.Replay.{replay}
use Rattle.model.specs.Valid.{branch_connects}
use Rattle.model.specs.Regtest.{medians_of, setting_on, ledger, regtest}
use Rattle.model.specs.laws.Coins.{replay-block}
use Rattle.model.specs.laws.AddedBlock.{fault_new, fault_there}
use Rattle.model.specs.laws.InHand.{first_own, first_below}
use Rattle.activate.specs.declared.path.BranchPath.{BranchPath}
use Rattle.activate.specs.declared.path.Reorganisation.{Reorganisation}
use Rattle.activate.specs.CoreState.{branch_blocks, coins_after}
use Rattle.activate.specs.Wants.{AreWantedAt}
use Rattle.activate.specs.Lookups.{undo_at}
use Rattle.activate.specs.inside.Paths.{AreWantedOnWay, IsPath, IsStop, LeadsTo}
use Rattle.activate.specs.laws.WalkUp.{length-branch}
use Rattle.activate.specs.laws.Growth.{kept-parent, map_agree, undo-new, undo-old}
use Rattle.activate.specs.laws.TryNotes.{above-on}

-- ---- where a block on a branch stands, as it is connected

pub setting-tip : (params : Params) (t : Blocks Block) (p : ℕ) (s : Setting) → p ≤ length t → s.height ≡ height t p + 1 → s.cutoff ≡ median_time_past (branch_blocks t p)
    → s.medians ≡ reverse (medians_of (branch_blocks t p)) → s.rules ≡ at params s.height → s ≡ setting_on params (branch_blocks t p)
setting-tip params t p s k high cut medians same =
    let long : s.height ≡ length (branch_blocks t p) =
    high ∙ sym (length-map (branch t p) (block_at names t) ∙ length-branch t p k ∙ omega arith) in
    ap (λ (q : InForce). of s.height s.cutoff s.medians q) same
    ∙ ap (λ (n : ℕ). of n s.cutoff s.medians (at params n)) long
    ∙ ap (λ (n : ℕ). of (length (branch_blocks t p)) n s.medians (at params (length (branch_blocks t p)))) cut
    ∙ ap (λ (l : List ℕ). of (length (branch_blocks t p)) (median_time_past (branch_blocks t p)) l (at params (length (branch_blocks t p)))) medians
  where
    of : ℕ → ℕ → List ℕ → InForce → Setting
    of height cutoff medians rules = record { height = height; cutoff = cutoff; medians = medians; rules = rules }

-- the fault that is found there is that of the branch
pub fault-tip : (params : Params) (triples : Triples) (t : Blocks Block) (p : ℕ) (b : Block) (m : Coins) (found : Option Reason) (s : Setting) → connect_fault s m b.txs triples ≡ found → m ≡ coins_after t p
    → s ≡ setting_on params (branch_blocks t p) → (regtest params triples).connect_fault (branch_blocks t p) b ≡ found
fault-tip params triples t p b m found s e coins same =
    sym (ap (λ (q : Setting). connect_fault q m b.txs triples) same ∙ ap (λ (q : Coins). connect_fault (setting_on params (branch_blocks t p)) q b.txs triples) coins) ∙ e

module _ (k : Kept Block) (t : Blocks Block) (kept : k.parent ≤ length t) (a : ℕ) (old : a ≤ length t) where
  abbrev n : ℕ
  n = suc (length t)

  abbrev more : Blocks Block
  more = k ∷ t

  coins_there : coins_after more a ≡ coins_after t a
  coins_there = ap (replay ledger) (blocks-old names k t a old)

  above_there : (p f : ℕ) → p ≤ length t → above more p f ≡ above t p f
  unfolding above
  above_there p f h = ap (until f) (branch_there k t p (omega arith))

  -- ---- the path

  module _ (path : BranchPath) (is : IsPath t a k.parent path) where
    below_fork : path.fork ≤ length t
    below_fork = (on-bounds t a path.fork is.shared.here).1

    -- goes on to the new block
    pub path_new : (longer : BranchPath) → longer.fork ≡ path.fork → longer.height ≡ path.height → longer.up.items ≡ n ∷ path.up.items → IsPath more a n longer
    path_new longer fork high up =
        let f = below_fork in
        let steps : ◌≡◌ {A = List ℕ} (above more n path.fork) (n ∷ path.up.items) =
        above-step more n path.fork (omega arith) (omega arith) ∙ ap (λ (q : ℕ). n ∷ above more q path.fork) (parent_here k t kept)
        ∙ ap (λ (l : List ℕ). n ∷ l) (above_there k.parent path.fork kept ∙ sym is.up) in
        record {
          shared = record {
            here = ap (on more a) fork ∙ on_there k t a path.fork (omega arith) ∙ is.shared.here;
            there = ap (on more n) fork ∙ on_here k t n path.fork refl ∙ or_right (eqb n path.fork) (on t k.parent path.fork) is.shared.there;
            last = λ x o w.
                let here = sym (on_there k t a x (omega arith)) ∙ o in
                ap (λ (q : ℕ). on more q x) fork ∙ on_there k t path.fork x (omega arith)
                ∙ is.shared.last x here (elim (or_cases (eqb n x) (on t k.parent x) (sym (on_here k t n x refl) ∙ w)) [
                  | inl e ↦ let l = (on-bounds t a x here).1 in let q = eqb-true n x e in absurd (omega arith)
                  | inr e ↦ e
                ]);
          };
          high = high ∙ is.high ∙ sym (height_there k t path.fork f) ∙ ap (height more) (sym fork);
          up = up ∙ sym steps ∙ ap (above more n) (sym fork);
        }

    spent_there : map (undo_at more) path.up.items ≡ map (undo_at t) path.up.items
    spent_there = map_agree (undo_at more) (undo_at t) path.up.items (λ x h. undo-old k t x
        (on-bounds t k.parent x (above-on t path.fork k.parent x kept is.shared.there (ap (λ (l : List ℕ). has l x) (sym is.up) ∙ h))).1)

    -- what its blocks spend
    pub undo_grown : (undo : List (List (List Coin))) (taken : List (List Coin)) → undo ≡ reverse (map (undo_at t) path.up.items) → taken ≡ undo_of (height t k.parent + 1) (coins_after t k.parent) k.block.txs
        → ◌≡◌ {A = List (List (List Coin))} (undo ++ taken ∷ []) (reverse (map (undo_at more) (n ∷ path.up.items)))
    undo_grown undo taken e f =
        ap (λ (l : List (List (List Coin))). l ++ taken ∷ []) (e ∙ ap (λ (l : List (List (List Coin))). reverse l) (sym spent_there))
        ∙ ap (λ (u : List (List Coin)). reverse (map (undo_at more) path.up.items) ++ u ∷ [])
        (f ∙ ap (λ (h : ℕ). undo_of h (coins_after t k.parent) k.block.txs) {x = height t k.parent + 1} {y = suc (height t k.parent)} (omega arith) ∙ sym (undo-new k t kept))
        ∙ sym (reverse-append (undo_at more n ∷ []) (map (undo_at more) path.up.items))

  -- ---- the coins after it

  module _ (params : Params) (triples : Triples) where
    abbrev r : Rules Block Id
    r = regtest params triples

    coins_new : coins_after more n ≡ effect (height t k.parent + 1) (coins_after t k.parent) k.block.txs
    coins_new =
        ap (replay ledger) (blocks-new names k t) ∙ replay-block r ledger t k.block k.parent kept
        ∙ ap (λ (h : ℕ). effect h (coins_after t k.parent) k.block.txs) {x = length (branch t k.parent)} {y = height t k.parent + 1} (length-branch t k.parent kept ∙ omega arith)

    -- it connects
    pub leads_new : (path : BranchPath) → IsPath t a k.parent path → (move : Reorganisation) → move.path.fork ≡ path.fork → move.path.height ≡ path.height → move.path.up.items ≡ n ∷ path.up.items
        → branch_connects r more n ≡ true → move.undo ≡ reverse (map (undo_at more) (n ∷ path.up.items))
        → (below after : Coins) → below ≡ coins_after t a → after ≡ effect (height t k.parent + 1) (coins_after t k.parent) k.block.txs
        → AreChanges below after move.changes → after_changes below move.changes ≡ after → LeadsTo r more a n move
    leads_new path is move fork high up good undo below after base top changes laid = record {
      path = path_new path is move.path fork high up;
      good = good;
      undo = undo ∙ ap (λ (l : List ℕ). reverse (map (undo_at more) l)) (sym up);
      changes =
          subst (λ (m : Coins). AreChanges m (coins_after more n) move.changes) (base ∙ sym coins_there)
          (subst (λ (m : Coins). AreChanges below m move.changes) (top ∙ sym coins_new) changes);
      laid = ap (λ (m : Coins). after_changes m move.changes) (coins_there ∙ sym base) ∙ laid ∙ top ∙ sym coins_new;
    }

    -- ---- where it stops

    -- below the block
    pub stop_below : (up longer : List ℕ) (passed : ℕ) (reason : Reason) → longer ≡ n ∷ up → IsStop r t k.parent up passed reason → IsStop r more n longer passed reason
    stop_below up longer passed reason e is = record {
      front = is.front;
      place = is.place;
      rest = is.rest ++ n ∷ [];
      parts = ap (λ (l : List ℕ). reverse l) e ∙ reverse-append (n ∷ []) up ∙ ap (λ (l : List ℕ). l ++ n ∷ []) is.parts ∙ append_assoc is.front (is.place ∷ is.rest) (n ∷ []);
      counted = is.counted;
      first = first_below r k t kept is.place is.first;
      broken = fault_there r k t is.place (on-bounds t k.parent is.place is.first.on).1 ∙ is.broken;
    }

    -- or at it
    pub stop_own : (up longer : List ℕ) (passed : ℕ) (reason : Reason) → longer ≡ n ∷ up → passed ≡ length up → branch_connects r t k.parent ≡ true
        → r.connect_fault (Rattle.tree.specs.Branches.blocks_at r.names t (branch t k.parent)) k.block ≡ Some reason → IsStop r more n longer passed reason
    stop_own up longer passed reason e count valid own = record {
      front = reverse up;
      place = n;
      rest = [];
      parts = ap (λ (l : List ℕ). reverse l) e ∙ reverse-append (n ∷ []) up;
      counted = count ∙ sym (length-reverse up);
      first = first_own r k t kept valid reason own;
      broken = fault_new r k t kept ∙ own;
    }

  -- ---- what is wanted

  module _ (params : Params) (known : Known) where
    -- below the block
    pub wanted_there : (list : List Triple) → AreWantedOnWay params t a k.parent known list → AreWantedOnWay params more a n known list
    wanted_there list w =
        let x = w.place in
        let here = (on-bounds t k.parent x w.there).1 in
        record {
          place = x;
          there = on_here k t n x refl ∙ or_right (eqb n x) (on t k.parent x) w.there;
          apart = on_there k t a x (omega arith) ∙ w.apart;
          wanted = subst (λ (q : ℕ). AreWantedByBlock (setting_on params (branch_blocks more q)) (coins_after more q) (block_at names more x).txs known list) (sym (parent_there k t x here))
              (subst (λ (l : List Block). AreWantedByBlock (setting_on params l) (replay ledger l) (block_at names more x).txs known list) (sym (blocks-old names k t (parent_at t x) (kept-parent k t x here)))
              (subst (λ (b : Block). AreWantedByBlock (setting_on params (branch_blocks t (parent_at t x))) (coins_after t (parent_at t x)) b.txs known list) (sym (block_there names k t x here)) w.wanted));
        }

    -- or by it
    pub wanted_own : (list : List Triple) → AreWantedAt params more known n list → AreWantedOnWay params more a n known list
    wanted_own list w = record {
      place = n;
      there = on-itself more n (omega arith);
      apart = on_there k t a n (omega arith) ∙ false_from_ne_true (on t a n) (λ here. let low = (on-bounds t a n here).1 in absurd (omega arith));
      wanted = w;
    }
