-- The walk up a branch: each block over the coins of its parent's, up to the first that doesn't connect.
use Rattle.std.proofs.Common.{◌≡◌, ℕ, suc, ◌+◌, ◌-◌, ◌<◌, ◌≤◌, true, not, List, [], ◌∷◌, ◌++◌, length, reverse, take, drop, get_or, Option, Some, None, sym, ap, ◌∙◌, subst, inl, inr, append_assoc, arith}
use Rattle.std.specs.Option.{is_none}
use Rattle.std.specs.List.{list_all}
use Rattle.std.proofs.lemmas.Bool.{and_from, cases_eq}
use Rattle.std.proofs.lemmas.List.{length-map, length-reverse, length-take, take_all, length-drop, reverse-append, take-append-drop, take-append-le, get_or-reverse, drop_more}
use Rattle.txn.specs.declared.reason.Reason.{Reason}
use Rattle.hash.specs.declared.id.Id.{Id}
use Rattle.block.specs.declared.block.Block.{Block}
use Rattle.signatures.specs.Triple.{Triples}
use Rattle.coins.specs.Coins.{Coins}
use Rattle.rules.specs.declared.params.Params.{Params}
use Rattle.rules.specs.Params.{at}
use Rattle.connect.specs.BlockContext.{Setting}
use Rattle.connect.specs.Turns.{effect, undo_of}
use Rattle.connect.specs.computed.Scripts.{connect_fault}
use Rattle.tree.specs.Branches.{Blocks, has, branch, on, height, parent_at, block_at, blocks_at}
use Rattle.tree.specs.Names.{names}
use Rattle.tree.specs.MedianTime.{median_time_past}
use Rattle.tree.specs.laws.Sets.{has_here, has_there}
use Rattle.tree.specs.laws.Branches.{branch_head, on-bounds}
use Rattle.tree.specs.laws.Parents.{parent-kept, before-parent, branch-parent, height-parent, climb}
use Rattle.tree.specs.laws.Walks.{has_at}
use Rattle.tree.specs.laws.Above.{above, above-end, above-step, above-rest, above-part, OnWay}
use Rattle.model.specs.Rules.{Rules}
use Rattle.model.specs.Valid.{fault, connects, branch_connects, first_to_fail}
use Rattle.model.specs.StateInvariant.{AllKept}
use Rattle.model.specs.laws.Medians.{length-medians}
use Rattle.model.specs.Regtest.{medians_of, setting_on, ledger, regtest}
use Rattle.activate.specs.CoreState.{branch_blocks, coins_after}
use Rattle.activate.specs.Lookups.{undo_at}
use Rattle.activate.specs.inside.Paths.{AreConnected}
use Rattle.activate.specs.inside.Ascents.{top_of, LeadsUp}
use Rattle.model.specs.laws.Candidates.{valid_gives}
use Rattle.model.specs.laws.Coins.{length-blocks, length-older, step-up, fault-parent}
use Rattle.activate.specs.laws.Fork.{setting_at, connected-at}

-- ---- the place of the next block

-- the last of the medians by height is the highest block's
last-median : (bs : List Block) → 0 < length bs → get_or (reverse (medians_of bs)) (length (reverse (medians_of bs)) - 1) 0 ≡ median_time_past bs
last-median [] h = absurd (omega arith)
last-median (b ∷ older) h =
    let n = length-reverse (medians_of (b ∷ older)) in
    let e : length (medians_of (b ∷ older)) - 1 - (length (reverse (medians_of (b ∷ older))) - 1) ≡ 0 = omega arith in
    get_or-reverse (medians_of (b ∷ older)) (length (reverse (medians_of (b ∷ older))) - 1) 0 (let m = length-medians (b ∷ older) in omega arith)
    ∙ ap (λ (i : ℕ). get_or (medians_of (b ∷ older)) i 0) e

-- the median of a block comes on top of those of its parent's branch
pub medians-next : (t : Blocks Block) (p : ℕ) → 0 < p → p ≤ length t → reverse (medians_of (branch_blocks t p)) ≡ reverse (medians_of (branch_blocks t (parent_at t p))) ++ median_time_past (branch_blocks t p) ∷ []
medians-next t p z h =
    ap (λ (l : List ℕ). reverse (medians_of (blocks_at names t l))) (branch-parent t p z h)
    ∙ reverse-append (median_time_past (blocks_at names t (p ∷ branch t (parent_at t p))) ∷ []) (medians_of (branch_blocks t (parent_at t p)))
    ∙ ap (λ (l : List ℕ). reverse (medians_of (branch_blocks t (parent_at t p))) ++ median_time_past (blocks_at names t l) ∷ []) (sym (branch-parent t p z h))

-- at this height, above a block that has the last of these medians
abbrev pub setting_under : Params → ℕ → List ℕ → Setting
setting_under params height medians = record { height = height; cutoff = get_or medians (length medians - 1) 0; medians = medians; rules = at params height }

module _ (params : Params) (bs : List Block) where
  -- where the block on top of these stands
  pub setting-next : (height : ℕ) (medians : List ℕ) → height ≡ length bs → 0 < length bs → medians ≡ reverse (medians_of bs)
      → ◌≡◌ {A = Setting} (setting_under params height medians) (setting_on params bs)
  setting-next height medians h z m =
      ap (λ (n : ℕ). setting_under params n medians) h
      ∙ ap (setting_under params (length bs)) m
      ∙ ap (λ (n : ℕ). record { height = length bs; cutoff = n; medians = reverse (medians_of bs); rules = at params (length bs) }) (last-median bs z)

module _ (params : Params) (triples : Triples) (t : Blocks Block) where
  abbrev r : Rules Block Id
  r = regtest params triples

  module _ (p : ℕ) (z : 0 < p) (h : p ≤ length t) where
    pub length-parent : length (branch_blocks t (parent_at t p)) ≡ height t p
    length-parent = length-blocks r ledger t (branch t (parent_at t p)) ∙ length-older r ledger t p z h

    -- connected to the coins of its parent's branch, at its height and with the medians of that branch
    module _ (n : ℕ) (m : Coins) (b : Block) (tall : n ≡ height t p) (left : m ≡ coins_after t (parent_at t p)) (is : b ≡ block_at names t p) where
      -- its fault is the block's own
      pub fault-next : (medians : List ℕ) → medians ≡ reverse (medians_of (branch_blocks t (parent_at t p)))
          → connect_fault (setting_under params n medians) m b.txs triples ≡ fault r t p
      fault-next medians e =
          let l = length-parent in
          let up = height-parent t p z h in
          ap (λ (s : Setting). connect_fault s m b.txs triples) (setting-next params (branch_blocks t (parent_at t p)) n medians (tall ∙ sym l) (omega arith) e)
          ∙ ap (λ (k : Coins). connect_fault (setting_on params (branch_blocks t (parent_at t p))) k b.txs triples) left
          ∙ ap (λ (x : Block). connect_fault (setting_on params (branch_blocks t (parent_at t p))) (coins_after t (parent_at t p)) x.txs triples) is
          ∙ sym (fault-parent r ledger t p z h)

      -- so is what it spends
      pub undo-next : undo_of n m b.txs ≡ undo_at t p
      unfolding undo_at
      undo-next =
          ap (λ (k : ℕ). undo_of k m b.txs) tall
          ∙ ap (λ (k : Coins). undo_of (height t p) k b.txs) left
          ∙ ap (λ (x : Block). undo_of (height t p) (coins_after t (parent_at t p)) x.txs) is

      -- and the coins that it leaves are those of its branch
      pub coins-next : effect n m b.txs ≡ coins_after t p
      coins-next =
          ap (λ (k : ℕ). effect k m b.txs) tall
          ∙ ap (λ (k : Coins). effect (height t p) k b.txs) left
          ∙ ap (λ (x : Block). effect (height t p) (coins_after t (parent_at t p)) x.txs) is
          ∙ sym (step-up r ledger t p z h)

    -- where it connects on a valid branch, its own is valid
    pub valid-next : branch_connects r t (parent_at t p) ≡ true → fault r t p ≡ None → branch_connects r t p ≡ true
    unfolding branch_connects connects
    valid-next v e = ap (λ (l : List ℕ). list_all (connects r t) l) (branch-parent t p z h) ∙ and_from _ _ (ap is_none e) v

    -- and where it doesn't, it is the first of its branch
    pub first-next : (reason : Reason) → branch_connects r t (parent_at t p) ≡ true → fault r t p ≡ Some reason → first_to_fail r t p ≡ true
    unfolding branch_connects first_to_fail connects
    first-next reason v e = and_from _ _ (ap (λ (o : Option Reason). not (is_none o)) e) (ap (λ (l : List ℕ). list_all (connects r t) l) (before-parent t p z h) ∙ v)

  -- each block of a valid branch was connected to the coins of its parent's
  pub were-connected : (p : ℕ) → p ≤ length t → AllKept r t → branch_connects r t p ≡ true → AreConnected t p
  unfolding undo_at
  were-connected p h all v x z o =
      let k = (on-bounds t p x o).1 in
      record {
        setting = setting_at params triples t x;
        high = length-parent x z k;
        connected = connected-at params triples t x z k all (valid_gives r t p x v o);
      }

-- ---- the blocks of a path

has-mid : (front : List ℕ) (x : ℕ) (rest : List ℕ) → has (front ++ (x ∷ rest)) x ≡ true
has-mid [] x rest = has_here x rest
has-mid (y ∷ front) x rest = has_there y x (front ++ (x ∷ rest)) (has-mid front x rest)

module _ (t : Blocks Block) (f : ℕ) where
  pub top-above : (p : ℕ) → p ≤ length t → on t p f ≡ true → top_of f (above t p f) ≡ p
  top-above p h o =
      elim (cases_eq p f) [
        | inl e ↦ ap (λ (q : ℕ). top_of f (above t q f)) e ∙ ap (top_of f) (above-end t f (on-bounds t p f o).1) ∙ sym e
        | inr n ↦ let b = (on-bounds t p f o).0 in ap (top_of f) (above-step t p f (omega arith) h)
      ]

  -- a block of a path, and those below it, of which the first is its parent
  pub record IsNext (up : List ℕ) (x : ℕ) (rest : List ℕ) : Type 0 where
    pub above_genesis : 0 < x
    pub above_fork : f < x
    pub kept : x ≤ length t
    pub parent : parent_at t x ≡ top_of f rest
    pub there : on t (top_of f up) x ≡ true

  pub next-of : (up front : List ℕ) (x : ℕ) (rest : List ℕ) → LeadsUp t f up → up ≡ front ++ (x ∷ rest) → IsNext up x rest
  unfolding on
  next-of up front x rest w e =
      let p = top_of f up in
      let n : OnWay t f x rest = above-part t p f w.kept w.shared front x rest (sym w.all ∙ e) in
      let b = n.above_f in
      record {
        above_genesis = omega arith;
        above_fork = b;
        kept = n.kept;
        parent = sym (ap (top_of f) n.rest_is ∙ top-above (parent_at t x) (parent-kept t x (omega arith) n.kept) n.on_parent);
        there = ap (λ (l : List ℕ). has l x) (above-rest t p f w.kept w.shared ∙ ap (λ (l : List ℕ). l ++ branch t f) (sym w.all ∙ e) ∙ append_assoc front (x ∷ rest) (branch t f)) ∙ has-mid front x (rest ++ branch t f);
      }

  -- the block above so many of a path's, counted from the fork
  module _ (up : List ℕ) (w : LeadsUp t f up) (passed : ℕ) (low : passed < length up) (x : ℕ) (is : x ≡ get_or up (length up - 1 - passed) 0) where
    pub rest-next : ◌≡◌ {A = List ℕ} (drop (length up - (passed + 1)) up) (x ∷ drop (length up - passed) up)
    rest-next =
        let i : length up - (passed + 1) ≡ length up - 1 - passed = omega arith in
        let j : length up - 1 - passed + 1 ≡ length up - passed = omega arith in
        ap (λ (k : ℕ). drop k up) i ∙ drop_more up (length up - 1 - passed) 0 (omega arith)
        ∙ ap (λ (y : ℕ). y ∷ drop (length up - 1 - passed + 1) up) (sym is) ∙ ap (λ (k : ℕ). x ∷ drop k up) j

    pub parts-next : ◌≡◌ {A = List ℕ} up (take (length up - (passed + 1)) up ++ (x ∷ drop (length up - passed) up))
    parts-next = sym (take-append-drop (length up - (passed + 1)) up) ∙ ap (λ (l : List ℕ). take (length up - (passed + 1)) up ++ l) rest-next

    pub is-next : IsNext up x (drop (length up - passed) up)
    is-next = next-of up (take (length up - (passed + 1)) up) x (drop (length up - passed) up) w parts-next

    -- the same from the fork up
    pub parts-back : ◌≡◌ {A = List ℕ} (reverse up) (reverse (drop (length up - passed) up) ++ (x ∷ reverse (take (length up - (passed + 1)) up)))
    parts-back =
        ap (λ (l : List ℕ). reverse l) parts-next
        ∙ reverse-append (take (length up - (passed + 1)) up) (x ∷ drop (length up - passed) up)
        ∙ ap (λ (l : List ℕ). l ++ reverse (take (length up - (passed + 1)) up)) (reverse-append (x ∷ []) (drop (length up - passed) up))
        ∙ append_assoc (reverse (drop (length up - passed) up)) (x ∷ []) (reverse (take (length up - (passed + 1)) up))

    pub counted-back : passed ≡ length (reverse (drop (length up - passed) up))
    counted-back =
        let a = length-reverse (drop (length up - passed) up) in
        let b = length-drop (length up - passed) up in
        omega arith

-- what begins a list that begins another one begins that one
pub begins : (a b c : List ℕ) → take (length a) b ≡ a → take (length b) c ≡ b → take (length a) c ≡ a
begins a b c e f =
    let n = length-take (length a) b in
    let m = ap (λ (l : List ℕ). length l) e in
    ap (take (length a)) (sym (take-append-drop (length b) c) ∙ ap (λ (l : List ℕ). l ++ drop (length b) c) f)
    ∙ take-append-le (length a) b (drop (length b) c) (omega arith) ∙ e

-- ---- the medians of the active branch

module _ (t : Blocks Block) where
  abbrev medians_at : ℕ → List ℕ
  medians_at p = medians_of (branch_blocks t p)

  pub length-medians_at : (p : ℕ) → length (reverse (medians_at p)) ≡ length (branch t p)
  length-medians_at p = length-reverse (medians_at p) ∙ length-medians (branch_blocks t p) ∙ length-map (branch t p) (block_at names t)

  module _ (p height : ℕ) (h : p ≤ length t) (low : height < length (branch t p)) where
    pub place-kept : get_or (reverse (branch t p)) height 0 ≤ length t
    unfolding on
    place-kept =
        subst (λ (x : ℕ). x ≤ length t) (sym (get_or-reverse (branch t p) height 0 low))
        (on-bounds t p (get_or (branch t p) (length (branch t p) - 1 - height) 0) (has_at (branch t p) (length (branch t p) - 1 - height) 0 (omega arith))).1

  -- those up to a block of the branch are that one's
  abbrev Begins : ℕ → ℕ → Type 0
  Begins f p = (length (branch t f) ≤ length (branch t p)) × (take (length (branch t f)) (reverse (medians_at p)) ≡ reverse (medians_at f))

  begins-below : (p f : ℕ) → p ≤ length t → on t p f ≡ true → Begins f p
  begins-below p f h o = climb t f (Begins f) own up p h o
    where
      own : Begins f f
      own = let n = length-medians_at f in (omega arith, take_all (length (branch t f)) (reverse (medians_at f)) (omega arith))

      up : (x : ℕ) → f < x → x ≤ length t → on t (parent_at t x) f ≡ true → Begins f (parent_at t x) → Begins f x
      up x l m q below =
          let b = below.0 in
          let e = ap (λ (k : List ℕ). length k) (branch-parent t x (omega arith) m) in
          let n = length-medians_at (parent_at t x) in (
            omega arith,
            ap (take (length (branch t f))) (medians-next t x (omega arith) m)
                ∙ take-append-le (length (branch t f)) (reverse (medians_at (parent_at t x))) (median_time_past (branch_blocks t x) ∷ []) (omega arith)
                ∙ below.1,
          )

  pub length-branch : (p : ℕ) → p ≤ length t → length (branch t p) ≡ suc (height t p)
  unfolding height
  length-branch p h = ap (λ (l : List ℕ). length l) (branch_head t p h)

  -- a block of a branch is no higher than its top
  pub height-below : (p f : ℕ) → p ≤ length t → on t p f ≡ true → height t f ≤ height t p
  height-below p f h o =
      let a = length-branch p h in
      let b = length-branch f (on-bounds t p f o).1 in
      let d = (begins-below p f h o).0 in
      omega arith

  pub medians-shared : (p f : ℕ) → p ≤ length t → on t p f ≡ true → take (height t f + 1) (reverse (medians_at p)) ≡ reverse (medians_at f)
  medians-shared p f h o =
      let b = length-branch f (on-bounds t p f o).1 in
      ap (λ (n : ℕ). take n (reverse (medians_at p))) (omega arith) ∙ (begins-below p f h o).1
