-- The replay of a branch, block by block.
use Rattle.std.proofs.Common.{◌≡◌, ℕ, zero, suc, ◌+◌, ◌-◌, ◌<◌, ◌≤◌, true, false, not, ◌&&◌, List, [], ◌∷◌, ◌++◌, length, map, reverse, get_or, take, drop, Option, Some, None, sym, refl, ap, ◌∙◌, subst, inl, inr, arith}
use Rattle.std.specs.Prelude.{is_none}
use Rattle.std.specs.List.{list_all}
use Rattle.std.proofs.lemmas.Bool.{cases_eq}
use Rattle.std.proofs.lemmas.List.{length-reverse, length-map, length-append, reverse-append, drop_more, drop_all, get_or-map, get_or-reverse, take_at, take_all, drop-drop}
use Rattle.txn.specs.declared.reason.Reason.{Reason}
use Rattle.block.specs.declared.block.Block.{Block}
use Rattle.signatures.specs.Triple.{Triples}
use Rattle.rules.specs.declared.params.Params.{Params}
use Rattle.rules.specs.Params.{at}
use Rattle.locks.specs.MedianTime.{median_of}
use Rattle.connect.specs.BlockContext.{Setting}
use Rattle.connect.specs.Turns.{effect}
use Rattle.connect.specs.computed.Scripts.{connect_fault}
use Rattle.tree.specs.Branches.{Blocks, branch, before, parent_at, block_at, blocks_at}
use Rattle.tree.specs.Names.{names}
use Rattle.tree.specs.MedianTime.{time_of, median_time_past}
use Rattle.tree.specs.laws.Branches.{branch-genesis}
use Rattle.tree.specs.laws.Parents.{parent-below, before-parent, branch-parent}
use Rattle.reference.specs.declared.branch_replay.Trial.{Trial}
use Rattle.reference.specs.declared.branch_replay.Trial.TheVariants.{Valid, Fails, Below}
use Rattle.model.specs.Rules.{Rules}
use Rattle.model.specs.Valid.{fault_over, fault, connects, branch_connects, first_to_fail}
use Rattle.model.specs.Replay.{replay}
use Rattle.model.specs.Regtest.{medians_of, setting_on, ledger, regtest}
use Rattle.model.specs.laws.Medians.{length-medians}
use Rattle.reference.specs.inside.Replay.{medians_in, trial_after, trial_on, is_valid, is_first}

-- ---- medians

pub medians-times : (bs : List Block) → medians_of bs ≡ medians_in (map time_of bs)
unfolding median_time_past
medians-times [] = refl
medians-times (b ∷ older) = ap (λ (l : List ℕ). median_of (take 11 (map time_of (b ∷ older))) ∷ l) (medians-times older)

pub medians-drop : (k : ℕ) (bs : List Block) → medians_of (drop k bs) ≡ drop k (medians_of bs)
medians-drop zero bs = refl
medians-drop (suc k) [] = refl
medians-drop (suc k) (b ∷ older) = medians-drop k older

-- one time more
pub medians_more : (times : List ℕ) (k : ℕ) → k < length times → reverse (medians_in (drop (k + 1) times)) ++ median_of (take 11 (drop k times)) ∷ [] ≡ reverse (medians_in (drop k times))
medians_more times k h =
    let e : drop k times ≡ get_or times k 0 ∷ drop (k + 1) times = drop_more times k 0 h in
    ap (λ (l : List ℕ). reverse (medians_in (drop (k + 1) times)) ++ median_of (take 11 l) ∷ []) e ∙ sym (reverse-append (median_of (take 11 (get_or times k 0 ∷ drop (k + 1) times)) ∷ []) (medians_in (drop (k + 1) times)))
    ∙ ap (λ (l : List ℕ). reverse (medians_in l)) (sym e)

take-reverse : (l : List ℕ) (k : ℕ) → k ≤ length l → take (length l - k) (reverse l) ≡ reverse (drop k l)
take-reverse l k h =
    let e : reverse l ≡ reverse (drop k l) ++ reverse (take k l) = ap (λ (m : List ℕ). reverse m) (sym (Rattle.std.proofs.lemmas.List.take-append-drop k l)) ∙ reverse-append (take k l) (drop k l) in
    let n = Rattle.std.proofs.lemmas.List.length-drop k l in
    let m = length-reverse (drop k l) in
    ap (take (length l - k)) e ∙ take_at (reverse (drop k l)) (reverse (take k l)) (length l - k) (omega arith)

-- ---- where a block stands

setting_same : (params : Params) (l : List Block) (height cutoff : ℕ) (medians : List ℕ) → height ≡ length l → cutoff ≡ median_time_past l → medians ≡ reverse (medians_of l)
    → record { height = height; cutoff = cutoff; medians = medians; rules = at params height } ≡ setting_on params l
setting_same params l height cutoff medians a b c =
    ap (λ (n : ℕ). record { height = n; cutoff = cutoff; medians = medians; rules = at params n }) a
    ∙ ap (λ (n : ℕ). record { height = length l; cutoff = n; medians = medians; rules = at params (length l) }) b
    ∙ ap (λ (m : List ℕ). record { height = length l; cutoff = median_time_past l; medians = m; rules = at params (length l) }) c

head_median : (bs : List Block) → 0 < length bs → get_or (medians_of bs) 0 0 ≡ median_time_past bs
head_median [] h = absurd (omega arith)
head_median (b ∷ older) h = refl

module _ (params : Params) (bs : List Block) (height k : ℕ) (sum : height + k ≡ length bs) (some : 1 ≤ height) where
  -- the last median of those below this height
  pub cutoff-is : get_or (reverse (medians_of bs)) (height - 1) 0 ≡ median_time_past (drop k bs)
  cutoff-is =
      let n = length-medians bs in
      let d = Rattle.std.proofs.lemmas.List.length-drop k bs in
      get_or-reverse (medians_of bs) (height - 1) 0 (omega arith)
      ∙ ap (λ (i : ℕ). get_or (medians_of bs) i 0) (omega arith)
      ∙ sym (Rattle.std.proofs.lemmas.List.get_or-drop k (medians_of bs) 0 0)
      ∙ ap (λ (l : List ℕ). get_or l 0 0) (sym (medians-drop k bs))
      ∙ head_median (drop k bs) (omega arith)

  medians-are : take height (reverse (medians_of bs)) ≡ reverse (medians_of (drop k bs))
  medians-are =
      let n = length-medians bs in
      ap (λ (i : ℕ). take i (reverse (medians_of bs))) (omega arith)
      ∙ take-reverse (medians_of bs) k (omega arith)
      ∙ ap (λ (l : List ℕ). reverse l) (sym (medians-drop k bs))

  pub setting-is : (cutoff : ℕ) (medians : List ℕ) → cutoff ≡ get_or (reverse (medians_of bs)) (height - 1) 0 → medians ≡ take height (reverse (medians_of bs))
      → record { height = height; cutoff = cutoff; medians = medians; rules = at params height } ≡ setting_on params (drop k bs)
  setting-is cutoff medians c m =
      let d = Rattle.std.proofs.lemmas.List.length-drop k bs in
      setting_same params (drop k bs) height cutoff medians (omega arith) (c ∙ cutoff-is) (m ∙ medians-are)

-- ---- one block more

pub replay_more : (b : Block) (l : List Block) → 0 < length l → replay ledger (b ∷ l) ≡ effect (length l) (replay ledger l) b.txs
unfolding replay
replay_more b [] h = absurd (omega arith)
replay_more b (c ∷ l) h = refl

pub fault_more : (params : Params) (triples : Triples) (b : Block) (l : List Block) → 0 < length l
    → fault_over (regtest params triples) l b ≡ connect_fault (setting_on params l) (replay ledger l) b.txs triples
unfolding fault_over
fault_more params triples b [] h = absurd (omega arith)
fault_more params triples b (c ∷ l) h = refl

module _ (r : Rules Block Rattle.hash.specs.declared.id.Id.Id) where
  pub trial_more : (b : Block) (l : List Block) → trial_on r l ≡ Valid → trial_on r (b ∷ l) ≡ trial_after Valid (fault_over r l b)
  unfolding trial_on
  trial_more b l e = ap (λ t. trial_after t (fault_over r l b)) e

  -- a block above the first that fails is tried no more
  pub trial_stuck : (bs : List Block) (k : ℕ) (reason : Reason) → 0 < k → k ≤ length bs → trial_on r (drop k bs) ≡ Fails reason → trial_on r bs ≡ Below
  unfolding trial_on
  trial_stuck bs zero reason z h e = absurd (omega arith)
  trial_stuck [] (suc k) reason z h e = absurd (omega arith)
  trial_stuck (b ∷ older) (suc zero) reason z h e = ap (λ t. trial_after t (fault_over r older b)) e
  trial_stuck (b ∷ older) (suc (suc k)) reason z h e = ap (λ t. trial_after t (fault_over r older b)) (trial_stuck older (suc k) reason (omega arith) (omega arith) e)

  pub trial_one : (b : Block) → trial_on r (b ∷ []) ≡ Valid
  unfolding trial_on fault_over
  trial_one b = refl

-- ---- the trial of a block that is kept

tried-valid : (t : Trial) (f : Option Reason) → is_valid (trial_after t f) ≡ (is_none f && is_valid t)
tried-valid Valid None = refl
tried-valid Valid (Some reason) = refl
tried-valid (Fails x) None = refl
tried-valid (Fails x) (Some reason) = refl
tried-valid Below None = refl
tried-valid Below (Some reason) = refl

tried-first : (t : Trial) (f : Option Reason) → is_first (trial_after t f) ≡ (not (is_none f) && is_valid t)
tried-first Valid None = refl
tried-first Valid (Some reason) = refl
tried-first (Fails x) None = refl
tried-first (Fails x) (Some reason) = refl
tried-first Below None = refl
tried-first Below (Some reason) = refl

tried-reason : (t : Trial) (f : Option Reason) (reason : Reason) → trial_after t f ≡ Fails reason → f ≡ Some reason
tried-reason Valid None reason e = absurd (cc)
tried-reason Valid (Some x) reason e = cc
tried-reason (Fails x) None reason e = absurd (cc)
tried-reason (Fails x) (Some y) reason e = absurd (cc)
tried-reason Below None reason e = absurd (cc)
tried-reason Below (Some x) reason e = absurd (cc)

module _ (params : Params) (triples : Triples) (t : Blocks Block) where
  abbrev r : Rules Block Rattle.hash.specs.declared.id.Id.Id
  r = regtest params triples

  abbrev pub trial_at : ℕ → Trial
  trial_at p = trial_on (regtest params triples) (blocks_at names t (branch t p))

  pub trial-zero : trial_at 0 ≡ Valid
  unfolding trial_on fault_over
  trial-zero = ap (λ (l : List ℕ). trial_on (regtest params triples) (blocks_at names t l)) (branch-genesis t)

  module _ (p : ℕ) (z : 0 < p) (h : p ≤ length t) where
    trial-parent : trial_at p ≡ trial_after (trial_at (parent_at t p)) (fault (regtest params triples) t p)
    unfolding trial_on fault
    trial-parent =
        ap (λ (l : List ℕ). trial_on (regtest params triples) (blocks_at names t l)) (branch-parent t p z h)
        ∙ ap (λ (l : List ℕ). trial_after (trial_at (parent_at t p)) (fault_over (regtest params triples) (blocks_at names t l) (block_at names t p))) (sym (before-parent t p z h))

    valid-parent : branch_connects (regtest params triples) t p ≡ (is_none (fault (regtest params triples) t p) && branch_connects (regtest params triples) t (parent_at t p))
    unfolding branch_connects connects
    valid-parent = ap (λ (l : List ℕ). list_all (connects (regtest params triples) t) l) (branch-parent t p z h)

    first-parent : first_to_fail (regtest params triples) t p ≡ (not (is_none (fault (regtest params triples) t p)) && branch_connects (regtest params triples) t (parent_at t p))
    unfolding branch_connects first_to_fail connects
    first-parent = ap (λ (l : List ℕ). not (is_none (fault (regtest params triples) t p)) && list_all (connects (regtest params triples) t) l) (before-parent t p z h)

  valid-zero : (p : ℕ) → 0 ≡ p → is_valid (trial_at p) ≡ branch_connects (regtest params triples) t p
  valid-zero p e = ap (λ (q : ℕ). is_valid (trial_at q)) (sym e) ∙ ap is_valid trial-zero ∙ sym (Rattle.model.specs.laws.Actives.valid-genesis (regtest params triples) t) ∙ ap (branch_connects (regtest params triples) t) e

  valid-to : (n p : ℕ) → p ≤ n → p ≤ length t → is_valid (trial_at p) ≡ branch_connects (regtest params triples) t p
  valid-to zero p m h = valid-zero p (omega arith)
  valid-to (suc n) p m h =
      elim (cases_eq 0 p) [
        | inl e ↦ valid-zero p e
        | inr e ↦
            let b = parent-below t p (omega arith) h in
            ap is_valid (trial-parent p (omega arith) h) ∙ tried-valid (trial_at (parent_at t p)) (fault (regtest params triples) t p)
            ∙ ap (λ v. is_none (fault (regtest params triples) t p) && v) (valid-to n (parent_at t p) (omega arith) (omega arith))
            ∙ sym (valid-parent p (omega arith) h)
      ]

  pub trial-valid : (p : ℕ) → p ≤ length t → is_valid (trial_at p) ≡ branch_connects (regtest params triples) t p
  trial-valid p h = valid-to p p (omega arith) h

  fault-zero : fault (regtest params triples) t 0 ≡ None
  unfolding fault before fault_over
  fault-zero = let e : ◌≡◌ {A = List ℕ} (branch t 0) (0 ∷ []) = branch-genesis t in rw e refl

  pub first-zero : first_to_fail (regtest params triples) t 0 ≡ false
  unfolding first_to_fail connects
  first-zero = ap (λ (o : Option Reason). not (is_none o) && list_all (connects (regtest params triples) t) (before t 0)) fault-zero

  pub trial-first : (p : ℕ) → p ≤ length t → is_first (trial_at p) ≡ first_to_fail (regtest params triples) t p
  trial-first p h =
      elim (cases_eq 0 p) [
        | inl e ↦ subst (λ (q : ℕ). is_first (trial_at q) ≡ first_to_fail (regtest params triples) t q) e (ap is_first trial-zero ∙ sym first-zero)
        | inr e ↦
            let b = parent-below t p (omega arith) h in
            ap is_first (trial-parent p (omega arith) h) ∙ tried-first (trial_at (parent_at t p)) (fault (regtest params triples) t p)
            ∙ ap (λ v. not (is_none (fault (regtest params triples) t p)) && v) (trial-valid (parent_at t p) (omega arith))
            ∙ sym (first-parent p (omega arith) h)
      ]

  pub trial-reason : (p : ℕ) (reason : Reason) → p ≤ length t → trial_at p ≡ Fails reason → fault (regtest params triples) t p ≡ Some reason
  trial-reason p reason h e =
      elim (cases_eq 0 p) [
        | inl q ↦ absurd (no (sym trial-zero ∙ ap trial_at q ∙ e))
        | inr q ↦ tried-reason (trial_at (parent_at t p)) (fault (regtest params triples) t p) reason (sym (trial-parent p (omega arith) h) ∙ e)
      ]
    where
      no : Valid ≡ Fails reason → ⊥
      no e = cc

-- ---- the next block of a branch

module _ (params : Params) (triples : Triples) (bs : List Block) (h : ℕ) (some : 1 ≤ h) (low : h < length bs) (b : Block) (is : b ≡ get_or bs (length bs - 1 - h) b) where
  next : ◌≡◌ {A = List Block} (drop (length bs - (h + 1)) bs) (b ∷ drop (length bs - h) bs)
  next =
      let i : length bs - (h + 1) ≡ length bs - 1 - h = omega arith in
      let j : length bs - 1 - h + 1 ≡ length bs - h = omega arith in
      ap (λ (k : ℕ). drop k bs) i ∙ drop_more bs (length bs - 1 - h) b (omega arith)
      ∙ ap (λ (x : Block). x ∷ drop (length bs - 1 - h + 1) bs) (sym is) ∙ ap (λ (k : ℕ). b ∷ drop k bs) j

  rest_long : length (drop (length bs - h) bs) ≡ h
  rest_long = let d = Rattle.std.proofs.lemmas.List.length-drop (length bs - h) bs in omega arith

  pub next_replay : replay ledger (drop (length bs - (h + 1)) bs) ≡ effect h (replay ledger (drop (length bs - h) bs)) b.txs
  next_replay =
      let n = rest_long in
      ap (λ (l : List Block). replay ledger l) next ∙ replay_more b (drop (length bs - h) bs) (omega arith)
      ∙ ap (λ (k : ℕ). effect k (replay ledger (drop (length bs - h) bs)) b.txs) n

  module _ (cutoff : ℕ) (medians : List ℕ) (c : cutoff ≡ get_or (reverse (medians_of bs)) (h - 1) 0) (m : medians ≡ take h (reverse (medians_of bs))) (branch_connects : trial_on (regtest params triples) (drop (length bs - h) bs) ≡ Valid) where
    pub next_trial : trial_on (regtest params triples) (drop (length bs - (h + 1)) bs)
        ≡ trial_after Valid (connect_fault (record { height = h; cutoff = cutoff; medians = medians; rules = at params h }) (replay ledger (drop (length bs - h) bs)) b.txs triples)
    next_trial =
        let n = rest_long in
        ap (λ (l : List Block). trial_on (regtest params triples) l) next ∙ trial_more (regtest params triples) b (drop (length bs - h) bs) branch_connects
        ∙ ap (λ o. trial_after Valid o) (fault_more params triples b (drop (length bs - h) bs) (omega arith))
        ∙ ap (λ (s : Setting). trial_after Valid (connect_fault s (replay ledger (drop (length bs - h) bs)) b.txs triples)) (sym (setting-is params bs h (length bs - h) (omega arith) some cutoff medians c m))

  -- where it fails, the branch isn't valid
  pub ends : (reason : Reason) → trial_on (regtest params triples) (drop (length bs - (h + 1)) bs) ≡ Fails reason → false ≡ is_valid (trial_on (regtest params triples) bs)
  ends reason f =
      elim (cases_eq (h + 1) (length bs)) [
        | inl w ↦
            let z : length bs - (h + 1) ≡ 0 = omega arith in
            ap is_valid (sym f ∙ ap (λ (k : ℕ). trial_on (regtest params triples) (drop k bs)) z)
        | inr w ↦ ap is_valid (sym (trial_stuck (regtest params triples) bs (length bs - (h + 1)) reason (omega arith) (omega arith) f))
      ]

-- genesis alone
module _ (params : Params) (triples : Triples) (bs : List Block) (some : 1 ≤ length bs) (d : Block) where
  first : ◌≡◌ {A = List Block} (drop (length bs - 1) bs) (get_or bs (length bs - 1) d ∷ [])
  first =
      drop_more bs (length bs - 1) d (omega arith)
      ∙ ap (λ (l : List Block). get_or bs (length bs - 1) d ∷ l) (drop_all (length bs - 1 + 1) bs (omega arith))

  pub first_replay : replay ledger (drop (length bs - 1) bs) ≡ Rattle.std.specs.FinMap.empty
  unfolding replay
  first_replay = ap (λ (l : List Block). replay ledger l) first

  pub first_trial : trial_on (regtest params triples) (drop (length bs - 1) bs) ≡ Valid
  first_trial = ap (λ (l : List Block). trial_on (regtest params triples) l) first ∙ trial_one (regtest params triples) (get_or bs (length bs - 1) d)

-- ---- a block on a branch that was replayed

only_valid : (t : Trial) → is_valid t ≡ true → t ≡ Valid
only_valid Valid e = refl
only_valid (Fails reason) e = absurd (cc)
only_valid Below e = absurd (cc)

above_invalid : (t : Trial) (f : Option Reason) → is_valid t ≡ false → trial_after t f ≡ Below
above_invalid Valid f e = absurd (cc)
above_invalid (Fails reason) f e = refl
above_invalid Below f e = refl

module _ (params : Params) (triples : Triples) (b : Block) (bs : List Block) where
  pub above_below : is_valid (trial_on (regtest params triples) bs) ≡ false → Below ≡ trial_on (regtest params triples) (b ∷ bs)
  unfolding trial_on
  above_below e = sym (above_invalid (trial_on (regtest params triples) bs) (fault_over (regtest params triples) bs b) e)

  pub above_valid : 1 ≤ length bs → is_valid (trial_on (regtest params triples) bs) ≡ true → (cutoff : ℕ) (medians : List ℕ) → cutoff ≡ get_or (reverse (medians_of bs)) (length bs - 1) 0 → medians ≡ reverse (medians_of bs)
      → trial_after Valid (connect_fault (record { height = length bs; cutoff = cutoff; medians = medians; rules = at params (length bs) }) (replay ledger bs) b.txs triples) ≡ trial_on (regtest params triples) (b ∷ bs)
  above_valid some e cutoff medians c m =
      let n = length-reverse (medians_of bs) in
      let l = length-medians bs in
      ap (λ (s : Setting). trial_after Valid (connect_fault s (replay ledger bs) b.txs triples)) (setting-is params bs (length bs) 0 (omega arith) some cutoff medians c (m ∙ sym (take_all (length bs) (reverse (medians_of bs)) (omega arith))))
      ∙ ap (λ o. trial_after Valid o) (sym (fault_more params triples b bs (omega arith)))
      ∙ sym (trial_more (regtest params triples) b bs (only_valid (trial_on (regtest params triples) bs) e))
