-- What a block wants where it is connected is wanted by the step that tries it.
use Rattle.std.specs.Prelude.{All, IfSome, MatchOption}
use Rattle.std.proofs.Common.{◌≡◌, ℕ, suc, ◌<◌, ◌≤◌, true, false, List, [], ◌∷◌, ◌++◌, length, Option, Some, None, Result, Ok, Err, IfErr, refl, sym, ap, ◌∙◌, subst, arith}
use Rattle.std.specs.List.{flat_map}
use Rattle.std.proofs.lemmas.List.{append-nil, length-append}
use Rattle.std.proofs.lemmas.List.Concat.{flat_map-append}
use Rattle.std.proofs.lemmas.List.Elements.{All-cons, All-nil, All-push, All-weaker}
use Rattle.std.proofs.lemmas.Bool.{false_from_ne_true}
use Rattle.block.specs.declared.block.Block.{Block}
use Rattle.signatures.specs.Known.{Known, Under}
use Rattle.signatures.specs.Triple.{Triple}
use Rattle.queue.specs.FirstAnswer.{AreOfBoth}
use Rattle.txn.specs.Tx.{Tx}
use Rattle.coins.specs.Coins.{Coins}
use Rattle.hash.specs.declared.id.Id.{Id}
use Rattle.rules.specs.declared.params.Params.{Params}
use Rattle.connect.specs.Scripts.{AreWantedByBlock}
use Rattle.connect.specs.BlockContext.{Setting}
use Rattle.connect.specs.laws.Stops.{wanted_weaker}
use Rattle.tree.specs.Branches.{Blocks, Kept, block_at, on, parent_at}
use Rattle.tree.specs.Names.{names}
use Rattle.tree.specs.Sound.{IsBest}
use Rattle.tree.specs.State.{State, has_no_mark, with_block}
use Rattle.tree.specs.laws.Above.{IsShared}
use Rattle.tree.specs.laws.AddedBlock.{block_here, blocks-old}
use Rattle.tree.specs.laws.Branches.{on-bounds, parent_here}
use Rattle.model.specs.Regtest.{ledger, regtest, setting_on}
use Rattle.model.specs.Replay.{replay}
use Rattle.model.specs.Settle.{on_candidate}
use Rattle.model.specs.Step.{Request}
use Rattle.model.specs.laws.Candidates.{on_candidate_from}
use Rattle.model.specs.laws.Tries.{best-candidate}
use Rattle.activate.specs.CoreState.{CoreState, branch_blocks, coins_after}
use Rattle.activate.specs.Wants.{IsToSettle, AreJoined, AreWantedAt, AreWantedBy, AreWantedByTried, AreWantedToSettle}
use Rattle.activate.specs.inside.Ascents.{AreMore, AreWantedAbove}
use Rattle.activate.specs.inside.Paths.{AreWantedOnWay}
use Rattle.activate.specs.inside.Preparation.{CanTry, HasOtherMarks, TriesLead}

-- ---- several blocks

-- what is joined of these is joined of those
joined_weaker : (P Q : List Triple → Type 0) → ((list : List Triple) → P list → Q list) → (list : List Triple) → AreJoined P list → AreJoined Q list
joined_weaker P Q f list w = record { parts = w.parts; some = w.some; each = All-weaker P Q f w.parts w.each; list_is = w.list_is }

pub wanted_all-weaker : (P Q : List Triple → Type 0) → ((list : List Triple) → P list → Q list) → (told : Option (List Triple)) → IfSome told (AreJoined P) → IfSome told (AreJoined Q)
wanted_all-weaker P Q f told are = wanted_weaker (AreJoined P) (AreJoined Q) (joined_weaker P Q f) told are

module _ (P : List Triple → Type 0) where
  -- one block alone
  joined_one : (list : List Triple) → P list → AreJoined P list
  joined_one list w = record { parts = list ∷ []; some = omega arith; each = All-cons P list [] w (All-nil P); list_is = sym (append-nil list) }

  -- a block more
  joined_more : (first next : List Triple) → AreJoined P first → P next → AreJoined P (first ++ next)
  joined_more first next w n = record {
    parts = w.parts ++ next ∷ [];
    some = let some = w.some in let long = length-append w.parts (next ∷ []) in omega (arith, some, long);
    each = All-push P w.parts next w.each n;
    list_is =
        ap (λ (l : List Triple). l ++ next) w.list_is
        ∙ ap (λ (l : List Triple). flat_map (λ part. part) w.parts ++ l) (sym (append-nil next))
        ∙ sym (flat_map-append (λ part. part) w.parts (next ∷ []));
  }

  joined_both : (first next found : Option (List Triple)) → IfSome first (AreJoined P) → IfSome next P → IfSome found (AreOfBoth first next) → IfSome found (AreJoined P)
  joined_both first next None f n both = tt
  joined_both None next (Some list) f n both = absurd both
  joined_both (Some first) None (Some list) f n both = absurd both
  joined_both (Some first) (Some next) (Some list) f n both = subst (AreJoined P) (sym both) (joined_more first next f n)

  module _ {Stop : Type 0} (told : Stop → Option (List Triple)) where
    -- what is wanted so far, with what the next block wants
    pub wanted_more : (so_far next found : Option Stop) → AreMore told so_far next found → IfSome so_far (λ stop. IfSome (told stop) (AreJoined P)) → IfSome next (λ stop. IfSome (told stop) P)
        → IfSome found (λ stop. IfSome (told stop) (AreJoined P))
    wanted_more None None found e f n = subst (λ o. IfSome o (λ stop. IfSome (told stop) (AreJoined P))) (sym e) tt
    wanted_more (Some first) None found e f n = subst (λ o. IfSome o (λ stop. IfSome (told stop) (AreJoined P))) (sym e) f
    wanted_more None (Some next) found e f n = subst (λ o. IfSome o (λ stop. IfSome (told stop) (AreJoined P))) (sym e) (wanted_weaker P (AreJoined P) joined_one (told next) n)
    wanted_more (Some first) (Some next) found e f n =
        subst (λ o. IfSome o (λ stop. IfSome (told stop) (AreJoined P))) (sym e.1) (joined_both (told first) (told next) (told e.0) f n e.2)

    -- nothing is wanted
    pub wanted_none : (so_far next : Option Stop) → AreMore told so_far next None → (so_far ≡ None) × (next ≡ None)
    wanted_none None None e = (refl, refl)
    wanted_none (Some first) None e = cc
    wanted_none None (Some next) e = cc
    wanted_none (Some first) (Some next) e = let none = e.1 in cc

-- ---- nothing is wanted, or something

pub where_none : {Stop : Type 0} (A : Type 0) (P : Stop → Type 0) (wants : Option Stop) → wants ≡ None → MatchOption wants A P → A
where_none A P None e h = h
where_none A P (Some stop) e h = cc

pub where_some : {Stop : Type 0} (A : Type 0) (P : Stop → Type 0) (wants : Option Stop) → MatchOption wants A P → IfSome wants P
where_some A P None h = tt
where_some A P (Some stop) h = h

pub each_weaker : {Stop : Type 0} (P Q : Stop → Type 0) → ((stop : Stop) → P stop → Q stop) → (wants : Option Stop) → IfSome wants P → IfSome wants Q
each_weaker P Q f None are = tt
each_weaker P Q f (Some stop) are = f stop are

pub either_way : {Stop : Type 0} {A B : Type 0} {P Q : Stop → Type 0} (wants : Option Stop) → (A → B) → ((stop : Stop) → P stop → Q stop) → MatchOption wants A P → MatchOption wants B Q
either_way None f h are = f are
either_way (Some stop) f h are = h stop are

-- ---- one block

-- the best usable block is a candidate, so are those of its branch on one's
on-best : (c : CoreState) (known : Known) (p : ℕ) → Under known (λ triples. CanTry (regtest c.params triples) c) → IsBest c.state (has_no_mark c.state) (length c.state.blocks) p
    → (x : ℕ) → on c.state.blocks p x ≡ true → Under known (λ triples. on_candidate (regtest c.params triples) c.state x ≡ true)
on-best c known p can best x there triples agrees =
    let r = regtest c.params triples in
    on_candidate_from r c.state p x best.kept (best-candidate r c.state p (can triples agrees).genesis best) there

module _ (params : Params) (known : Known) where
  -- over the coins of its parent's branch
  at-place : (t : Blocks Block) (p : ℕ) (s : Setting) (m : Coins) (txs : List Tx) → s ≡ setting_on params (branch_blocks t (parent_at t p)) → m ≡ coins_after t (parent_at t p) → txs ≡ (block_at names t p).txs
      → (list : List Triple) → AreWantedByBlock s m txs known list → AreWantedAt params t known p list
  at-place t p s m txs place coins is list w =
      subst (λ (q : Setting). AreWantedByBlock q (coins_after t (parent_at t p)) (block_at names t p).txs known list) place
      (subst (λ (n : Coins). AreWantedByBlock s n (block_at names t p).txs known list) coins
      (subst (λ (l : List Tx). AreWantedByBlock s m l known list) is w))

  pub wanted_at : (t : Blocks Block) (p : ℕ) (s : Setting) (m : Coins) (txs : List Tx) → s ≡ setting_on params (branch_blocks t (parent_at t p)) → m ≡ coins_after t (parent_at t p) → txs ≡ (block_at names t p).txs
      → (told : Option (List Triple)) → IfSome told (AreWantedByBlock s m txs known) → IfSome told (AreWantedAt params t known p)
  wanted_at t p s m txs place coins is told are = wanted_weaker (AreWantedByBlock s m txs known) (AreWantedAt params t known p) (at-place t p s m txs place coins is) told are

  pub wanted_above : (t : Blocks Block) (f p x : ℕ) → f < x → on t p x ≡ true → (told : Option (List Triple)) → IfSome told (AreWantedAt params t known x) → IfSome told (AreWantedAbove params t f p known)
  wanted_above t f p x above there told are = wanted_weaker (AreWantedAt params t known x) (AreWantedAbove params t f p known) (λ list w. record { place = x; above = above; there = there; wanted = w }) told are

  -- above the last block that both branches share
  pub wanted_on-way : (t : Blocks Block) (a p f q : ℕ) → q ≡ p → IsShared t a p f → (told : Option (List Triple)) → IfSome told (AreJoined (AreWantedAbove params t f q known)) → IfSome told (AreJoined (AreWantedOnWay params t a p known))
  wanted_on-way t a p f q same shared told are =
      wanted_all-weaker (AreWantedAbove params t f q known) (AreWantedOnWay params t a p known) (λ list w.
      let x = w.place in
      let above = w.above in
      let there = subst (λ (y : ℕ). on t y x ≡ true) same w.there in
      record {
        place = x;
        there = there;
        apart = false_from_ne_true (on t a x) (λ here. let low = (on-bounds t f x (shared.last x here there)).0 in absurd (omega (arith, low, above)));
        wanted = w.wanted;
      }) told are

  -- a new block on p
  pub wanted_new : (s : State Block) (b : Block) (p : ℕ) → p ≤ length s.blocks → (place : Setting) (m : Coins) → place ≡ setting_on params (branch_blocks s.blocks p) → m ≡ coins_after s.blocks p
      → (told : Option (List Triple)) → IfSome told (AreWantedByBlock place m b.txs known) → IfSome told (AreWantedAt params (with_block s b p).blocks known (suc (length s.blocks)))
  wanted_new s b p h place m e f told are =
      let k : Kept Block = record { block = b; parent = p } in
      let t = (with_block s b p).blocks in
      let n = suc (length s.blocks) in
      let below : ◌≡◌ {A = List Block} (branch_blocks t (parent_at t n)) (branch_blocks s.blocks p) = ap (branch_blocks t) (parent_here k s.blocks h) ∙ blocks-old names k s.blocks p h in
      wanted_at t n place m b.txs (e ∙ ap (setting_on params) (sym below)) (f ∙ ap (replay ledger) (sym below)) (ap (λ (x : Block). x.txs) (sym (block_here names k s.blocks))) told are

-- the best usable block is tried
pub wanted_best : (c : CoreState) (known : Known) (p : ℕ) → Under known (λ triples. CanTry (regtest c.params triples) c) → IsBest c.state (has_no_mark c.state) (length c.state.blocks) p
    → (told : Option (List Triple)) → IfSome told (AreJoined (AreWantedOnWay c.params c.state.blocks c.active p known)) → IfSome told (AreWantedToSettle c known)
wanted_best c known p can best told are =
    wanted_all-weaker (AreWantedOnWay c.params c.state.blocks c.active p known) (AreWantedByTried c known) (λ list w. record {
      place = w.place;
      kept = (on-bounds c.state.blocks p w.place w.there).1;
      candidate = on-best c known p can best w.place w.there;
      inactive = w.apart;
      wanted = w.wanted;
    }) told are

-- what is wanted after tries was wanted before
pub wanted_before : (c : CoreState) (s t : State Block) (known : Known) → HasOtherMarks s t → Under known (λ triples. TriesLead (regtest c.params triples) c s t)
    → (told : Option (List Triple)) → IfSome told (AreWantedToSettle (record c { state = t }) known) → IfSome told (AreWantedToSettle (record c { state = s }) known)
wanted_before c s t known other lead told are =
    wanted_all-weaker (AreWantedByTried (record c { state = t }) known) (AreWantedByTried (record c { state = s }) known) (λ list w. record {
      place = w.place;
      kept = subst (λ (u : Blocks Block). w.place ≤ length u) other.blocks_are w.kept;
      candidate = λ triples agrees. (lead triples agrees).candidates w.place (w.candidate triples agrees);
      inactive = subst (λ (u : Blocks Block). on u c.active w.place ≡ false) other.blocks_are w.inactive;
      wanted = subst (λ (u : Blocks Block). AreWantedAt c.params u known w.place list) other.blocks_are w.wanted;
    }) told are

pub wanted_by : (c : CoreState) (request : Request Block Id) (known : Known) (s : State Block) → IsToSettle c known request s → (told : Option (List Triple))
    → IfSome told (AreWantedToSettle (record c { state = s }) known) → IfSome told (AreWantedBy c request known)
wanted_by c request known s changed told are =
    wanted_weaker (AreWantedToSettle (record c { state = s }) known) (AreWantedBy c request known) (λ list w. record { state = s; to_settle = changed; wanted = w }) told are

pub if_err : {T E : Type 0} {P Q : E → Type 0} (r : Result T E) → ((e : E) → P e → Q e) → IfErr r P → IfErr r Q
if_err (Ok x) f h = tt
if_err (Err e) f h = f e h

-- what is wanted in a state that a request has made of another
pub wanted_from : {T E : Type 0} (c m : CoreState) (request : Request Block Id) (known : Known) (s : State Block) → m ≡ record c { state = s } → IsToSettle c known request s → (r : Result T E) (told : E → Option (List Triple))
    → IfErr r (λ e. IfSome (told e) (AreWantedToSettle m known)) → IfErr r (λ e. IfSome (told e) (AreWantedBy c request known))
wanted_from c m request known s made changed r told h =
    if_err r (λ e are. wanted_by c request known s changed (told e) (subst (λ (x : CoreState). IfSome (told e) (AreWantedToSettle x known)) made are)) h
