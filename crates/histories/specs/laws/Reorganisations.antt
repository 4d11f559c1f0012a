-- A coin stays the same one on any branch that has its block, until it is spent; what another branch takes back.
use Rattle.std.proofs.Common.{◌≡◌, ℕ, zero, suc, leb, ltb, ◌+◌, ◌-◌, ◌<◌, ◌≤◌, ◌||◌, Bool, true, false, cond, List, [], ◌∷◌, ◌++◌, length, map, Option, Some, None, refl, sym, ap, subst, ◌∙◌, inl, inr, ◌⊎◌, arith, length-append, append_assoc}
use Rattle.std.specs.Prelude.{drop, int_lt, is_some, option_map, pos, ◌+ℤ◌}
use Rattle.std.specs.Option.{option_or}
use Rattle.std.specs.List.{flat_map, list_any, range_with_len}
use Rattle.std.specs.FinMap as coin_map
use Rattle.std.proofs.lemmas.Bool.{cases_eq, true≢false}
use Rattle.hash.specs.declared.id.Id.{Id}
use Rattle.txn.specs.declared.outpoint.OutPoint.{OutPoint}
use Rattle.txn.specs.declared.output.TxOut.{TxOut}
use Rattle.txn.specs.declared.reason.Reason.{Reason}
use Rattle.txn.specs.declared.reason.Reason.TheVariants.{CoinbaseAmount, OverwritesCoin}
use Rattle.txn.specs.Tx.{Tx}
use Rattle.txn.specs.Check.{is_coinbase}
use Rattle.txn.specs.First.{first_broken}
use Rattle.txn.specs.Identity.{id_of}
use Rattle.block.specs.BlockOfBytes.{block_of_bytes}
use Rattle.block.specs.Reward.{subsidy_of}
use Rattle.block.specs.declared.block.Block.{Block}
use Rattle.signatures.specs.Triple.{Triples}
use Rattle.script.specs.Kinds.{is_unspendable}
use Rattle.coins.specs.declared.coin.Coin.{Coin}
use Rattle.coins.specs.Coins.{Coins, same}
use Rattle.coins.specs.laws.Lookups.{entry_for, same-true}
use Rattle.undo.specs.Effect.{after, coin_of, makes, outpoint_at, spendable, spends}
use Rattle.rules.specs.declared.params.Params.{Params}
use Rattle.connect.specs.BlockContext.{Setting}
use Rattle.connect.specs.Faults.{connect_rules, fees, has_coin, overwrites, reward_of, turn_rules}
use Rattle.connect.specs.Scripts.{script_checks}
use Rattle.connect.specs.Turns.{effect, turns}
use Rattle.connect.specs.computed.Scripts.{connect_fault, first_refused}
use Rattle.connect.specs.laws.Broken.{head_clear}
use Rattle.connect.specs.laws.Turns.{effect_none, effect_next}
use Rattle.tree.specs.Branches.{Kept, Blocks, block_at, blocks_at, branch, height, on, parent_at, place_of}
use Rattle.tree.specs.State.{State, opening, without_marks, with_call, with_mark}
use Rattle.tree.specs.Limits.{max_blocks}
use Rattle.tree.specs.laws.AddedBlock.{blocks-old}
use Rattle.tree.specs.laws.Branches.{height_there, on-bounds, on-itself, on_chain, on_there, on_trans}
use Rattle.tree.specs.laws.Parents.{climb, height-parent, on-parent, parent-kept}
use Rattle.model.specs.declared.command.Command.{Command}
use Rattle.model.specs.declared.command.Command.TheVariants as command
use Rattle.model.specs.declared.entry.Entry.{Entry}
use Rattle.model.specs.declared.reply.MarkReply.TheVariants.{Done}
use Rattle.model.specs.declared.reply.SubmitReply.TheVariants.{TreeFull}
use Rattle.model.specs.Chainstate.{chainstate, coin_read, confirmations}
use Rattle.model.specs.Commands.{command_step, submit_step}
use Rattle.model.specs.Context.{first_fault}
use Rattle.model.specs.History.{state_after_entries, state_left}
use Rattle.model.specs.Regtest.{ledger, regtest, setting_on}
use Rattle.model.specs.Replay.{coins, coins_at, replay}
use Rattle.model.specs.Rules.{Rules}
use Rattle.model.specs.Settle.{active, settle}
use Rattle.model.specs.Step.{mark_says, outcome_of_invalidate, outcome_of_precious, outcome_of_reconsider, step}
use Rattle.model.specs.Submission.{kept_blocks, outcome_by_fault, outcome_of_submission, submit_says}
use Rattle.model.specs.Valid.{branch_connects}
use Rattle.model.specs.laws.Actives.{active_kept, active_valid}
use Rattle.model.specs.laws.Candidates.{valid_below, valid_gives}
use Rattle.model.specs.laws.Coins.{connects-parent, step-up}
use Rattle.model.specs.laws.Steps.{opening_sound}
use Rattle.histories.specs.Confirmations.{IsBelowBest, IsUnspentAbove, is_spent_in}
use Rattle.histories.specs.laws.Coins.{Holds, after_holds}
use Rattle.histories.specs.laws.Confirmations.{got, no_higher, since}

-- ---- blocks only come

abbrev Grows : Blocks Block → Blocks Block → Type 0
Grows old new = (added : List (Kept Block)) × (new ≡ added ++ old)

stays : (t : Blocks Block) → Grows t t
stays t = ([], refl)

module _ (r : Rules Block Id) (s : State Block) where
  by_fault : (b : Block) (o : Option Reason) → Grows s.blocks (outcome_by_fault r s b o).0.blocks
  unfolding outcome_by_fault settle
  by_fault b (Some reason) = stays s.blocks
  by_fault b None = (_ ∷ [], refl)

  submitted : (now : ℕ) (b : Block) (o : Option ℕ) → Grows s.blocks (outcome_of_submission r s now b o).0.blocks
  unfolding outcome_of_submission
  submitted now b (Some p) = stays s.blocks
  submitted now b None =
      elim (leb max_blocks (kept_blocks s)) as (λ (v : Bool). Grows s.blocks (cond v (submit_says s TreeFull) (outcome_by_fault r s b (first_fault r s now b))).0.blocks) [
        | true ↦ stays s.blocks
        | false ↦ by_fault b (first_fault r s now b)
      ]

  invalidated : (o : Option ℕ) → Grows s.blocks (outcome_of_invalidate r s o).0.blocks
  unfolding outcome_of_invalidate settle
  invalidated None = stays s.blocks
  invalidated (Some zero) = stays s.blocks
  invalidated (Some (suc p)) = stays s.blocks

  reconsidered : (o : Option ℕ) → Grows s.blocks (outcome_of_reconsider r s o).0.blocks
  unfolding outcome_of_reconsider without_marks settle
  reconsidered None = stays s.blocks
  reconsidered (Some p) = stays s.blocks

  preferred : (o : Option ℕ) → Grows s.blocks (outcome_of_precious r s o).0.blocks
  unfolding outcome_of_precious settle
  preferred None = stays s.blocks
  preferred (Some p) =
      elim (ltb (height s.blocks p) (height s.blocks (active r s))) as (λ (v : Bool). Grows s.blocks (cond v (mark_says s Done) (mark_says (settle r (with_call s p)) Done)).0.blocks) [
        | true ↦ stays s.blocks
        | false ↦ stays s.blocks
      ]

  left_grows : (c : Command) → Grows s.blocks (state_left s (command_step r s c)).blocks
  unfolding command_step
  left_grows (command.Submit bytes now) = of (block_of_bytes bytes)
    where
      of : (o : Option Block) → Grows s.blocks (state_left s (submit_step r s now o)).blocks
      of None = unfold submit_step in stays s.blocks
      of (Some b) = unfold submit_step step in submitted now b (place_of r.names s.blocks (r.names.id_of b))
  left_grows (command.Invalidate id) = unfold step in invalidated (place_of r.names s.blocks id)
  left_grows (command.Reconsider id) = unfold step in reconsidered (place_of r.names s.blocks id)
  left_grows (command.Precious id) = unfold step in preferred (place_of r.names s.blocks id)
  left_grows (command.Learn triple valid) = stays s.blocks

grows_on : (a b c : Blocks Block) → Grows a b → Grows b c → Grows a c
grows_on a b c g h = (h.0 ++ g.0, h.1 ∙ ap (λ (t : Blocks Block). h.0 ++ t) g.1 ∙ sym (append_assoc h.0 g.0 a))

-- ---- what came before stays as it was

module _ (old : Blocks Block) where
  longer : (added : List (Kept Block)) → length old ≤ length (added ++ old)
  longer added = omega (arith, length-append added old)

  height_kept : (added : List (Kept Block)) (p : ℕ) → p ≤ length old → height (added ++ old) p ≡ height old p
  height_kept [] p h = refl
  height_kept (k ∷ added) p h = let l = longer added in height_there k (added ++ old) p (omega (arith, l, h)) ∙ height_kept added p h

  on_kept : (added : List (Kept Block)) (c x : ℕ) → c ≤ length old → on (added ++ old) c x ≡ on old c x
  on_kept [] c x h = refl
  on_kept (k ∷ added) c x h = let l = longer added in on_there k (added ++ old) c x (λ e. absurd (omega (arith, l, h, e))) ∙ on_kept added c x h

  coins_kept : (r : Rules Block Id) (added : List (Kept Block)) (p : ℕ) → p ≤ length old → coins_at r ledger (added ++ old) p ≡ coins_at r ledger old p
  coins_kept r [] p h = refl
  coins_kept r (k ∷ added) p h = let l = longer added in ap (replay ledger) (blocks-old r.names k (added ++ old) p (omega (arith, l, h))) ∙ coins_kept r added p h

-- ---- a block that connects makes no coin that is there (BIP 30)

neither : (a b : Bool) → (a || b) ≡ false → (a ≡ false) × (b ≡ false)
neither true b h = absurd (cc h)
neither false b h = (refl, h)

module _ (m : Coins) (q : OutPoint) (c : Coin) (there : coin_map.get m q ≡ Some c) where
  differs : (p : OutPoint) → has_coin m p ≡ false → same q p ≡ false
  differs p h = by (same q p) refl
    where
      by : (b : Bool) → same q p ≡ b → b ≡ false
      by true e = absurd (true≢false (sym (ap (λ (o : Option Coin). is_some o) there) ∙ ap (has_coin m) (same-true q p e) ∙ h))
      by false e = refl

  none_made : (tall : ℕ) (coinbase : Bool) (id : Id) (k : ℕ) (outputs : List TxOut)
      → list_any (has_coin m) (map (outpoint_at id) (range_with_len k (length outputs))) ≡ false
      → entry_for (map (λ o. (o.0, coin_of tall coinbase o.1)) (spendable id k outputs)) q ≡ None
  none_made tall coinbase id k [] h = refl
  none_made tall coinbase id k (o ∷ outputs) h =
      let parts = neither (has_coin m (outpoint_at id k)) (list_any (has_coin m) (map (outpoint_at id) (range_with_len (k + 1) (length outputs)))) h in
      at (is_unspendable o.script) (none_made tall coinbase id (k + 1) outputs parts.1) (differs (outpoint_at id k) parts.0)
    where
      at : (never : Bool) → entry_for (map (λ x. (x.0, coin_of tall coinbase x.1)) (spendable id (k + 1) outputs)) q ≡ None → same q (outpoint_at id k) ≡ false
          → entry_for (map (λ x. (x.0, coin_of tall coinbase x.1)) (cond never [] ((outpoint_at id k, o) ∷ []) ++ spendable id (k + 1) outputs)) q ≡ None
      at true e d = e
      at false e d = ap (λ (b : Bool). cond b (Some (coin_of tall coinbase o)) (entry_for (map (λ x. (x.0, coin_of tall coinbase x.1)) (spendable id (k + 1) outputs)) q)) d ∙ e

  keeps : (tall : ℕ) (n : Coins) (txs : List Tx) → coin_map.get n q ≡ Some c → list_any (overwrites m) txs ≡ false → is_spent_in txs q ≡ false
      → coin_map.get (effect tall n txs) q ≡ Some c
  keeps tall n [] e o f = subst (λ (x : Coins). coin_map.get x q ≡ Some c) (sym (effect_none tall n)) e
  keeps tall n (tx ∷ txs) e o f =
      let os = neither (overwrites m tx) (list_any (overwrites m) txs) o in
      let fs = neither (list_any (same q) (spends tx)) (is_spent_in txs q) f in
      let made : entry_for (makes tx (id_of tx) tall) q ≡ None = none_made tall (is_coinbase tx) (id_of tx) 0 tx.outputs (unfold overwrites in os.0) in
      let one : coin_map.get (after n tx (id_of tx) tall) q ≡ Some c =
      got n tx (id_of tx) tall q
      ∙ ap (λ (x : Option Coin). option_or x (cond (list_any (same q) (spends tx)) None (coin_map.get n q))) made
      ∙ ap (λ (b : Bool). cond b None (coin_map.get n q)) fs.0 ∙ e in
      subst (λ (x : Coins). coin_map.get x q ≡ Some c) (sym (effect_next tall n tx txs)) (keeps tall (after n tx (id_of tx) tall) txs one os.1 fs.1)

no_fault : (a b : Option Reason) → option_or a b ≡ None → a ≡ None
no_fault (Some reason) b e = absurd (cc e)
no_fault None b e = refl

fresh : (s : Setting) (m : Coins) (txs : List Tx) (valid : Triples) → connect_fault s m txs valid ≡ None → list_any (overwrites m) txs ≡ false
unfolding connect_fault connect_rules
fresh s m txs valid e =
    head_clear (list_any (overwrites m) txs) OverwritesCoin
    (flat_map (turn_rules s) (turns s.height m 0 txs) ++ (int_lt (pos (subsidy_of s.height) +ℤ fees (drop 1 (turns s.height m 0 txs))) (reward_of txs), CoinbaseAmount) ∷ [])
    (no_fault (first_broken (connect_rules s m txs)) (first_refused valid (script_checks s m txs)) e)

-- ---- along a branch

module _ (params : Params) (valid : Triples) (t : Blocks Block) (q : OutPoint) where
  abbrev r : Rules Block Id
  r = regtest params valid

  abbrev at : ℕ → Coins
  at p = coins_at r ledger t p

  same_until : (x : ℕ) (c : Coin) → coin_map.get (at x) q ≡ Some c → (p : ℕ) → p ≤ length t → on t p x ≡ true → branch_connects r t p ≡ true
      → ((y : ℕ) → on t p y ≡ true → height t x < height t y → is_spent_in (block_at r.names t y).txs q ≡ false) → coin_map.get (at p) q ≡ Some c
  same_until x c there p h o v free =
      climb t x
      (λ y. branch_connects r t y ≡ true → ((w : ℕ) → on t y w ≡ true → height t x < height t w → is_spent_in (block_at r.names t w).txs q ≡ false) → coin_map.get (at y) q ≡ Some c)
      (λ v f. there)
      (λ y z k up below v f.
      let parent = parent_at t y in
      let on_parent = on-parent t y (omega arith) k in
      let higher = no_higher params valid t q x parent (parent-kept t y (omega arith) k) up in
      let tall = height-parent t y (omega arith) k in
      let old = below (valid_below r t y parent v on_parent) (λ w ow hw. f w (on_trans t y parent w on_parent ow) hw) in
      let none = connects-parent r ledger t y (omega arith) k (valid_gives r t y y v (on-itself t y k)) in
      subst (λ (n : Coins). coin_map.get n q ≡ Some c) (sym (step-up r ledger t y (omega arith) k))
      (keeps (at parent) q c old (height t y) (at parent) (block_at r.names t y).txs old
      (fresh (setting_on params (blocks_at r.names t (branch t parent))) (at parent) (block_at r.names t y).txs valid none)
      (f y (on-itself t y k) (omega arith))))
      p h o v free

  -- an ancestor is lower
  lower : (x p : ℕ) → p ≤ length t → on t p x ≡ true → x < p → height t x < height t p
  lower x p h o =
      climb t x (λ y. x < y → height t x < height t y) (λ l. absurd (omega arith))
      (λ y z k up below l.
      let higher = no_higher params valid t q x (parent_at t y) (parent-kept t y (omega arith) k) up in
      let tall = height-parent t y (omega arith) k in
      omega arith)
      p h o

-- ---- two states of one history

abbrev coin_part : Coin → Option (Coin × ℕ) → Coin
coin_part c None = c
coin_part c (Some x) = x.0

abbrev count_part : Option (Coin × ℕ) → ℕ
count_part None = 0
count_part (Some x) = x.1

read_gives : (o : Option Coin) (f : Coin → ℕ) (c : Coin) (n : ℕ) → option_map {U = Coin × ℕ} (λ x. (x, f x)) o ≡ Some (c, n) → (o ≡ Some c) × (n ≡ f c)
read_gives None f c n e = absurd (cc e)
read_gives (Some x) f c n e =
    let is : x ≡ c = ap (coin_part c) e in
    let count : f x ≡ n = ap count_part e in
    (ap (λ (y : Coin). Some y) is, sym count ∙ ap f is)

module _ (params : Params) (valid : Triples) (es later : List Entry) (q : OutPoint) (n made : ℕ) where
  abbrev chain_rules : Rules Block Id
  chain_rules = regtest params valid

  abbrev s : State Block
  s = state_after_entries (chainstate params valid) opening es

  abbrev t : State Block
  t = state_after_entries (chainstate params valid) s later

  grows_after : (u : State Block) (xs : List Entry) → Grows u.blocks (state_after_entries (chainstate params valid) u xs).blocks
  grows_after u [] = stays u.blocks
  grows_after u (e ∷ xs) = grows_on _ _ _ (left_grows chain_rules u e.command) (grows_after (state_left u (command_step chain_rules u e.command)) xs)

  abbrev a : ℕ
  a = active chain_rules s

  abbrev b : ℕ
  b = active chain_rules t

  holds : Holds chain_rules s
  holds = after_holds params valid opening es (opening_sound chain_rules, tt)

  holds_later : Holds chain_rules t
  holds_later = after_holds params valid s later holds

  grown : Grows s.blocks t.blocks
  grown = grows_after s later

  module _ (below : IsBelowBest chain_rules s n made) where
    kept_a : a ≤ length s.blocks
    kept_a = active_kept chain_rules s holds.0.genesis

    within : made ≤ length s.blocks
    within = (on-bounds s.blocks a made below.0).1

    pub coin_same : (c : Coin) → coin_read chain_rules s q ≡ Some (c, n) → on t.blocks b made ≡ true → IsUnspentAbove t.blocks b made q
        → coin_read chain_rules t q ≡ Some (c, confirmations chain_rules t c.height)
    coin_same c read o free =
        let found = read_gives (coin_map.get (coins chain_rules ledger s) q) (λ x. confirmations chain_rules s x.height) c n read in
        let higher = no_higher params valid s.blocks q made a kept_a below.0 in
        let is = found.1 in
        let deep = below.1 in
        let age : c.height ≡ height s.blocks made = omega (arith, is, deep, higher) in
        let then_there = since params valid s.blocks q made c age a kept_a below.0 found.0 in
        let now_there : coin_map.get (coins_at chain_rules ledger t.blocks made) q ≡ Some c =
        ap (λ (x : Blocks Block). coin_map.get (coins_at chain_rules ledger x made) q) grown.1
        ∙ ap (λ (m : Coins). coin_map.get m q) (coins_kept s.blocks chain_rules grown.0 made within) ∙ then_there in
        ap (λ (x : Option Coin). option_map {U = Coin × ℕ} (λ y. (y, confirmations chain_rules t y.height)) x)
        (same_until params valid t.blocks q made c now_there b (active_kept chain_rules t holds_later.0.genesis) o (active_valid chain_rules t holds_later.0.genesis) free)

    pub taken_back : on t.blocks b made ≡ false → (x : ℕ) → on s.blocks a x ≡ true → on t.blocks b x ≡ true → height s.blocks x + n ≤ height s.blocks a
    taken_back gone x os ot =
        let deep = below.1 in
        elim (on_chain s.blocks a x made os below.0) [
          | inl above ↦
              let inside = (on-bounds s.blocks a x os).1 in
              let still : on t.blocks x made ≡ true = ap (λ (y : Blocks Block). on y x made) grown.1 ∙ on_kept s.blocks grown.0 x made inside ∙ above in
              absurd (true≢false (sym (on_trans t.blocks b x made ot still) ∙ gone))
          | inr under ↦
              elim (cases_eq x made) [
                | inl e ↦ absurd (true≢false (sym (subst (λ (y : ℕ). on t.blocks b y ≡ true) e ot) ∙ gone))
                | inr ne ↦
                    let most = (on-bounds s.blocks made x under).0 in
                    let l = lower params valid s.blocks q x made within under (omega (arith, most, ne)) in
                    omega (arith, l, deep)
              ]
        ]
