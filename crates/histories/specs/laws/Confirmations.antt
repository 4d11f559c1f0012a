-- A coin on two branches.
use Rattle.std.proofs.Common.{◌≡◌, ◌≢◌, ◌||◌, ℕ, ◌+◌, ◌<◌, ◌≤◌, Bool, true, false, cond, List, [], ◌∷◌, ◌++◌, length, map, Option, Some, None, refl, sym, ap, subst, ◌∙◌, inl, inr, ◌⊎◌, arith}
use Rattle.std.specs.Prelude.{IfSome}
use Rattle.std.specs.Option.{option_or}
use Rattle.std.specs.List.{list_any, AllByRecursion}
use Rattle.std.specs.FinMap as coin_map
use Rattle.hash.specs.declared.id.Id.{Id}
use Rattle.txn.specs.declared.outpoint.OutPoint.{OutPoint}
use Rattle.txn.specs.declared.output.TxOut.{TxOut}
use Rattle.txn.specs.Tx.{Tx}
use Rattle.txn.specs.Identity.{id_of}
use Rattle.block.specs.declared.block.Block.{Block}
use Rattle.signatures.specs.Triple.{Triples}
use Rattle.script.specs.Kinds.{is_unspendable}
use Rattle.coins.specs.declared.coin.Coin.{Coin}
use Rattle.coins.specs.Coins.{Coins, same}
use Rattle.coins.specs.laws.Lookups.{entry_for}
use Rattle.undo.specs.Effect.{outpoint_at, spends, spendable, coin_of, makes, without, after}
use Rattle.undo.specs.laws.Effects.{get-without, get-with_coins}
use Rattle.undo.specs.laws.RoundTrip.{once-makes}
use Rattle.rules.specs.declared.params.Params.{Params}
use Rattle.connect.specs.Turns.{effect}
use Rattle.connect.specs.laws.Turns.{effect_none, effect_next}
use Rattle.tree.specs.Branches.{Blocks, block_at, height, on, parent_at}
use Rattle.tree.specs.Names.{names}
use Rattle.tree.specs.laws.Branches.{on-itself, on_trans}
use Rattle.tree.specs.laws.Parents.{climb, height-parent, on-parent, parent-kept}
use Rattle.model.specs.Regtest.{ledger, regtest}
use Rattle.model.specs.Replay.{coins_at}
use Rattle.model.specs.Rules.{Rules}
use Rattle.model.specs.laws.Coins.{step-up}
use Rattle.histories.specs.Confirmations.{IsCoinOf, IsUnspentAbove, is_spent_in}

-- ---- one transaction

-- what it makes is of its tall
among : (tall : ℕ) (made : List (OutPoint × Coin)) (q : OutPoint) → AllByRecursion (λ (e : OutPoint × Coin). e.1.height ≡ tall) made → IfSome (entry_for made q) (λ c. c.height ≡ tall)
among tall [] q all = tt
among tall (e ∷ made) q all = at (same q e.0) (among tall made q all.1)
  where
    at : (here : Bool) → IfSome (entry_for made q) (λ c. c.height ≡ tall) → IfSome (cond here (Some e.1) (entry_for made q)) (λ c. c.height ≡ tall)
    at true h = all.0
    at false h = h

each_made : (tall : ℕ) (coinbase : Bool) (id : Id) (k : ℕ) (outputs : List TxOut) → AllByRecursion (λ (e : OutPoint × Coin). e.1.height ≡ tall) (map (λ o. (o.0, coin_of tall coinbase o.1)) (spendable id k outputs))
each_made tall coinbase id k [] = tt
each_made tall coinbase id k (o ∷ outputs) = at (is_unspendable o.script) (each_made tall coinbase id (k + 1) outputs)
  where
    at : (never : Bool) → AllByRecursion (λ (e : OutPoint × Coin). e.1.height ≡ tall) (map (λ x. (x.0, coin_of tall coinbase x.1)) (spendable id (k + 1) outputs))
        → AllByRecursion (λ (e : OutPoint × Coin). e.1.height ≡ tall) (map (λ x. (x.0, coin_of tall coinbase x.1)) (cond never [] ((outpoint_at id k, o) ∷ []) ++ spendable id (k + 1) outputs))
    at true h = h
    at false h = (refl, h)

pub got : (m : Coins) (tx : Tx) (id : Id) (tall : ℕ) (q : OutPoint)
    → coin_map.get (after m tx id tall) q ≡ option_or (entry_for (makes tx id tall) q) (cond (list_any (same q) (spends tx)) None (coin_map.get m q))
unfolding after
got m tx id tall q =
    get-with_coins (without m (spends tx)) (makes tx id tall) q (once-makes tx id tall)
    ∙ ap (option_or (entry_for (makes tx id tall) q)) (get-without m (spends tx) q)

stays : (made old : Option Coin) (taken : Bool) → old ≢ None → taken ≡ false → option_or made (cond taken None old) ≢ None
stays (Some c) old taken h free = λ e. cc e
stays None old true h free = λ e. cc free
stays None old false h free = h

aged : (tall : ℕ) (made old : Option Coin) (taken : Bool) (c : Coin) → IfSome made (λ x. x.height ≡ tall) → option_or made (cond taken None old) ≡ Some c → (c.height ≡ tall) ⊎ (old ≡ Some c)
aged tall (Some x) old taken c h e = let same_coin : x ≡ c = cc e in inl (subst (λ (y : Coin). y.height ≡ tall) same_coin h)
aged tall None old true c h e = absurd (cc e)
aged tall None old false c h e = inr e

-- ---- a block

stays-all : (tall : ℕ) (m : Coins) (q : OutPoint) (txs : List Tx) → coin_map.get m q ≢ None → is_spent_in txs q ≡ false → coin_map.get (effect tall m txs) q ≢ None
stays-all tall m q [] h free = subst (λ (n : Coins). coin_map.get n q ≢ None) (sym (effect_none tall m)) h
stays-all tall m q (tx ∷ txs) h free =
    let n = after m tx (id_of tx) tall in
    let parts = neither (list_any (same q) (spends tx)) (is_spent_in txs q) free in
    let one = subst (λ (o : Option Coin). o ≢ None) (sym (got m tx (id_of tx) tall q)) (stays (entry_for (makes tx (id_of tx) tall) q) (coin_map.get m q) (list_any (same q) (spends tx)) h parts.0) in
    subst (λ (k : Coins). coin_map.get k q ≢ None) (sym (effect_next tall m tx txs)) (stays-all tall n q txs one parts.1)
  where
    neither : (a b : Bool) → (a || b) ≡ false → (a ≡ false) × (b ≡ false)
    neither true b h = absurd (cc h)
    neither false b h = (refl, h)

aged-all : (tall : ℕ) (m : Coins) (q : OutPoint) (c : Coin) (txs : List Tx) → coin_map.get (effect tall m txs) q ≡ Some c → (c.height ≡ tall) ⊎ (coin_map.get m q ≡ Some c)
aged-all tall m q c [] e = inr (subst (λ (n : Coins). coin_map.get n q ≡ Some c) (effect_none tall m) e)
aged-all tall m q c (tx ∷ txs) e =
    elim (aged-all tall (after m tx (id_of tx) tall) q c txs (subst (λ (n : Coins). coin_map.get n q ≡ Some c) (effect_next tall m tx txs) e)) [
      | inl h ↦ inl h
      | inr g ↦ aged tall (entry_for (makes tx (id_of tx) tall) q) (coin_map.get m q) (list_any (same q) (spends tx)) c (among tall (makes tx (id_of tx) tall) q (each_made tall _ (id_of tx) 0 tx.outputs)) (sym (got m tx (id_of tx) tall q) ∙ g)
    ]

-- ---- branches

module _ (params : Params) (valid : Triples) (t : Blocks Block) (q : OutPoint) where
  abbrev r : Rules Block Id
  r = regtest params valid

  abbrev at : ℕ → Coins
  at p = coins_at r ledger t p

  -- the branch of a block is no higher than it
  pub no_higher : (x p : ℕ) → p ≤ length t → on t p x ≡ true → height t x ≤ height t p
  no_higher x p h o = climb t x (λ y. height t x ≤ height t y) (omega arith) (λ y z k up below. let e = height-parent t y (omega arith) k in omega arith) p h o

  -- a coin is as old as it says
  pub since : (x : ℕ) (c : Coin) → c.height ≡ height t x → (p : ℕ) → p ≤ length t → on t p x ≡ true → coin_map.get (at p) q ≡ Some c → coin_map.get (at x) q ≡ Some c
  since x c made p h o =
      climb t x (λ y. coin_map.get (at y) q ≡ Some c → coin_map.get (at x) q ≡ Some c) (λ e. e)
      (λ y z k up below e.
      let higher = no_higher x (parent_at t y) (parent-kept t y (omega arith) k) up in
      let tall = height-parent t y (omega arith) k in
      elim (aged-all (height t y) (at (parent_at t y)) q c (block_at names t y).txs (subst (λ (n : Coins). coin_map.get n q ≡ Some c) (step-up r ledger t y (omega arith) k) e)) [
        | inl young ↦ absurd (omega arith)
        | inr g ↦ below g
      ])
      p h o

  -- it stays where nothing spends it
  until : (x p : ℕ) → p ≤ length t → on t p x ≡ true → ((y : ℕ) → on t p y ≡ true → height t x < height t y → is_spent_in (block_at names t y).txs q ≡ false)
      → coin_map.get (at x) q ≢ None → coin_map.get (at p) q ≢ None
  until x p h o free there =
      climb t x (λ y. ((w : ℕ) → on t y w ≡ true → height t x < height t w → is_spent_in (block_at names t w).txs q ≡ false) → coin_map.get (at y) q ≢ None)
      (λ f. there)
      (λ y z k up below f.
      let higher = no_higher x (parent_at t y) (parent-kept t y (omega arith) k) up in
      let tall = height-parent t y (omega arith) k in
      let old = below (λ w ow hw. f w (on_trans t y (parent_at t y) w (on-parent t y (omega arith) k) ow) hw) in
      subst (λ (n : Coins). coin_map.get n q ≢ None) (sym (step-up r ledger t y (omega arith) k))
      (stays-all (height t y) (at (parent_at t y)) q (block_at names t y).txs old (f y (on-itself t y k) (omega arith))))
      p h o free

  pub coin_stays : (active other made : ℕ) (c : Coin) → IsCoinOf r t active made q c → other ≤ length t → on t other made ≡ true → IsUnspentAbove t other made q
      → coin_map.get (at other) q ≢ None
  coin_stays active other made c h kept o free =
      until made other kept o free
      (subst (λ (x : Option Coin). x ≢ None) (sym (since made c h.made_at active h.kept h.below h.there)) (λ z. cc z))
