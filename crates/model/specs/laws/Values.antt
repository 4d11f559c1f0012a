-- No coin of regtest is worth less than nothing.
use Rattle.std.proofs.Common.{ℕ, ◌+◌, ◌≤◌, Bool, true, false, cond, pos, ◌≤ℤ◌, List, [], ◌∷◌, ◌++◌, length, map, Option, Some, None, sym, ap, subst, ◌∙◌}
use Rattle.std.specs.Prelude.{IfSome}
use Rattle.std.specs.Option.{option_or}
use Rattle.std.specs.List.{list_any, AllByRecursion}
use Rattle.std.specs.FinMap as coin_map
use Rattle.std.specs.FinMap.{get-empty}
use Rattle.hash.specs.declared.id.Id.{Id}
use Rattle.txn.specs.declared.outpoint.OutPoint.{OutPoint}
use Rattle.txn.specs.declared.output.TxOut.{TxOut}
use Rattle.txn.specs.Tx.{Tx}
use Rattle.txn.specs.Identity.{id_of}
use Rattle.block.specs.declared.block.Block.{Block}
use Rattle.signatures.specs.Triple.{Triples}
use Rattle.script.specs.Kinds.{is_unspendable}
use Rattle.coins.specs.declared.coin.Coin.{Coin}
use Rattle.coins.specs.Coins.{Coins, outpoint_cmp, same}
use Rattle.coins.specs.laws.Lookups.{entry_for}
use Rattle.undo.specs.Effect.{outpoint_at, spends, spendable, coin_of, makes, without, after}
use Rattle.undo.specs.laws.Effects.{get-without, get-with_coins}
use Rattle.undo.specs.laws.RoundTrip.{once-makes}
use Rattle.rules.specs.declared.params.Params.{Params}
use Rattle.connect.specs.Turns.{effect}
use Rattle.connect.specs.laws.Alone.{lawful_block}
use Rattle.connect.specs.laws.Turns.{effect_none, effect_next}
use Rattle.connect.specs.laws.Total.{IsPaid, all_paid}
use Rattle.tree.specs.Branches.{Blocks, height, block_at}
use Rattle.tree.specs.laws.Branches.{on-genesis}
use Rattle.tree.specs.laws.Parents.{climb}
use Rattle.tree.specs.Names.{names}
use Rattle.model.specs.Rules.{Rules}
use Rattle.model.specs.Replay.{coins_at}
use Rattle.model.specs.Regtest.{AreNotNegative, ledger, regtest}
use Rattle.model.specs.StateInvariant.{AllKept}
use Rattle.model.specs.laws.Coins.{coins-genesis, step-up}
use Rattle.model.specs.laws.Kept.{alone-at}

abbrev IsNotNegative : Option Coin → Type 0
IsNotNegative entry_for = IfSome entry_for (λ coin. pos 0 ≤ℤ coin.value)

-- ---- one transaction

either : (made below : Option Coin) → IsNotNegative made → IsNotNegative below → IsNotNegative (option_or made below)
either None below h l = l
either (Some coin) below h l = h

left : (taken : Bool) (o : Option Coin) → IsNotNegative o → IsNotNegative (cond taken None o)
left true o h = tt
left false o h = h

abbrev EachMade : List (OutPoint × Coin) → Type 0
EachMade made = AllByRecursion (λ e. pos 0 ≤ℤ e.1.value) made

among : (made : List (OutPoint × Coin)) (q : OutPoint) → EachMade made → IsNotNegative (entry_for made q)
among [] q all = tt
among (e ∷ made) q all = at (same q e.0) (among made q all.1)
  where
    at : (here : Bool) → IsNotNegative (entry_for made q) → IsNotNegative (cond here (Some e.1) (entry_for made q))
    at true h = all.0
    at false h = h

each_made : (height : ℕ) (coinbase : Bool) (id : Id) (k : ℕ) (outputs : List TxOut) → AllByRecursion IsPaid outputs → EachMade (map (λ o. (o.0, coin_of height coinbase o.1)) (spendable id k outputs))
each_made height coinbase id k [] paid = tt
each_made height coinbase id k (o ∷ outputs) paid = at (is_unspendable o.script) (each_made height coinbase id (k + 1) outputs paid.1)
  where
    at : (never : Bool) → EachMade (map (λ x. (x.0, coin_of height coinbase x.1)) (spendable id (k + 1) outputs))
        → EachMade (map (λ x. (x.0, coin_of height coinbase x.1)) (cond never [] ((outpoint_at id k, o) ∷ []) ++ spendable id (k + 1) outputs))
    at true h = h
    at false h = (paid.0, h)

after-one : (m : Coins) (tx : Tx) (id : Id) (height : ℕ) → AreNotNegative m → AllByRecursion IsPaid tx.outputs → AreNotNegative (after m tx id height)
unfolding after
after-one m tx id height h paid q =
    let made = entry_for (makes tx id height) q in
    let taken = list_any (same q) (spends tx) in
    subst IsNotNegative
    (sym (get-with_coins (without m (spends tx)) (makes tx id height) q (once-makes tx id height) ∙ ap (option_or made) (get-without m (spends tx) q)))
    (either made (cond taken None (coin_map.get m q)) (among (makes tx id height) q (each_made height _ id 0 tx.outputs paid)) (left taken (coin_map.get m q) (h q)))

-- ---- a block, and a branch

after-all : (height : ℕ) (m : Coins) (txs : List Tx) → AreNotNegative m → AllByRecursion (λ (tx : Tx). AllByRecursion IsPaid tx.outputs) txs → AreNotNegative (effect height m txs)
after-all height m [] h paid = subst AreNotNegative (sym (effect_none height m)) h
after-all height m (tx ∷ txs) h paid =
    subst AreNotNegative (sym (effect_next height m tx txs))
    (after-all height (after m tx (id_of tx) height) txs (after-one m tx (id_of tx) height h paid.0) paid.1)

none_at_first : AreNotNegative coin_map.empty
none_at_first q = subst IsNotNegative (sym (get-empty outpoint_cmp q)) tt

module _ (params : Params) (triples : Triples) where
  abbrev r : Rules Block Id
  r = regtest params triples

  -- whatever block a branch ends with
  pub not_negative-at : (t : Blocks Block) (p : ℕ) → AllKept r t → p ≤ length t → AreNotNegative (coins_at r ledger t p)
  not_negative-at t p all h =
      climb t 0 (λ x. AreNotNegative (coins_at r ledger t x))
      (subst AreNotNegative (sym (coins-genesis r ledger t)) none_at_first)
      (λ x z k o below.
      let b : Block = block_at names t x in
      subst AreNotNegative (sym (step-up r ledger t x z k))
      (after-all (height t x) _ b.txs below (all_paid b.txs (lawful_block b (alone-at r t x all z k)).rules)))
      p h (on-genesis t p)
