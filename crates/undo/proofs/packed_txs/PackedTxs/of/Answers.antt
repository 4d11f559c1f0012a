use Rattle.std.proofs.Common.{◌≡◌, ℕ, ◌+◌, List, [], ◌∷◌, ◌++◌, length, map, take, sum, sym, ap, ◌∙◌, arith}
use Rattle.std.proofs.lemmas.List.{map-append, take_all, take_more}
use Rattle.coins.specs.declared.coin.Coin.{Coin}
use Rattle.undo.specs.inside.PackedCoins.{grouped}
use Rattle.undo.proofs.PackedList.{flat, flat-long, flat-push, grouped-flat}
use Rattle.undo.proofs.packed_txs.PackedTxs.of.Goals as goal

abbrev Lists : Type 0
Lists = List (List Coin)

pub loop-spent-init : goal.loop-spent-init
unfolding flat
loop-spent-init c = record { counts = c.in_ok-counts.ensures.items; coins = c.in_ok-coins.ensures }

pub loop-spent-preserved : goal.loop-spent-preserved
loop-spent-preserved c =
    let txs : Lists = c.args.txs.now in
    let i = c.loop-spent.spent-index in
    let x : List Coin = c.spent-item.result in
    let next : ◌≡◌ {A = Lists} (take (i + 1) txs) (take i txs ++ x ∷ []) = take_more txs i x c.loop-spent-test.true ∙ ap (λ (y : List Coin). take i txs ++ y ∷ []) (sym c.spent-item.is) in
    record {
      counts = c.in_ok-push.ensures.items ∙ ap (λ (l : List ℕ). l ++ c.len.result ∷ []) c.loop-spent.invariant.counts ∙ ap (λ (n : ℕ). map length (take i txs) ++ n ∷ []) c.len.ensures
          ∙ sym (ap (λ (l : Lists). map length l) next ∙ map-append length (take i txs) (x ∷ []));
      coins = c.in_ok-add.ensures ∙ ap (λ (l : List Coin). l ++ x) c.loop-spent.invariant.coins ∙ sym (ap (λ (l : Lists). flat l) next ∙ flat-push (take i txs) x);
    }

pub invariant_of-result : goal.invariant_of-result
invariant_of-result c =
    let some : Lists = take c.loop-spent.spent-index c.args.txs.now in
    ap (λ (l : List ℕ). sum l) c.loop-spent.invariant.counts ∙ flat-long some ∙ sym (ap (λ (l : List Coin). length l) c.loop-spent.invariant.coins)

pub returns : goal.returns
returns c =
    let txs : Lists = c.args.txs.now in
    let i = c.loop-spent.spent-index in
    let some : Lists = take i txs in
    ap (λ (l : List ℕ). grouped l c.loop-spent.coins) c.loop-spent.invariant.counts ∙ ap (grouped (map length some)) c.loop-spent.invariant.coins ∙ grouped-flat some
    ∙ take_all i txs c.loop-spent-test.false
