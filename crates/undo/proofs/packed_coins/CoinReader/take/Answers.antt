use Rattle.std.proofs.Common.{◌≡◌, suc, ◌+◌, ◌-◌, List, [], ◌∷◌, ◌++◌, length, take, drop, refl, sym, ap, ◌∙◌, arith}
use Rattle.std.proofs.lemmas.List.{length-drop}
use Rattle.coins.specs.declared.coin.Coin.{Coin}
use Rattle.undo.proofs.PackedList.{next-there}
use Rattle.undo.proofs.packed_coins.CoinReader.take.Goals as goal

pub next-requires : goal.next-requires
next-requires c =
    let left = ap (λ (l : List Coin). length l) c.loop.invariant.left in
    let size = length-drop c.loop.counter c.args.self.now in
    omega (arith, c.requires, c.loop-test.true)

pub loop-preserved : goal.loop-preserved
loop-preserved c =
    let i = c.loop.counter in
    let all = c.args.self.now in
    let coin = c.in_ok-next.field-0 in
    let two = next-there i all coin c.next.new.self (sym c.loop.invariant.left ∙ c.in_ok-next.ensures) in
    record {
      spent = c.in_ok-push.ensures.ok ∙ ap (λ (l : List Coin). l ++ coin ∷ []) c.loop.invariant.spent ∙ sym two.0 ∙ ap (λ n. take n all) {x = suc i} {y = i + 1} (omega arith);
      left = sym two.1 ∙ ap (λ n. drop n all) {x = suc i} {y = i + 1} (omega arith);
    }
