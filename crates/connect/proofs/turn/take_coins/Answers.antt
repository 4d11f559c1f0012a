use Rattle.std.proofs.Common.{rules, ◌≡◌, length, true, false, not, is_some, sym, ap, ◌∙◌, arith}
use Rattle.rules.specs.Alone.{tx_sigops}
use Rattle.undo.specs.Effect.{coins_at, spends, spent_coins}
use Rattle.connect.specs.Turns.{turn}
use Rattle.connect.specs.laws.Broken.{at_plain, at_missing}
use Rattle.connect.proofs.Turns.{few_counted, many_counted, exact_count, up_to_coins, as_many}
use Rattle.connect.proofs.turn.take_coins.Goals as goal

pub returns-then-plain-from-clause-fault : goal.returns-then-plain-from-clause-fault
returns-then-plain-from-clause-fault g c s =
    let tx = c.args.tx.now in
    let n = c.args.counted in
    at_plain s (turn tx c.args.layer.coins n)
    (many_counted n (tx_sigops tx) c.tx_sigops.result c.saturating_add-plain.result c.requires.few c.tx_sigops.ensures c.saturating_add-plain.ensures (omega (arith, c.from.ensures, c.if-plain-from.true)))

pub returns-in_default-clause-fault : goal.returns-in_default-clause-fault
returns-in_default-clause-fault g c s =
    let tx = c.args.tx.now in
    let n = c.args.counted in
    let none : is_some c.in_ok-layer.field-0 ≡ false = search rules in
    at_missing s (turn tx c.args.layer.coins n)
    (few_counted n (tx_sigops tx) c.tx_sigops.result c.saturating_add-plain.result c.requires.few c.tx_sigops.ensures c.saturating_add-plain.ensures (omega (arith, c.from.ensures, c.if-plain-from.false)))
    (ap not (sym c.in_ok-layer.ensures.all ∙ none))

pub returns-clause-found : goal.returns-clause-found
returns-clause-found g c s =
    let tx = c.args.tx.now in
    let m = c.args.layer.coins in
    let n = c.args.counted in
    let some : is_some c.in_ok-layer.field-0 ≡ true = search rules in
    record {
      few = c.requires.few;
      lent = search rules;
      up_to_coins = up_to_coins s tx m n c.requires.few c.tx_sigops.result c.saturating_add-plain.result c.tx_sigops.ensures c.saturating_add-plain.ensures (omega (arith, c.from.ensures, c.if-plain-from.false))
          (is_some c.in_ok-layer.field-0) c.in_ok-layer.ensures.all some;
    }

pub returns-clause-plain : goal.returns-clause-plain
returns-clause-plain g c =
    exact_count c.args.counted (tx_sigops c.args.tx.now) c.tx_sigops.result c.saturating_add-plain.result c.requires.few c.tx_sigops.ensures c.saturating_add-plain.ensures (omega (arith, c.from.ensures, c.if-plain-from.false))

pub returns-clause-each : goal.returns-clause-each
unfolding spent_coins
returns-clause-each g c =
    let m = c.args.layer.coins in
    let ps = spends c.args.tx.now in
    let some : is_some c.in_ok-layer.field-0 ≡ true = search rules in
    let same_coins : c.in-Some.spent ≡ coins_at m ps = search rules in
    ap length same_coins ∙ as_many m ps (sym c.in_ok-layer.ensures.all ∙ some)
