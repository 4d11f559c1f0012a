use Rattle.std.proofs.Common.{rules, ◌≡◌, ◌+◌, ◌-◌, ◌^◌, ◌<◌, ◌≤◌, ℕ, min, refl, take, sum_by, length, ap, ap₂, ◌∙◌, arith}
use Rattle.std.specs.List.{zip}
use Rattle.std.proofs.lemmas.List.{take_all}
use Rattle.std.proofs.lemmas.List.Sums.{sum_by_push}
use Rattle.txn.specs.declared.input.TxIn.{TxIn}
use Rattle.txn.specs.Tx.{Tx}
use Rattle.coins.specs.declared.coin.Coin.{Coin}
use Rattle.script.specs.Signatures.{p2sh_sigops}
use Rattle.connect.specs.Turns.{inner_sigops}
use Rattle.connect.proofs.Steps.{take_item, zip_at, length-zip, item_of}
use Rattle.connect.proofs.counts.inner_sigops.Goals as goal

abbrev of : TxIn × Coin → ℕ
of p = p2sh_sigops p.0.script p.1.script

pub loop-index-preserved : goal.loop-index-preserved
unfolding p2sh_sigops
loop-index-preserved c =
    let xs = c.args.tx.now.inputs in
    let ys = c.args.coins.now in
    let i = c.loop-index.index in
    let x = c.index-as_slice-index.result in
    let y = c.index-coins-index.result in
    let short : length ys ≤ length xs = omega (arith, c.requires) in
    let below : i < length ys = omega (arith, c.loop-index-test.true) in
    let here = zip_at xs ys i x y (omega arith) below (item_of i x (c.as_slice.ensures ∙ ap (λ (t : Tx). t.inputs) c.tx.view_is) c.index-as_slice-index.is) c.index-coins-index.is in
    let next : sum_by of (take (i + 1) (zip xs ys)) ≡ sum_by of (take i (zip xs ys)) + of (x, y) = ap (sum_by of) (take_item (zip xs ys) i (x, y) (omega (arith, length-zip xs ys short)) here) ∙ sum_by_push of (take i (zip xs ys)) (x, y) in
    let value : c.p2sh_sigops.result ≡ of (x, y) = c.p2sh_sigops.ensures ∙ ap₂ p2sh_sigops (search rules) (search rules) in
    let sum = c.saturating_add-sum.ensures in
    let before = c.loop-index.invariant in
    omega arith

pub returns : goal.returns
unfolding inner_sigops
returns c =
    let xs = c.args.tx.now.inputs in
    let ys = c.args.coins.now in
    c.loop-index.invariant ∙ ap (λ n. min n (2 ^ 128 - 1)) (ap (sum_by of) (take_all c.loop-index.index (zip xs ys) (omega (arith, length-zip xs ys (omega (arith))))) ∙ refl)
