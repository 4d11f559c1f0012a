use Rattle.std.proofs.Common.{rules, IfSome, ◌≡◌, ◌+◌, ◌≤◌, ◌++◌, ◌∷◌, List, length, drop, sum_by, sym, ap, ap₂, subst, ◌∙◌, arith}
use Rattle.std.specs.List.{AllZip}
use Rattle.std.proofs.lemmas.List.{append_assoc, append-nil}
use Rattle.std.proofs.lemmas.List.Sums.{sum_by-cons}
use Rattle.txn.specs.Tx.{Tx}
use Rattle.coins.specs.declared.coin.Coin.{Coin}
use Rattle.queue.specs.laws.LentMidstates.{lent_of}
use Rattle.connect.specs.Scripts.{Check, input_checks}
use Rattle.connect.specs.inside.ScriptLists.{checks_from, checks_in}
use Rattle.connect.proofs.Steps.{drop_item, drop_of_length-le, item_of}
use Rattle.connect.proofs.Checks.{listed_next, listed_none, alike_length}
use Rattle.connect.proofs.scripts.list.Goals as goal

Fits : Tx → List Coin → Type 0
Fits tx coins = length coins ≤ length tx.inputs

pub add-requires-clause-midstates : goal.add-requires-clause-midstates
add-requires-clause-midstates c =
    let txs = c.args.txs.now in
    let x = c.index-txs-index.result in
    subst (λ (tx : Tx). IfSome c.get.result (λ m. m.now.tx.now ≡ tx)) (sym c.index-txs-index.is) (lent_of txs c.args.midstates.now c.loop-index.index c.get.result x c.requires.midstates c.get.ensures.lookup)

pub loop-index-preserved : goal.loop-index-preserved
unfolding Fits
loop-index-preserved c =
    let flags = c.args.flags in
    let xs = c.args.txs.now in
    let ys = c.args.undo.now in
    let i = c.loop-index.index in
    let x = c.index-txs-index.result in
    let y = c.index-as_slice-index.result in
    let both = alike_length Fits xs ys c.requires.alike in
    let ex = drop_item xs i x (omega arith) c.index-txs-index.is in
    let ey = drop_item ys i y (omega arith) (item_of i y c.as_slice.ensures c.index-as_slice-index.is) in
    let alike : AllZip Fits (x ∷ drop (i + 1) xs) (y ∷ drop (i + 1) ys) = subst (λ (l : List Tx). AllZip Fits l (y ∷ drop (i + 1) ys)) ex (subst (λ (l : List (List Coin)). AllZip Fits (drop i xs) l) ey c.loop-index.invariant.alike) in
    let added : checks_in c.add.new.checks ≡ checks_in c.loop-index.checks ++ input_checks flags (i + 1) x y = search rules in
    let later = checks_from flags (i + 1 + 1) (drop (i + 1) xs) (drop (i + 1) ys) in
    let count : length c.add.new.checks.jobs.items ≡ length c.loop-index.checks.jobs.items + length y = search rules in
    let sum : sum_by (λ (coins : List Coin). length coins) (drop i ys) ≡ length y + sum_by (λ (coins : List Coin). length coins) (drop (i + 1) ys) = ap (sum_by (λ (coins : List Coin). length coins)) ey ∙ sum_by-cons (λ (coins : List Coin). length coins) y (drop (i + 1) ys) in
    record {
      even = c.in_ok-add.ensures.even;
      inputs = c.in_ok-add.ensures.inputs;
      alike = alike.1;
      checks_from = ap (λ (l : List Check). l ++ later) added
          ∙ append_assoc (checks_in c.loop-index.checks) (input_checks flags (i + 1) x y) later
          ∙ ap (λ (l : List Check). checks_in c.loop-index.checks ++ l) (sym (ap₂ (λ (l : List Tx) (k : List (List Coin)). checks_from flags (i + 1) l k) ex ey ∙ listed_next flags (i + 1) x (drop (i + 1) xs) y (drop (i + 1) ys)))
          ∙ c.loop-index.invariant.checks_from;
      few = omega (arith, count, sum, c.loop-index.invariant.few);
    }

pub returns-clause-checks_from : goal.returns-clause-checks_from
returns-clause-checks_from c =
    let flags = c.args.flags in
    let i = c.loop-index.index in
    let ys = drop i c.args.undo.now in
    sym (append-nil (checks_in c.loop-index.checks))
    ∙ sym (ap (λ (l : List Tx). checks_in c.loop-index.checks ++ checks_from flags (i + 1) l ys) (drop_of_length-le c.args.txs.now (omega arith)) ∙ ap (λ (l : List Check). checks_in c.loop-index.checks ++ l) (listed_none flags (i + 1) ys))
    ∙ c.loop-index.invariant.checks_from
