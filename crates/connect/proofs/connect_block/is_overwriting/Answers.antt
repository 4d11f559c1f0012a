use Rattle.std.proofs.Common.{rules, ◌≡◌, ◌+◌, ◌||◌, false, List, drop, sym, ap, subst, ◌∙◌, arith}
use Rattle.std.specs.List.{AllByRecursion, list_any, drop-map}
use Rattle.txn.specs.Tx.{Tx}
use Rattle.txn.specs.Identity.{id_of}
use Rattle.connect.specs.Faults.{overwrites}
use Rattle.connect.specs.inside.Turns.{IsLawful}
use Rattle.connect.proofs.Steps.{drop_item}
use Rattle.connect.proofs.connect_block.is_overwriting.Goals as goal

pub loop-index-preserved : goal.loop-index-preserved
loop-index-preserved g c =
    let m = c.args.layer.now.coins in
    let xs = c.args.txs.now in
    let i = c.loop-index.index in
    let x = c.index-txs-index.result in
    let item = drop_item xs i x (omega arith) c.index-txs-index.is in
    let none : overwrites m x ≡ false = search rules in
    record {
      lawful = (subst (λ (l : List Tx). AllByRecursion IsLawful l) item c.loop-index.invariant.lawful).1;
      ids = ap (drop (i + 1)) c.requires.ids ∙ drop-map id_of (i + 1) xs;
      rest = sym (ap (list_any (overwrites m)) item ∙ ap (λ b. b || list_any (overwrites m) (drop (i + 1) xs)) none) ∙ c.loop-index.invariant.rest;
    }
