use Rattle.std.proofs.Common.{◌≡◌, List, ap, sym, subst}
use Rattle.signatures.specs.Triple.{Triples}
use Rattle.model.specs.declared.entry.Entry.{Entry}
use Rattle.model.specs.Learnt.{none_found}
use Rattle.view.specs.Origin.{Origin}
use Rattle.node.specs.inside.Brought.{IsInfoOfCore}
use Rattle.node.specs.inside.Knowledge.{IsKnowledge}
use Rattle.node.proofs.Cores.{opening_core, opening_shown}
use Rattle.node.proofs.published_history.new_history.open_history.Goals as goal

pub writer_and_readers-requires-clause-exact : goal.writer_and_readers-requires-clause-exact
writer_and_readers-requires-clause-exact g c _ _ =
    let o : Origin = g.J.Naming.origin in
    let params : c.args.params ≡ o.params = ap (λ (x : Origin). x.params) c.requires.of in
    let follows = c.in_ok-core.ensures.follows in
    let n = c.in_ok-info.ensures in
    let told : (valid : Triples) → IsInfoOfCore valid c.in_ok-core.core c.in_ok-info.info =
    λ valid. let f = (follows valid).0 in record { best_is = n.best valid f; height_is = n.height valid f; tips_are = n.tips valid f } in
    opening_shown o c.in_ok-core.core c.in_ok-info.info (rw params at c.in_ok-core.ensures.value) (λ valid. (follows valid).0) (follows none_found.valid).1 told

pub new-history-requires-clause-chain : goal.new-history-requires-clause-chain
new-history-requires-clause-chain g c _ _ =
    let o : Origin = g.J.Naming.origin in
    let params : c.args.params ≡ o.params = ap (λ (x : Origin). x.params) c.requires.of in
    let follows = c.in_ok-core.ensures.follows in
    let table = ap (λ (x : Origin). x.table) (sym c.requires.of) in
    record {
      core_is = opening_core o c.in_ok-core.core c.args.note.entries (rw params at c.in_ok-core.ensures.value) (λ valid. (follows valid).0) (follows none_found.valid).1 c.requires.empty;
      known_is = subst (λ (l : List Entry). IsKnowledge o c.opening-known.result l) (sym c.requires.empty) (c.opening-known.ensures o table);
      book_is = ap (λ (x : Origin). x.book) c.requires.of;
    }
