use Rattle.std.proofs.Common.{ap, ◌∙◌}
use Rattle.std.specs.FinSet as set
use Rattle.signatures.specs.Triple.{triple_of}
use Rattle.signatures.specs.laws.Order.{triple_cmp-total}
use Rattle.signatures.proofs.Once.{sorted_from_strict}
use Rattle.signatures.proofs.Search.{is_ok-search}
use Rattle.signatures.proofs.table.Table.has.Goals as goal

pub returns : goal.returns
returns c =
    let t = triple_of c.args.key.now c.args.signature.now c.args.digest.now in
    let found = is_ok-search triple_cmp-total c.self.inside.triples.items t c.place.result (sorted_from_strict triple_cmp-total c.self.inside.triples.items c.self.invariant) (rw c.as_slice.ensures.value at c.place.ensures.bound) (rw c.as_slice.ensures.value at c.place.ensures.position) in
    c.is_ok.ensures.value ∙ found ∙ ap (λ s. set.contains s t) c.self.view_is
