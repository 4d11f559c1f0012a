use Rattle.std.proofs.Common.{ap, ◌∙◌, rules}
use Rattle.std.proofs.lemmas.Fn.{always_returns_same}
use Rattle.std.specs.FinSet as set
use Rattle.signatures.specs.Triple.{triple_cmp}
use Rattle.signatures.specs.laws.Order.{triple_cmp-total}
use Rattle.signatures.proofs.Once.{sorted_from_strict}
use Rattle.signatures.proofs.Search.{is_ok-search}
use Rattle.signatures.proofs.table.Table.has_kept.Goals as goal

pub returns : goal.returns
returns c =
    let t = c.args.triple.now in
    let position = c.binary_search_by.ensures.position (λ e. triple_cmp e t) (always_returns_same _ _ _ (λ a r f called. search rules)) in
    let found = is_ok-search triple_cmp-total c.self.inside.triples.items t c.binary_search_by.result (sorted_from_strict triple_cmp-total c.self.inside.triples.items c.self.invariant) (rw c.deref.ensures.value at c.binary_search_by.ensures.bound) (rw c.deref.ensures.value at position) in
    c.is_ok.ensures.value ∙ found ∙ ap (λ s. set.contains s t) c.self.view_is
