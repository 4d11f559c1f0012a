use Rattle.std.proofs.Common.{◌≡◌, true, ap, sym, ◌∙◌}
use Rattle.std.specs.Result.{is_ok}
use Rattle.std.specs.FinSet as set
use Rattle.std.specs.List.{insert}
use Rattle.std.specs.List.Sorted.{IsStrictlySortedBy}
use Rattle.signatures.specs.Triple.{triple_cmp}
use Rattle.signatures.specs.laws.Order.{triple_cmp-total, triple_cmp-exact}
use Rattle.signatures.proofs.Once.{sorted_from_strict}
use Rattle.signatures.proofs.Search.{is_ok-search, strict-missed, from_list-insert, insert_again}
use Rattle.signatures.proofs.table.Table.add_kept.Goals as goal

pub invariant_of-self : goal.invariant_of-self
invariant_of-self c =
    let items = c.self.inside.triples.items in
    let kept : IsStrictlySortedBy triple_cmp (insert items c.in-Err.at c.in_ok-copy.copy) =
    rw c.in_ok-copy.ensures (strict-missed triple_cmp-total items _ c.in-Err.at c.self.invariant (rw c.as_slice.ensures.value at c.in-Err.ensures.bound) (rw c.as_slice.ensures.value at c.in-Err.ensures.position)) in
    rw c.in_ok-insert.ensures.items kept

pub returns-in_ok-insert-clause-ok : goal.returns-in_ok-insert-clause-ok
returns-in_ok-insert-clause-ok c =
    let items = c.self.inside.triples.items in
    ap set.from_list c.in_ok-insert.ensures.items
    ∙ from_list-insert triple_cmp-total triple_cmp-exact items c.in-Err.at c.in_ok-copy.copy
    ∙ ap (λ s. set.insert s c.in_ok-copy.copy) c.self.view_is
    ∙ ap (set.insert c.args.self.now) c.in_ok-copy.ensures

pub returns-in_default-clause-ok : goal.returns-in_default-clause-ok
returns-in_default-clause-ok c =
    let t = c.args.triple.now in
    let items = c.self.inside.triples.items in
    let found = is_ok-search triple_cmp-total items t c.place_of.result (sorted_from_strict triple_cmp-total items c.self.invariant) (rw c.as_slice.ensures.value at c.place_of.ensures.bound) (rw c.as_slice.ensures.value at c.place_of.ensures.position) in
    let there : set.contains c.args.self.now t ≡ true = ap (λ s. set.contains s t) (sym c.self.view_is) ∙ sym found ∙ ap is_ok c.in_default.is in
    sym (insert_again triple_cmp-total triple_cmp-exact c.args.self.now t there)
