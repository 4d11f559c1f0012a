use Rattle.std.proofs.Common.{◌≡◌, ap, sym, ◌∙◌}
use Rattle.std.specs.List.{list_all}
use Rattle.std.specs.FinSet as set
use Rattle.signatures.proofs.Search.{all_members}
use Rattle.signatures.proofs.table.Table.is_within.Goals as goal

pub returns : goal.returns
returns c =
    let items = c.self.inside.triples.items in
    let all : c.has_each.result ≡ list_all (set.contains c.args.other.now) items = c.has_each.ensures ∙ ap (list_all (set.contains c.args.other.now)) c.as_slice.ensures.value in
    let parts = all_members items (set.contains c.args.other.now) in
    (λ yes t is. parts.0 (sym all ∙ yes) t (ap (λ s. set.contains s t) c.self.view_is ∙ is), λ each. all ∙ parts.1 (λ t is. each t (sym (ap (λ s. set.contains s t) c.self.view_is) ∙ is)))
