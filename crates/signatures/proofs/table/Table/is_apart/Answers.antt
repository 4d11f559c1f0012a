use Rattle.std.proofs.Common.{◌≡◌, Bool, true, false, not, refl, ap, sym, ◌∙◌}
use Rattle.std.specs.List.{list_all}
use Rattle.std.specs.FinSet as set
use Rattle.signatures.specs.Triple.{Triple}
use Rattle.signatures.proofs.Search.{all_members}
use Rattle.signatures.proofs.table.Table.is_apart.Goals as goal

not-true : (b : Bool) → not b ≡ true → b ≡ false
not-true false is = refl
not-true true is = sym is

pub returns : goal.returns
returns c =
    let items = c.self.inside.triples.items in
    let lacks = λ (t : Triple). not (set.contains c.args.other.now t) in
    let all : c.has_none.result ≡ list_all lacks items = c.has_none.ensures ∙ ap (list_all lacks) c.as_slice.ensures.value in
    let parts = all_members items lacks in
    (λ yes t is. not-true (set.contains c.args.other.now t) (parts.0 (sym all ∙ yes) t (ap (λ s. set.contains s t) c.self.view_is ∙ is)), λ apart. all ∙ parts.1 (λ t is. ap not (apart t (sym (ap (λ s. set.contains s t) c.self.view_is) ∙ is))))
