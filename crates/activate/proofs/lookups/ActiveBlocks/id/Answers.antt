use Rattle.std.specs.Option.{option_map}
use Rattle.std.proofs.Common.{sym, ap, ◌∙◌, Some}
use Rattle.tree.specs.Branches.{id_at}
use Rattle.tree.specs.Names.{names}
use Rattle.activate.specs.laws.Lookups.{by_height-none, by_height-some}
use Rattle.activate.proofs.lookups.ActiveBlocks.id.Goals as goal

pub id-requires : goal.id-requires
id-requires c =
    let b = c.args.self.now in
    (by_height-some b.tree.now.blocks b.active c.requires.kept b.branch.now c.requires.places_are c.args.height c.in-Some.place (sym c.place_at.ensures ∙ c.in-Some.is)).0

pub returns-in-Some : goal.returns-in-Some
returns-in-Some c =
    let b = c.args.self.now in
    let there = by_height-some b.tree.now.blocks b.active c.requires.kept b.branch.now c.requires.places_are c.args.height c.in-Some.place (sym c.place_at.ensures ∙ c.in-Some.is) in
    ap Some c.id.ensures ∙ ap (option_map (id_at names b.tree.now.blocks)) (sym there.1)

pub returns-in-None : goal.returns-in-None
returns-in-None c =
    let b = c.args.self.now in
    ap (option_map (id_at names b.tree.now.blocks))
    (sym (by_height-none b.tree.now.blocks b.active c.requires.kept b.branch.now c.requires.places_are c.args.height (sym c.place_at.ensures ∙ c.in-None.is)))
