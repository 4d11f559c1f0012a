use Rattle.std.proofs.Common.{sym, ap, ◌∙◌}
use Rattle.block.specs.Grammar.{header}
use Rattle.tree.specs.Branches.{block_at, height, place_of}
use Rattle.tree.specs.Names.{names}
use Rattle.ffi.specs.Answers.{id_of}
use Rattle.ffi.specs.Lookups.{confirmations_number}
use Rattle.ffi.specs.SessionState.{tree_of}
use Rattle.ffi.proofs.Places.{all_shown, none_shown}
use Rattle.ffi.proofs.lookups.show_header.Goals as goal

pub returns-in_default : goal.returns-in_default
returns-in_default c =
    let s = c.args.session.now in
    let id = id_of c.args.id.now in
    let t = (tree_of s).blocks in
    none_shown s id (place_of names t id) (λ p. header.spell (block_at names t p).header) c.args.shown.now (sym c.header.ensures ∙ c.in_default.is)

pub returns-in_default-height_of : goal.returns-in_default-height_of
returns-in_default-height_of c =
    let s = c.args.session.now in
    let id = id_of c.args.id.now in
    let t = (tree_of s).blocks in
    none_shown s id (place_of names t id) (height t) c.args.shown.now (sym c.height_of.ensures ∙ c.in_default-height_of.is)

pub returns : goal.returns
returns c =
    let s = c.args.session.now in
    let id = id_of c.args.id.now in
    let t = (tree_of s).blocks in
    all_shown s id (place_of names t id) c.args.shown.now c.shown_header.result c.in-Some.header c.in-Some-height_of.height
    (sym c.header.ensures ∙ c.in-Some.is) (sym c.height_of.ensures ∙ c.in-Some-height_of.is)
    c.shown_header.ensures.header c.shown_header.ensures.height
    (c.shown_header.ensures.confirmations ∙ ap confirmations_number c.confirmations.ensures.value)
