use Rattle.std.proofs.Common.{◌≡◌, ◌∙◌, ◌+◌, ℕ, List, length, drop, get_or, ap, sym, arith}
use Rattle.std.proofs.lemmas.List.{get_or-drop, length-drop}
use Rattle.model.specs.declared.entry.Entry.{Entry}
use Rattle.server.proofs.blocks.Blocks.add_all.Goals as goal

pub add-requires-clause-within : goal.add-requires-clause-within
add-requires-clause-within g c =
    let i = c.loop-place.invariant in
    let seen = ap (λ (l : List Entry). length l) i.seen in
    let size = ap (λ (l : List Entry). length l) c.requires in
    let cut = length-drop c.args.self.now.steps c.args.self.now.seen in
    let test = c.loop-place-test.true in
    let at = i.steps in
    omega arith

pub add-requires-clause-next : goal.add-requires-clause-next
add-requires-clause-next g c κs live =
    let i = c.loop-place.invariant in
    let e = c.index-entries-place.result in
    c.index-entries-place.is
    ∙ ap (λ (l : List Entry). get_or l c.loop-place.place e) c.requires
    ∙ get_or-drop c.args.self.now.steps c.args.self.now.seen c.loop-place.place e
    ∙ ap (λ (n : ℕ). get_or c.args.self.now.seen n e) (sym i.steps)
    ∙ ap (λ (l : List Entry). get_or l c.loop-place.self.steps e) (sym i.seen)
