use Rattle.std.proofs.Common.{◌≡◌, ap, sym, ◌∙◌}
use Rattle.std.specs.Option.{is_some}
use Rattle.std.proofs.lemmas.Option.{get_or_from_slice_get}
use Rattle.model.specs.declared.entry.Entry.{Entry}
use Rattle.node.proofs.OwnEntries.{own_next}
use Rattle.node.proofs.entries.next_own.Goals.{then-is_some-via-then-is_some, then-is_some-via-else-is_some+in_ok-get+then-not-is_same_command}
use Rattle.node.proofs.entries.next_own.Goals as goal

pub returns-then-is_some : goal.returns-then-is_some
returns-then-is_some c p =
    let w = own_next c.args.number c.args.count c.args.owed.now c.args.entry.now c.requires c.if-entry-number.false p in
    let reply = ap (λ (e : Entry). e.reply) w.2 in
    let command = ap (λ (e : Entry). e.command) w.2 in
    elim c.then-is_some.branch [
      | then-is_some-via-then-is_some b ↦ cc (ap is_some reply, c.is_some.ensures, b.if-is_some.true)
      | then-is_some-via-else-is_some+in_ok-get+then-not-is_same_command b ↦
          let there = b.in_ok-get.ensures.lookup in
          let same : b.in_ok-get.field-0.now ≡ w.0 = there.1 ∙ get_or_from_slice_get c.args.owed.now c.args.count w.0 b.in_ok-get.field-0.now w.1 in
          cc (b.is_same_command.ensures.1 (command ∙ sym same), b.if-not-is_same_command.true)
    ]
