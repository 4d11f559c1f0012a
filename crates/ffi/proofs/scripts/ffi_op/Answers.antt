use Rattle.std.proofs.Common.{sym, ap, ◌∙◌}
use Rattle.script.specs.Ops.{ops}
use Rattle.ffi.proofs.Opcodes.{first_shown}
use Rattle.ffi.proofs.scripts.ffi_op.Goals as goal

pub returns-in-Some : goal.returns-in-Some
returns-in-Some c =
    let parts = sym c.new-ops.ensures ∙ c.in-Some.ensures.front in
    let first = ap ops (sym c.new-ops.ensures) ∙ c.in-Some.ensures.steps in
    rw (c.pushed.ensures, c.number.ensures) (first_shown c.args.script.now c.in-Some.op.now c.next.new.self _ parts first)
