use Rattle.std.proofs.Common.{sym}
use Rattle.model.specs.declared.command.Command.TheVariants as command
use Rattle.ffi.proofs.Sessions.{no-memory}
use Rattle.ffi.proofs.exports.ffi_submit.Goals as goal

pub returns-in-Err : goal.returns-in-Err
returns-in-Err c = no-memory c.args.slot.now.kept.value (command.Submit c.args.bytes.now c.args.now) c.args.reply.now (sym c.if-not-is_full.ensures)
