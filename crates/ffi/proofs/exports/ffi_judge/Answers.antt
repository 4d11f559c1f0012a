use Rattle.std.proofs.Common.{sym}
use Rattle.model.specs.declared.command.Command.TheVariants as command
use Rattle.ffi.proofs.Sessions.{none-to-judge}
use Rattle.ffi.proofs.exports.ffi_judge.Goals as goal

pub returns-in-Err : goal.returns-in-Err
returns-in-Err c = none-to-judge c.args.slot.now.kept.value (command.Submit c.args.bytes.now c.args.now) c.args.reply.now (sym c.if-not-is_full.ensures)
