use Rattle.ffi.proofs.Sessions.{any-signatures}
use Rattle.ffi.proofs.session.chainstate_at_first.Goals as goal

pub returns-clause-is_chainstate : goal.returns-clause-is_chainstate
returns-clause-is_chainstate c = any-signatures c.with.result c.with.ensures.is_chainstate
