use Rattle.std.proofs.Common.{rules}
use Rattle.console.proofs.Notes.{noted}
use Rattle.console.proofs.datadir.host.FileHostHost.sync.Goals as goal

pub returns : goal.returns
returns g c = noted _ _ _ _ _ _ _ c.note.ensures c.is_ok.ensures.value (search rules)
