-- There is a table of these lines.
use Rattle.std.proofs.Common.{inl, refl}
use Rattle.ffi.proofs.tables.ffi_table.Goals as goal

pub returns-in-Ok : goal.returns-in-Ok
returns-in-Ok c = inl (refl, (_, c.in-Ok.ensures.found, tt), c.in-Ok.ensures.kept)
