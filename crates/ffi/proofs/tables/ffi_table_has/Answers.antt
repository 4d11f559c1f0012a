-- The table that was read has the triple, or doesn't.
use Rattle.std.proofs.Common.{inl, refl, ap, ◌∙◌}
use Rattle.ffi.specs.Refusals.{bit}
use Rattle.ffi.proofs.tables.ffi_table_has.Goals as goal

pub returns-in-Ok : goal.returns-in-Ok
returns-in-Ok c = inl (refl, (_, c.in-Ok.ensures.found, c.bit.ensures ∙ ap bit c.has.ensures), c.in-Ok.ensures.kept)
