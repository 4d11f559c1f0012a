-- A triple is in both tables.
use Rattle.std.proofs.Common.{inl, refl, ◌∙◌}
use Rattle.ffi.proofs.known.known_of.Goals as goal

pub returns-in-None-clause-refused : goal.returns-in-None-clause-refused
returns-in-None-clause-refused c = inl (
  record { valid = c.in-Ok.table; invalid = c.in-Ok-table_of.table },
  record { valid_are = c.in-Ok.ensures.found; invalid_are = c.in-Ok-table_of.ensures.found },
  c.in-None.ensures,
  c.in-Ok-table_of.ensures.kept ∙ c.in-Ok.ensures.kept,
  refl,
)
