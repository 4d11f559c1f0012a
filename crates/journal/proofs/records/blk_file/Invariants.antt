use Rattle.std.proofs.Common.{◌≡◌, take, false}
use Rattle.std.specs.List.{flat_map, list_any}
use Rattle.journal.specs.SavedRun.{record_of, is_long}
use Rattle.journal.proofs.records.blk_file.Given as goal

abbrev pub invariant-loop-entry : goal.invariant-loop-entry
invariant-loop-entry l = record {
  file : l.file.items ≡ flat_map record_of (take l.entry-index l.entries);
  fits : list_any (λ entry. is_long entry.command) (take l.entry-index l.entries) ≡ false;
}
