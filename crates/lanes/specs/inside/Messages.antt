-- One message of many.
use Rattle.std.specs.Prelude.{ℕ, List, [], slice_index_or}
use Rattle.std.specs.Borrow.{Bor}
use Rattle.lanes.specs.Messages.{bytes_of}

-- message l of a list of references
abbrev pub message_at : List (Bor (List ℕ)) → ℕ → List ℕ
message_at messages l = slice_index_or (bytes_of messages) l []
