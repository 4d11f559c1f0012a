-- Messages and their ids.
use Rattle.std.specs.Prelude.{ℕ, List, map}
use Rattle.std.specs.Borrow.{Bor}
use Rattle.hash.specs.Double.{double_sha}
use Rattle.hash.specs.declared.id.Id.{Id}

-- the double SHA-256 of a message, as an id
abbrev pub message_id : List ℕ → Id
message_id message = record { 0 = double_sha message }

-- the messages themselves, of a list of references to them
abbrev pub bytes_of : List (Bor (List ℕ)) → List (List ℕ)
bytes_of messages = map (λ message. message.now) messages

-- the id of each message, in order
abbrev pub ids_of : List (Bor (List ℕ)) → List Id
ids_of messages = map message_id (bytes_of messages)
