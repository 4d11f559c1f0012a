-- Vectors of eight words, one of each message.
use Rattle.std.specs.Prelude.{ℕ}

-- how many messages are hashed at once
abbrev pub lanes : ℕ
lanes = 8
