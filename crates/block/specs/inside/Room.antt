-- The fewest bytes of a transaction.
use Rattle.std.specs.Prelude.{ℕ}

-- a version of 4, two counts of 0, a lock time of 4
abbrev pub least_transaction : ℕ
least_transaction = 10
