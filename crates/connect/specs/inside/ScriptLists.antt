-- The lists of scripts that have to accept.
use Rattle.std.specs.Prelude.{◌≡◌, ℕ, ◌+◌, List, [], ◌∷◌, ◌++◌, length, map}
use Rattle.std.specs.List.{zip}
use Rattle.txn.specs.Tx.{Tx}
use Rattle.coins.specs.declared.coin.Coin.{Coin}
use Rattle.interp.specs.declared.flags.Flags.{Flags}
use Rattle.interp.specs.Question.{question_of}
use Rattle.connect.specs.declared.scripts.Checks.{Checks}
use Rattle.connect.specs.Scripts.{Check, input_checks}

-- the checks of transactions from a place on, with the coins that each spent
unfoldable pub checks_from : Flags → ℕ → List Tx → List (List Coin) → List Check
checks_from flags place [] undo = []
checks_from flags place (tx ∷ txs) [] = []
checks_from flags place (tx ∷ txs) (coins ∷ undo) = input_checks flags place tx coins ++ checks_from flags (place + 1) txs undo

-- the checks that are listed
abbrev pub checks_in : Checks → List Check
checks_in checks = zip checks.places.items (map question_of checks.jobs.items)

-- there is a place for each job
abbrev pub IsEven : Checks → Type 0
IsEven checks = length checks.places.items ≡ length checks.jobs.items
