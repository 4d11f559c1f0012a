-- The first rule that a block breaks over the coins of its parent's branch, computed.
use Rattle.std.specs.Prelude.{List, [], ◌∷◌, if◌then◌else◌, Option, Some, None}
use Rattle.std.specs.Option.{option_or}
use Rattle.txn.specs.Tx.{Tx}
use Rattle.txn.specs.declared.reason.Reason.{Reason}
use Rattle.txn.specs.First.{first_broken}
use Rattle.signatures.specs.Triple.{Triples}
use Rattle.interp.specs.computed.InputVerdict.{accepts}
use Rattle.coins.specs.Coins.{Coins}
use Rattle.connect.specs.BlockContext.{Setting}
use Rattle.connect.specs.Faults.{connect_rules}
use Rattle.connect.specs.Scripts.{Check, refusal, script_checks}

-- the first whose script isn't accepted
abbrev pub first_refused : Triples → List Check → Option Reason
first_refused triples [] = None
first_refused triples (check ∷ checks) =
    if accepts check.1.tx check.1.input check.1.spent check.1.flags triples then first_refused triples checks else Some (refusal check)

unfoldable pub connect_fault : Setting → Coins → List Tx → Triples → Option Reason
connect_fault s m txs triples = option_or (first_broken (connect_rules s m txs)) (first_refused triples (script_checks s m txs))
