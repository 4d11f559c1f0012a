-- What is read at the front is spelled there.
use Rattle.std.proofs.Common.{◌≡◌, ℕ, ◌+◌, List, length, Result, Ok, Err, ap, ◌∙◌, length-append}
use Rattle.std.specs.Prelude.{IfOk}
use Rattle.wire.specs.Grammar.{IsBytes}
use Rattle.wire.specs.computed.Reader.{Gives}
use Rattle.wire.specs.laws.Reader.{found_law}
use Rattle.txn.specs.declared.fault.TxFault.{TxFault}
use Rattle.txn.specs.Fault.{wire_fault_of}
use Rattle.block.specs.declared.block.Block.{Block}
use Rattle.block.specs.Grammar.{block}
use Rattle.block.specs.computed.Reader.{block_at}
use Rattle.block.specs.laws.Reader.{block_decides}

pub sized : (result : Result Block TxFault) (bytes rest : List ℕ) → IsBytes bytes → Gives wire_fault_of result rest (block_at bytes) → IfOk result (λ b. length bytes ≡ length (block.spell b) + length rest)
sized (Ok b) bytes rest fits e =
    let f = found_law block block_at block_decides bytes b rest fits e in
    ap length f.1 ∙ length-append (block.spell b) rest
sized (Err e) bytes rest fits h = tt
