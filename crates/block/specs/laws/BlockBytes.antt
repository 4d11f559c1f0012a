-- The block that bytes spell is the one that is decoded.
use Rattle.std.proofs.Common.{◌≡◌, Bool, ℕ, ◌<◌, List, [], ◌∷◌, length, Some, None, Ok, Err, refl, sym, ap, ◌∙◌, arith}
use Rattle.std.proofs.lemmas.List.{append-nil}
use Rattle.wire.specs.declared.fault.WireFault.{WireFault}
use Rattle.wire.specs.declared.fault.WireFault.TheVariants as wire
use Rattle.block.specs.declared.block.Block.{Block}
use Rattle.block.specs.declared.fault.ReadFault.{ReadFault}
use Rattle.block.specs.declared.fault.ReadFault.TheVariants as faults
use Rattle.block.specs.Grammar.{block_by}
use Rattle.block.specs.computed.Reader.{block_by_at}
use Rattle.block.specs.laws.Reader.{block_by_decides}
use Rattle.block.specs.Whole.{FaultyBy, HasExtra}
use Rattle.block.specs.BlockOfBytes.{unless_more, whole_block, block_of_bytes_by}

pub read_again : (by : Bool) (bytes : List ℕ) (b : Block) → (block_by by).Lawful b → bytes ≡ (block_by by).spell b → block_by_at by bytes ≡ Ok (b, [])
read_again by bytes b lawful e = ap (block_by_at by) (e ∙ sym (append-nil ((block_by by).spell b))) ∙ (block_by_decides by).again b [] lawful

pub read_faulty : (by : Bool) (bytes : List ℕ) (fault : WireFault) → (block_by by).Faulty fault bytes → block_by_at by bytes ≡ Err fault
read_faulty by bytes fault faulty = (block_by_decides by).refuses fault bytes faulty

pub read_extra : (by : Bool) (bytes : List ℕ) (x : HasExtra by bytes) → block_by_at by bytes ≡ Ok (x.0, x.1)
read_extra by bytes x = ap (block_by_at by) x.3 ∙ (block_by_decides by).again x.0 x.1 x.2

-- what is spelled is decoded
pub decoded-spelled : (by : Bool) (bytes : List ℕ) (b : Block) → (block_by by).Lawful b → bytes ≡ (block_by by).spell b → block_of_bytes_by by bytes ≡ Some b
decoded-spelled by bytes b lawful e = ap whole_block (read_again by bytes b lawful e)

none_with_more : (b : Block) (rest : List ℕ) → 0 < length rest → unless_more b rest ≡ None
none_with_more b [] lt = absurd (omega (arith, lt))
none_with_more b (x ∷ xs) lt = refl

-- what has a fault isn't
pub decoded-faulty : (by : Bool) (bytes : List ℕ) (e : ReadFault) → FaultyBy by e bytes → block_of_bytes_by by bytes ≡ None
decoded-faulty by bytes faults.Short h = ap whole_block (read_faulty by bytes wire.Short h)
decoded-faulty by bytes faults.LongForm h = ap whole_block (read_faulty by bytes wire.LongForm h)
decoded-faulty by bytes faults.TooLarge h = ap whole_block (read_faulty by bytes wire.TooLarge h)
decoded-faulty by bytes faults.Extra h = ap whole_block (read_extra by bytes h) ∙ none_with_more h.0 h.1 h.4
decoded-faulty by bytes faults.Memory h = absurd h
