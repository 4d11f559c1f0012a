-- The header at the front of bytes, and that of the block which they spell.
use Rattle.std.proofs.Common.{◌≡◌, List, [], ◌∷◌, ℕ, Option, Some, None, Ok, Err, Result, refl, ap, sym, subst}
use Rattle.std.specs.Prelude.{IfOk, IfErr, IsOkAnd, ◌++◌}
use Rattle.std.specs.Option.{unwrap_or}
use Rattle.wire.specs.declared.fault.WireFault.{WireFault}
use Rattle.wire.specs.Grammar.{IsBytes}
use Rattle.wire.specs.computed.Reader.{◌>>=◌, Gives, counted_at}
use Rattle.wire.specs.laws.Reader.{found_law, refused_law}
use Rattle.txn.specs.Tx.{Tx}
use Rattle.txn.specs.computed.Reader.{tx_at}
use Rattle.block.specs.declared.header.Header.{Header}
use Rattle.block.specs.declared.block.Block.{Block}
use Rattle.block.specs.Grammar.{header}
use Rattle.block.specs.BlockOfBytes.{unless_more, whole_block, block_of_bytes}
use Rattle.block.specs.computed.Reader.{header_at, block_by_at}
use Rattle.block.specs.laws.Reader.{header_decides}

abbrev Is : Block → Option Block → Type 0
Is b None = ⊥
Is b (Some x) = x ≡ b

told_alone : (x b : Block) (rest : List ℕ) → unless_more x rest ≡ Some b → x.header ≡ b.header
told_alone x b [] e = ap (λ (o : Option Block). (unwrap_or o x).header) e
told_alone x b (y ∷ ys) e = absurd (subst (Is b) (sym e) refl)

of_txs : (h : Header) (txs : Result (List Tx × List ℕ) WireFault) (b : Block) → whole_block (txs >>= λ t. Ok (record { header = h; txs = t.0 }, t.1)) ≡ Some b → h ≡ b.header
of_txs h (Ok t) b e = told_alone (record { header = h; txs = t.0 }) b t.1 e
of_txs h (Err f) b e = absurd (subst (Is b) (sym e) refl)

of_header : (h : Result (Header × List ℕ) WireFault) (b : Block) → whole_block (h >>= λ x. counted_at tx_at x.1 >>= λ t. Ok (record { header = x.0; txs = t.0 }, t.1)) ≡ Some b → IsOkAnd h (λ x. x.0 ≡ b.header)
of_header (Ok x) b e = of_txs x.0 (counted_at tx_at x.1) b e
of_header (Err f) b e = absurd (subst (Is b) (sym e) refl)

header_of_block : (bytes : List ℕ) (b : Block) → block_of_bytes bytes ≡ Some b → IsOkAnd (header_at bytes) (λ x. x.0 ≡ b.header)
unfolding block_by_at
header_of_block bytes b e = of_header (header_at bytes) b e

pub front_found : (bytes : List ℕ) (result : Result Header WireFault) (rest : List ℕ) → IsBytes bytes → Gives Some result rest (header_at bytes) → IfOk result (λ h. header.Lawful h × ((rest : List ℕ) × (bytes ≡ header.spell h ++ rest)))
front_found bytes (Ok h) rest fits e =
    let f = found_law header header_at header_decides bytes h rest fits e in
    (f.0, (rest, f.1))
front_found bytes (Err fault) rest fits e = tt

pub front_of_block : (bytes : List ℕ) (result : Result Header WireFault) (rest : List ℕ) → Gives Some result rest (header_at bytes) → (b : Block) → block_of_bytes bytes ≡ Some b → IsOkAnd result (λ h. h ≡ b.header)
front_of_block bytes (Ok h) rest e b is = subst (λ (r : Result (Header × List ℕ) WireFault). IsOkAnd r (λ x. x.0 ≡ b.header)) e (header_of_block bytes b is)
front_of_block bytes (Err fault) rest e b is = subst (λ (r : Result (Header × List ℕ) WireFault). IsOkAnd r (λ x. x.0 ≡ b.header)) e (header_of_block bytes b is)

pub front_refused : (bytes : List ℕ) (result : Result Header WireFault) (rest : List ℕ) → IsBytes bytes → Gives Some result rest (header_at bytes) → IfErr result (λ fault. header.Faulty fault bytes)
front_refused bytes (Ok h) rest fits e = tt
front_refused bytes (Err fault) rest fits e = refused_law header header_at header_decides bytes fault fits e
