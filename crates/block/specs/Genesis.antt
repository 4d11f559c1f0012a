-- The genesis block of regtest (Bitcoin Core's `CreateGenesisBlock`).
use Rattle.std.specs.Prelude.{◌++◌, ℕ, List, [], ◌∷◌, length, pos, codes, replicate, reverse}
use Rattle.hash.specs.declared.id.Id.{Id}
use Rattle.txn.specs.Tx.{Tx}
use Rattle.txn.specs.Coinbase.{null}
use Rattle.block.specs.declared.header.Header.{Header}
use Rattle.block.specs.declared.block.Block.{Block}

-- the title of that day's newspaper
abbrev pub headline : List ℕ
headline = codes "The Times 03/Jan/2009 Chancellor on brink of second bailout for banks"

-- pushes of the number 486604799 (the bits 1d00ffff), of the number 4, and of the headline
abbrev pub input_script : List ℕ
input_script = 4 ∷ 0xff ∷ 0xff ∷ 0x00 ∷ 0x1d ∷ 1 ∷ 4 ∷ length headline ∷ headline

-- a public key of 65 bytes, not compressed
abbrev pub key : List ℕ
key =
    0x04 ∷ 0x67 ∷ 0x8a ∷ 0xfd ∷ 0xb0 ∷ 0xfe ∷ 0x55 ∷ 0x48 ∷ 0x27 ∷ 0x19 ∷ 0x67 ∷ 0xf1 ∷ 0xa6
    ∷ 0x71 ∷ 0x30 ∷ 0xb7 ∷ 0x10 ∷ 0x5c ∷ 0xd6 ∷ 0xa8 ∷ 0x28 ∷ 0xe0 ∷ 0x39 ∷ 0x09 ∷ 0xa6 ∷ 0x79
    ∷ 0x62 ∷ 0xe0 ∷ 0xea ∷ 0x1f ∷ 0x61 ∷ 0xde ∷ 0xb6 ∷ 0x49 ∷ 0xf6 ∷ 0xbc ∷ 0x3f ∷ 0x4c ∷ 0xef
    ∷ 0x38 ∷ 0xc4 ∷ 0xf3 ∷ 0x55 ∷ 0x04 ∷ 0xe5 ∷ 0x1e ∷ 0xc1 ∷ 0x12 ∷ 0xde ∷ 0x5c ∷ 0x38 ∷ 0x4d
    ∷ 0xf7 ∷ 0xba ∷ 0x0b ∷ 0x8d ∷ 0x57 ∷ 0x8a ∷ 0x4c ∷ 0x70 ∷ 0x2b ∷ 0x6b ∷ 0xf1 ∷ 0x1d ∷ 0x5f
    ∷ []

-- 50 bitcoin to whoever signs for the key: its push, and CHECKSIG
abbrev pub coinbase : Tx
coinbase = record {
  version = pos 1;
  inputs = record { prev = null; script = input_script; sequence = 0xffffffff } ∷ [];
  outputs = record { value = pos 5000000000; script = (65 ∷ key) ++ 0xac ∷ [] } ∷ [];
  lock_time = 0;
  witnesses = [];
}

-- the coinbase's id, and the Merkle root, in the order in which ids are printed
abbrev pub printed_root : List ℕ
printed_root =
    0x4a ∷ 0x5e ∷ 0x1e ∷ 0x4b ∷ 0xaa ∷ 0xb8 ∷ 0x9f ∷ 0x3a ∷ 0x32 ∷ 0x51 ∷ 0x8a ∷ 0x88 ∷ 0xc3 ∷ 0x1b ∷ 0xc8 ∷ 0x7f
    ∷ 0x61 ∷ 0x8f ∷ 0x76 ∷ 0x67 ∷ 0x3e ∷ 0x2c ∷ 0xc7 ∷ 0x7a ∷ 0xb2 ∷ 0x12 ∷ 0x7b ∷ 0x7a ∷ 0xfd ∷ 0xed ∷ 0xa3 ∷ 0x3b
    ∷ []

-- the block's id, in that order
abbrev pub printed_id : List ℕ
printed_id =
    0x0f ∷ 0x91 ∷ 0x88 ∷ 0xf1 ∷ 0x3c ∷ 0xb7 ∷ 0xb2 ∷ 0xc7 ∷ 0x1f ∷ 0x2a ∷ 0x33 ∷ 0x5e ∷ 0x3a ∷ 0x4f ∷ 0xc3 ∷ 0x28
    ∷ 0xbf ∷ 0x5b ∷ 0xeb ∷ 0x43 ∷ 0x60 ∷ 0x12 ∷ 0xaf ∷ 0xca ∷ 0x59 ∷ 0x0b ∷ 0x1a ∷ 0x11 ∷ 0x46 ∷ 0x6e ∷ 0x22 ∷ 0x06
    ∷ []

abbrev pub root : Id
root = record { 0 = reverse printed_root }

abbrev pub id : Id
id = record { 0 = reverse printed_id }

-- no parent, and the time 2 February 2011, 23:16:42 UTC
abbrev pub header : Header
header = record {
  version = pos 1;
  prev = record { 0 = replicate 32 0 };
  root = root;
  time = 1296688602;
  bits = 0x207fffff;
  nonce = 2;
}

abbrev pub genesis : Block
genesis = record { header = header; txs = coinbase ∷ [] }
