-- What is reported about a header by itself.
use Rattle.std.specs.Prelude.{◌≡◌, ℕ, ◌<◌, ◌⊎◌, List, length}
use Rattle.block.specs.declared.header.Header.{Header}
use Rattle.block.specs.Grammar.{header}
use Rattle.block.specs.Identity.{id_of}
use Rattle.ffi.specs.declared.shown.HeaderRow.{HeaderRow}

-- its id, and its fields
abbrev pub header_row : Header → HeaderRow
header_row h = record {
  id = record { bytes = (id_of h).0 };
  parent = record { bytes = h.prev.0 };
  root = record { bytes = h.root.0 };
  version = h.version;
  time = h.time;
  bits = h.bits;
  nonce = h.nonce;
}

-- the bytes are a header, which is reported; or they are fewer, or more, and nothing is written
abbrev pub IsHeaderTold : List ℕ → HeaderRow → HeaderRow → ℕ → Type 0
IsHeaderTold bytes before shown result =
    ((h : Header) × header.Lawful h × (bytes ≡ header.spell h) × (result ≡ 0) × (shown ≡ header_row h))
    ⊎ (((length bytes < 80) × (result ≡ 20) × (shown ≡ before))
    ⊎ ((80 < length bytes) × (result ≡ 23) × (shown ≡ before)))
