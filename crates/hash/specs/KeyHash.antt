-- The hash that names public keys and scripts.
use Rattle.std.specs.Prelude.{ℕ, List}
use Rattle.sha2.specs.Sha256.{sha256}
use Rattle.ripemd.specs.Ripemd160.{ripemd160}

-- RIPEMD-160 of the SHA-256 of a message
abbrev pub hash160 : List ℕ → List ℕ
hash160 message = ripemd160 (sha256 message)
