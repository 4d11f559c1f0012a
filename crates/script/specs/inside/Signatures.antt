-- Which bytes count signature operations where they are opcodes.
use Rattle.std.specs.Prelude.{ℕ, Bool, ◌&&◌, nat_le}

-- CHECKSIG, CHECKSIGVERIFY, CHECKMULTISIG and CHECKMULTISIGVERIFY
abbrev pub is_check : ℕ → Bool
is_check byte = nat_le 0xac byte && nat_le byte 0xaf
