-- What a running script looks at beside its stacks, and what its signatures sign (Bitcoin Core's `SigVersion`).
use Rattle.std.specs.Prelude.{ℕ, ℤ, List, Option, Some, None}
use Rattle.txn.specs.Tx.{Tx}
use Rattle.sighash.specs.Digest.{digest_of}
use Rattle.sighash.specs.WitnessDigest.{witness_digest_of}
use Rattle.interp.specs.Stack.{Bytes}
use Rattle.interp.specs.Question.{Question}
use Rattle.interp.specs.Signatures.{signed_code}
use Rattle.interp.specs.declared.flags.Flags.{Flags}

pub record Running : Type 0 where
  pub tx : Tx
  pub input : ℕ
  pub flags : Flags
  -- the value that is spent, which a witness program's signatures sign (BIP 143); none in the scripts of before
  pub value : Option ℤ

-- the scripts of before
abbrev pub base : Question → Running
base q = record { tx = q.tx; input = q.input; flags = q.flags; value = None }

-- what a signature of this type signs
abbrev pub digest_with : Option ℤ → Tx → ℕ → List ℕ → ℕ → List ℕ
digest_with None tx input code kind = digest_of tx input code kind
digest_with (Some value) tx input code kind = witness_digest_of tx input code value kind

-- the code as these signatures sign it: BIP 143 takes nothing out of it
abbrev pub code_with : Option ℤ → List ℕ → List Bytes → List ℕ
code_with None code signatures = signed_code code signatures
code_with (Some value) code signatures = code
