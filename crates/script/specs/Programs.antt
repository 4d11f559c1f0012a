-- Witness programs, and the signature operations of their witnesses (BIP 141).
use Rattle.std.specs.Prelude.{ℕ, ◌-◌, ◌==◌, List, ◌∷◌, length, Bool, true, false, not, ◌&&◌, nat_le, if◌then◌else◌, Option, Some, None}
use Rattle.std.specs.Option.{option_map, option_map_or, option_or}
use Rattle.std.specs.Str.{bytes_eq}
use Rattle.script.specs.declared.signatures.Counting.TheVariants.{Accurate}
use Rattle.script.specs.Kinds.{is_push_only, is_p2sh}
use Rattle.script.specs.Signatures.{sigops, last_pushed}

pub record Program : Type 0 where
  pub version : ℕ
  pub bytes : List ℕ

-- OP_0, or OP_1 to OP_16
abbrev pub version_named : ℕ → Option ℕ
version_named number =
    if number == 0 then Some 0 else (if nat_le 0x51 number && nat_le number 0x60 then Some (number - 0x50) else None)

-- a version, and one push of 2 to 40 bytes (`IsWitnessProgram`)
unfoldable pub program_of : List ℕ → Option Program
program_of (number ∷ len ∷ bytes) =
    if nat_le 2 len && nat_le len 40 && (length bytes == len)
    then option_map (λ version. record { version = version; bytes = bytes }) (version_named number)
    else None
program_of script = None

-- the program that an input spends: the spent script itself, or the inner script of BIP 16
pub record SpentProgram : Type 0 where
  pub program : Program
  pub is_nested : Bool
  -- the input script is what it has to be: empty, or the push of the inner script by its length
  pub is_exact : Bool

abbrev pub bare : List ℕ → Program → SpentProgram
bare input program = record { program = program; is_nested = false; is_exact = length input == 0 }

abbrev pub nested : List ℕ → Program → SpentProgram
nested input program = record { program = program; is_nested = true; is_exact = bytes_eq input (length (last_pushed input) ∷ last_pushed input) }

-- of an input script and the script that it spends
unfoldable pub spent_program : List ℕ → List ℕ → Option SpentProgram
spent_program input spent =
    option_or
    (option_map (bare input) (program_of spent))
    (if is_p2sh spent && is_push_only input then option_map (nested input) (program_of (last_pushed input)) else None)

-- version 0 counts 1 for a key's hash, and for a script's hash the operations of the script: the last string of the
-- witness, here without the others (`WitnessSigOps`); other versions count none
abbrev pub program_sigops : List ℕ → Program → ℕ
program_sigops last p =
    if not (p.version == 0) then 0
    else (if length p.bytes == 20 then 1
    else (if length p.bytes == 32 then sigops Accurate last else 0))

-- (`CountWitnessSigOps`)
unfoldable pub witness_sigops : List ℕ → List ℕ → List ℕ → ℕ
witness_sigops input spent last = option_map_or (λ found. program_sigops last found.program) (spent_program input spent) 0
