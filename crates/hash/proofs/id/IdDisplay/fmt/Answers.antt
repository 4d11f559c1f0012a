use Rattle.std.proofs.Common.{rules, ℕ, ◌<◌, List, [], ◌∷◌, reverse, ◌≡◌, ◌&&◌, true, refl, Bool, nat_lt}
use Rattle.std.proofs.lemmas.Bool.{and_parts}
use Rattle.std.proofs.lemmas.Str.{IsUtf8-from_ascii}
use Rattle.std.proofs.lemmas.Str.Ascii.{IsAscii-nil, IsAscii-cons}
use Rattle.std.specs.List.{AllByRecursion}
use Rattle.std.specs.Str.{IsAscii, IsUtf8}
use Rattle.hex.specs.Hex.{lower_digits}
use Rattle.hex.proofs.HexLemmas.{IsAscii-encode_with}
use Rattle.hash.specs.Id.{hex_of_id}
use Rattle.hash.proofs.id.IdDisplay.fmt.Goals as goal

ascii : (bytes : List ℕ) → AllByRecursion (λ byte. byte < 128) bytes → IsAscii bytes
ascii [] all = IsAscii-nil
ascii (byte ∷ bytes) all = IsAscii-cons byte bytes all.0 (ascii bytes all.1)

digits-are_ascii : IsAscii lower_digits
digits-are_ascii = ascii lower_digits (search rules)

-- hexadecimal digits are ASCII
pub unreachable-requires : goal.unreachable-requires
unreachable-requires g c =
    let text = IsUtf8-from_ascii _ (IsAscii-encode_with lower_digits (reverse c.args.self.now.0) digits-are_ascii) in
    c.in_default.ensures.cases.0 (rw c.show-digits.ensures text)
