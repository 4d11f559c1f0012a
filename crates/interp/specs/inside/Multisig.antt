-- CHECKMULTISIG's elements, by their places on the stack.
use Rattle.std.specs.Prelude.{ℕ, ◌+◌, List, [], ◌∷◌, length, take, drop, Bool, Option, Some, None, option_and_then, nat_lt, if◌then◌else◌}
use Rattle.std.specs.Option.{option_map}
use Rattle.signatures.specs.Known.{Known}
use Rattle.interp.specs.Limits.{max_ops, max_keys, max_number_size}
use Rattle.interp.specs.Answer.{Answer, answer_map}
use Rattle.interp.specs.Running.{Running, code_with}
use Rattle.interp.specs.Stack.{Stack, Bytes, nth}
use Rattle.interp.specs.Elements.{truth_bytes, natural_of}
use Rattle.interp.specs.State.{State}
use Rattle.interp.specs.Effects.{◌>>=◌}
use Rattle.interp.specs.computed.Signatures.{pairs_verdict}

-- a number on top, from 0 to so many
unfoldable pub many : ℕ → Stack → Option ℕ
many most [] = None
many most (a ∷ rest) = option_and_then (λ n. if nat_lt most n then None else Some n) (natural_of max_number_size a)

-- where there are so many keys and so many signatures
abbrev pub keys_in : ℕ → Stack → List Bytes
keys_in keys s = take keys (drop 1 s)

abbrev pub signatures_in : ℕ → ℕ → Stack → List Bytes
signatures_in keys signatures s = take signatures (drop (keys + 2) s)

-- and the element more
abbrev pub dummy_in : ℕ × ℕ → Stack → Bytes
dummy_in counts s = nth s (counts.0 + counts.1 + 2)

-- how many there are
unfoldable pub counts_of : State → Option (ℕ × ℕ)
counts_of s = do
  keys ← many max_keys s.main
  signatures ← many keys (drop (keys + 1) s.main)
  if nat_lt (length s.main) (keys + signatures + 3) then None else (if nat_lt max_ops (s.count + keys) then None else Some (keys, signatures))

abbrev pub multisig_answer : Known → Running → List ℕ → Stack → ℕ × ℕ → Answer (Option Bool)
multisig_answer known r code s counts =
    pairs_verdict known r (code_with r.value code (signatures_in counts.0 counts.1 s)) (signatures_in counts.0 counts.1 s) (keys_in counts.0 s)

abbrev pub after_counts : Known → Running → State → ℕ × ℕ → Answer (Option State)
after_counts known r s counts =
    answer_map (option_map (λ valid. record s { main = truth_bytes valid ∷ drop (counts.0 + counts.1 + 3) s.main; count = s.count + counts.0 })) (multisig_answer known r s.code s.main counts)
