-- A push of bytes fails for one reason alone.
use Rattle.std.specs.Prelude.{if◌then◌else◌}
use Rattle.std.proofs.Common.{◌≡◌, ℕ, ◌≤◌, List, Bool, true, false, Option, nat_lt, length, sym, ap, arith}
use Rattle.signatures.specs.Known.{Known}
use Rattle.interp.specs.Running.{Running}
use Rattle.interp.specs.Stack.{Bytes}
use Rattle.interp.specs.State.{State, is_executing}
use Rattle.interp.specs.Answer.{Answer, Says}
use Rattle.interp.specs.Effects.{push}
use Rattle.interp.specs.Row.{Row, disabled, changes, push_row}
use Rattle.interp.specs.Rules.{skipped}
use Rattle.interp.specs.Failures.{name_at}
use Rattle.interp.specs.computed.Step.{after_executing, after_acting}
use Rattle.interp.specs.computed.NamedFailures.{named, or_else, executed, acted}
use Rattle.interp.specs.declared.script_error.ScriptError.TheVariants.{PushSize}
use Rattle.interp.proofs.OpcodeNames.{name_00}

-- the row of a push that is too long, or isn't
abbrev row : Bool → Bytes → Row
row long bytes = if long then disabled else changes (push bytes)

module _ (known : Known) (r : Running) (after : List ℕ) (number : ℕ) (bytes : Bytes) (s : State) (is : PushSize ≡ name_at number s.main s.count) where
  abbrev after_row : Bool → Bool → Answer (Option State)
  after_row long taken = if taken then after_executing known r after (row long bytes) s else Says (skipped (row long bytes) s)

  by : (long taken : Bool) → (if taken then executed known r after number (row long bytes) s else or_else (name_at number s.main s.count) (skipped (row long bytes) s)) ≡ named PushSize (after_row long taken)
  by true true = ap (λ n. named n (after_row true true)) (sym is)
  by true false = ap (λ n. named n (after_row true false)) (sym is)
  by false true = ap (λ n. named n (after_row false true)) (sym is)
  by false false = ap (λ n. named n (after_row false false)) (sym is)

pub push-named : (known : Known) (r : Running) (after : List ℕ) (number : ℕ) (bytes : Bytes) (s : State) → number ≤ 0x4e → acted known r after number (push_row bytes) s ≡ named PushSize (after_acting known r after (push_row bytes) s)
unfolding acted after_acting push_row
push-named known r after number bytes s below = by known r after number bytes s (name_00 number s.main s.count (omega arith) below) (nat_lt 520 (length bytes)) (is_executing s)
