-- A rule of scripts at both sides of its height.
use Rattle.std.specs.Prelude.{◌≡◌, ℕ, [], ◌∷◌, Option, Some, None, refl}
use Rattle.txn.specs.Tx.{Tx}
use Rattle.script.specs.Num.{operand, num_value}
use Rattle.script.specs.Op.{pushed_of}
use Rattle.script.specs.Ops.{ops, operand_len, rest}
use Rattle.signatures.specs.Known.{Known}
use Rattle.interp.specs.Answer.{Answer, Says}
use Rattle.interp.specs.Question.{question}
use Rattle.interp.specs.Running.{base}
use Rattle.interp.specs.Row.{row_at, row_of, push_row}
use Rattle.interp.specs.Rules.{multisig_of, with_count}
use Rattle.interp.specs.Stack.{Stack}
use Rattle.interp.specs.computed.Signatures.{may_be_dummy, pairs_verdict}
use Rattle.interp.specs.computed.Step.{after_multisig, after_dummy, after_acting, within_bounds, step_at, step, run, outcome}
use Rattle.rules.specs.Params.{regtest, with_height, at}
use Rattle.rules.specs.declared.params.Params.{Params}
use Rattle.rules.specs.declared.deployment.Deployment.TheVariants.{NullDummy}
use Rattle.connect.specs.Scripts.{flags_of}

-- BIP 147 from height 432 on
abbrev from_432 : Params
from_432 = with_height regtest NullDummy 432

-- no signature of no key, and 1 as the element more, in a block at this height
abbrev one_below : Known → Tx → Params → ℕ → Answer (Option Stack)
one_below known tx params height = outcome known (base (question tx 0 [] (flags_of (at params height)))) (0x51 ∷ 0x00 ∷ 0x00 ∷ 0xae ∷ []) []

before_its_height : (known : Known) (tx : Tx) → one_below known tx from_432 431 ≡ Says (Some ((1 ∷ []) ∷ []))
unfolding pushed_of operand_len ops rest row_at row_of push_row after_acting with_count within_bounds step_at step run outcome operand num_value pairs_verdict multisig_of after_multisig may_be_dummy after_dummy
before_its_height known tx = refl

at_its_height : (known : Known) (tx : Tx) → one_below known tx from_432 432 ≡ Says None
unfolding pushed_of operand_len ops rest row_at row_of push_row after_acting with_count within_bounds step_at step run outcome operand num_value pairs_verdict multisig_of after_multisig may_be_dummy after_dummy
at_its_height known tx = refl

-- by default never
never : (known : Known) (tx : Tx) → one_below known tx regtest 1000000 ≡ Says (Some ((1 ∷ []) ∷ []))
unfolding pushed_of operand_len ops rest row_at row_of push_row after_acting with_count within_bounds step_at step run outcome operand num_value pairs_verdict multisig_of after_multisig may_be_dummy after_dummy
never known tx = refl
