-- The row that the code's name of an opcode stands for.
use Rattle.std.specs.Prelude.{[], ◌∷◌, true, false, Option}
use Rattle.interp.specs.Timelocks.{locks_until, locks_for}
use Rattle.interp.specs.Stack.{Stack}
use Rattle.interp.specs.Effects.{push, moves, verify, if_dup, size, equal_bytes, digest, depth, one_number, two_numbers, within, pick, roll, to_alt, from_alt, branch, untaken_branch, turn, close}
use Rattle.interp.specs.Row.{Row, Check}
use Rattle.interp.specs.Row as row
use Rattle.interp.specs.computed.Groups.{move_of, unary_of, binary_of, hash_of}
use Rattle.interp.specs.declared.changes.Change.{Change}
use Rattle.interp.specs.declared.changes.Change.TheVariants.{MinusOne, Small, Move, Verify, IfDup, Size, Hash, Unary, Binary, Within, Depth, Pick, Roll}
use Rattle.interp.specs.declared.numbers.Binary.TheVariants.{NumEqual as SameNumber}
use Rattle.interp.specs.declared.op.Test.{Test}
use Rattle.interp.specs.declared.op.Test.TheVariants.{Equal, NumEqual, CheckSig, CheckMultisig}
use Rattle.interp.specs.declared.op.Op.{Op}
use Rattle.interp.specs.declared.op.Op.TheVariants as op

abbrev pub change_of : Change → Stack → Option Stack
change_of MinusOne = push (0x81 ∷ [])
change_of (Small n) = push (n ∷ [])
change_of (Move m) = moves (move_of m).0 (move_of m).1
change_of Verify = verify
change_of IfDup = if_dup
change_of Size = size
change_of (Hash h) = digest (hash_of h)
change_of (Unary u) = one_number (unary_of u)
change_of (Binary b) = two_numbers (binary_of b)
change_of Within = within
change_of Depth = depth
change_of Pick = pick
change_of Roll = roll

abbrev pub check_of : Test → Check
check_of Equal = row.Of equal_bytes
check_of NumEqual = row.Of (two_numbers (binary_of SameNumber))
check_of CheckSig = row.Sig
check_of CheckMultisig = row.Multisig

abbrev pub meaning : Op → Row
meaning op.Disabled = row.disabled
meaning op.Fails = row.fails
meaning op.Nothing = row.nothing
meaning (op.Change c) = row.changes (change_of c)
meaning (op.Test t) = row.Tests (check_of t)
meaning (op.TestVerify t) = row.AndVerifies (check_of t)
meaning op.If = row.Controls (branch true) untaken_branch
meaning op.NotIf = row.Controls (branch false) untaken_branch
meaning op.Else = row.Controls turn turn
meaning op.EndIf = row.Controls close close
meaning op.ToAlt = row.Does to_alt
meaning op.FromAlt = row.Does from_alt
meaning op.CodeSeparator = row.Separates
meaning op.LockTime = row.Asks (λ flags. flags.cltv) locks_until
meaning op.Sequence = row.Asks (λ flags. flags.csv) locks_for
