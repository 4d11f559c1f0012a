use Rattle.std.proofs.Common.{◌≡◌, ◌+◌, ◌-◌, ◌^◌, ◌≤◌, min, ap, ◌∙◌, arith}
use Rattle.connect.specs.BlockContext.{setting}
use Rattle.connect.specs.Turns.{turn, spent_in, plain_count, inner_sigops}
use Rattle.connect.specs.laws.Broken.{UpToLocks, at_locked, at_full}
use Rattle.connect.proofs.Turns.{exact_count, few_counted, many_counted, locked_is}
use Rattle.connect.proofs.turn.test_locks.Goals as goal

pub returns-then-branch-clause-fault : goal.returns-then-branch-clause-fault
returns-then-branch-clause-fault c m n found enough same =
    let s = setting c.args.context.now in
    let locked = locked_is s c.args.tx.now m n found.few c.args.coins.now c.in_ok-is_locked.field-0 found.lent c.in_ok-is_locked.ensures in
    at_locked s (turn c.args.tx.now m n) enough (locked ∙ c.if-branch.true)

pub returns-then-counted-from-clause-fault : goal.returns-then-counted-from-clause-fault
returns-then-counted-from-clause-fault c m n found enough same =
    let s = setting c.args.context.now in
    let tx = c.args.tx.now in
    let t = turn tx m n in
    let locked = locked_is s tx m n found.few c.args.coins.now c.in_ok-is_locked.field-0 found.lent c.in_ok-is_locked.ensures in
    let unlocked : UpToLocks s t = record { amount = enough; unlocked = locked ∙ c.if-branch.false } in
    let inner : c.inner_sigops.result ≡ min (inner_sigops (spent_in t) tx) (2 ^ 128 - 1) = c.inner_sigops.ensures ∙ ap (λ cs. min (inner_sigops cs tx) (2 ^ 128 - 1)) found.lent in
    let few : plain_count t ≤ 20000 = omega (arith, c.requires.few, same) in
    let sum : c.saturating_add-counted.result ≡ min (plain_count t + c.inner_sigops.result) (2 ^ 128 - 1) = c.saturating_add-counted.ensures ∙ ap (λ x. min (x + c.inner_sigops.result) (2 ^ 128 - 1)) same in
    at_full s t unlocked (many_counted (plain_count t) (inner_sigops (spent_in t) tx) c.inner_sigops.result c.saturating_add-counted.result few inner sum (omega (arith, c.from.ensures, c.if-counted-from.true)))

pub returns-clause-count : goal.returns-clause-count
returns-clause-count c m n found enough same =
    let s = setting c.args.context.now in
    let tx = c.args.tx.now in
    let t = turn tx m n in
    let locked = locked_is s tx m n found.few c.args.coins.now c.in_ok-is_locked.field-0 found.lent c.in_ok-is_locked.ensures in
    let unlocked : UpToLocks s t = record { amount = enough; unlocked = locked ∙ c.if-branch.false } in
    let inner : c.inner_sigops.result ≡ min (inner_sigops (spent_in t) tx) (2 ^ 128 - 1) = c.inner_sigops.ensures ∙ ap (λ cs. min (inner_sigops cs tx) (2 ^ 128 - 1)) found.lent in
    let few : plain_count t ≤ 20000 = omega (arith, c.requires.few, same) in
    let sum : c.saturating_add-counted.result ≡ min (plain_count t + c.inner_sigops.result) (2 ^ 128 - 1) = c.saturating_add-counted.ensures ∙ ap (λ x. min (x + c.inner_sigops.result) (2 ^ 128 - 1)) same in
    record { locks = unlocked; few = few_counted (plain_count t) (inner_sigops (spent_in t) tx) c.inner_sigops.result c.saturating_add-counted.result few inner sum (omega (arith, c.from.ensures, c.if-counted-from.false)) }

pub returns-clause-counted : goal.returns-clause-counted
returns-clause-counted c m n found same =
    let tx = c.args.tx.now in
    let t = turn tx m n in
    let inner : c.inner_sigops.result ≡ min (inner_sigops (spent_in t) tx) (2 ^ 128 - 1) = c.inner_sigops.ensures ∙ ap (λ cs. min (inner_sigops cs tx) (2 ^ 128 - 1)) found.lent in
    let few : plain_count t ≤ 20000 = omega (arith, c.requires.few, same) in
    let sum : c.saturating_add-counted.result ≡ min (plain_count t + c.inner_sigops.result) (2 ^ 128 - 1) = c.saturating_add-counted.ensures ∙ ap (λ x. min (x + c.inner_sigops.result) (2 ^ 128 - 1)) same in
    exact_count (plain_count t) (inner_sigops (spent_in t) tx) c.inner_sigops.result c.saturating_add-counted.result few inner sum (omega (arith, c.from.ensures, c.if-counted-from.false))
