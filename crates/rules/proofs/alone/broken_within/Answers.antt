use Rattle.std.proofs.Common.{◌≡◌, true, false, nat_lt, sum_by, List, [], ◌∷◌, Some, None, refl, sym, ◌∙◌}
use Rattle.std.specs.List.{flat_map}
use Rattle.txn.specs.declared.reason.Reason.TheVariants as reason
use Rattle.txn.specs.Tx.{Tx}
use Rattle.txn.specs.Check.{tx_rules}
use Rattle.txn.specs.First.{Rules}
use Rattle.rules.specs.Alone.{max_block_sigops, tx_sigops}
use Rattle.rules.proofs.FirstBroken.{among, after}
use Rattle.rules.proofs.alone.broken_within.Goals as goal

abbrev last : List Tx → Rules
last txs = (nat_lt max_block_sigops (sum_by tx_sigops txs), reason.TooManySigops) ∷ []

pub returns-in-Some : goal.returns-in-Some
returns-in-Some c = among (flat_map tx_rules c.args.txs.now) (last c.args.txs.now) c.in-Some.reason (sym c.in-Some.is ∙ c.in_ok-reason.ensures)

pub returns-then-has_many_sigops : goal.returns-then-has_many_sigops
returns-then-has_many_sigops c =
    let many : nat_lt max_block_sigops (sum_by tx_sigops c.args.txs.now) ≡ true = sym c.has_many_sigops.ensures ∙ c.if-has_many_sigops.true in
    after (flat_map tx_rules c.args.txs.now) (last c.args.txs.now) (Some reason.TooManySigops) (sym c.in_default.is ∙ c.in_ok-reason.ensures) (rw many refl)

pub returns : goal.returns
returns c =
    let few : nat_lt max_block_sigops (sum_by tx_sigops c.args.txs.now) ≡ false = sym c.has_many_sigops.ensures ∙ c.if-has_many_sigops.false in
    after (flat_map tx_rules c.args.txs.now) (last c.args.txs.now) None (sym c.in_default.is ∙ c.in_ok-reason.ensures) (rw few refl)
