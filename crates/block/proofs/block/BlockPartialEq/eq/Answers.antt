use Rattle.std.proofs.Common.{rules, ◌≡◌}
use Rattle.block.specs.Equality.{same_block}
use Rattle.block.specs.laws.Equality.{same_block-decides}
use Rattle.block.proofs.block.BlockPartialEq.eq.Goals as goal

pub returns-then-eq-clause-equal : goal.returns-then-eq-clause-equal
returns-then-eq-clause-equal c =
    let fields : c.eq-then-eq.result ≡ same_block c.args.self.now c.args.other.now = search rules in
    rw fields (same_block-decides c.args.self.now c.args.other.now)
