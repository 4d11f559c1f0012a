use Rattle.std.proofs.Common.{sym, arith}
use Rattle.block.proofs.Tree.{root_none, root_first}
use Rattle.block.proofs.root.last.Goals as goal

pub returns-in-empty : goal.returns-in-empty
returns-in-empty c = sym (root_none c.args.level.now (let h = c.in-empty in omega arith))

pub returns-in-len1-up : goal.returns-in-len1-up
returns-in-len1-up c = root_first c.args.level.now _ c.requires c.in-len1-up.len_at_least
