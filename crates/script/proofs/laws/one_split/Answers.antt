use Rattle.script.specs.laws.Ops.{splits, alone}
use Rattle.script.specs.laws.CutShort.{rest-cut_short}
use Rattle.script.proofs.laws.one_split.Goals as goal

pub returns-clause-splits : goal.returns-clause-splits
returns-clause-splits c = splits

pub returns-clause-cut : goal.returns-clause-cut
returns-clause-cut c = rest-cut_short

pub returns-clause-alone : goal.returns-clause-alone
returns-clause-alone c = λ script list left. alone script left list
