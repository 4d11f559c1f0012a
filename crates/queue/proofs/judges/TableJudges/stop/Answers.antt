use Rattle.queue.proofs.Walks.{none_unknown}
use Rattle.queue.proofs.judges.TableJudges.stop.Goals as goal

pub unreachable-requires : goal.unreachable-requires
unreachable-requires c = none_unknown c.args.self.now c.args._wants.items c.requires.some c.requires.unknown
