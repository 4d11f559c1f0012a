use Rattle.ripemd.specs.laws.Ripemd160.{of_nothing, of_abc, of_two_blocks}
use Rattle.ripemd.proofs.laws.published_digests.Goals as goal

pub returns-clause-nothing : goal.returns-clause-nothing
returns-clause-nothing c = of_nothing

pub returns-clause-abc : goal.returns-clause-abc
returns-clause-abc c = of_abc

pub returns-clause-longer : goal.returns-clause-longer
returns-clause-longer c = of_two_blocks
