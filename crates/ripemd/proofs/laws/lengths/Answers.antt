use Rattle.ripemd.specs.laws.Ripemd160.{zeros_reach, padded_in_blocks, length-ripemd160}
use Rattle.ripemd.proofs.laws.lengths.Goals as goal

pub returns-clause-zeros : goal.returns-clause-zeros
returns-clause-zeros c = zeros_reach

pub returns-clause-padded : goal.returns-clause-padded
returns-clause-padded c = padded_in_blocks

pub returns-clause-digest : goal.returns-clause-digest
returns-clause-digest c = length-ripemd160
