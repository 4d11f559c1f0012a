use Rattle.std.proofs.Common.{[]}
use Rattle.histories.specs.laws.Reorganisations.{coin_same, taken_back}
use Rattle.histories.proofs.laws.a_coin_is_the_same_until_its_block_is_taken_back.Goals as goal

pub returns : goal.returns
returns c = record {
  same = λ params valid es later outpoint coin n made read below o free. coin_same params valid es later outpoint n made below coin read o free;
  taken_back = λ params valid es later n made x below gone os ot. taken_back params valid es later (record { id = record { 0 = [] }; index = 0 }) n made below gone x os ot;
}
