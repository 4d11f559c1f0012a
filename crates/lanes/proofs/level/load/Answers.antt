use Rattle.lanes.proofs.Cases.{below_16}
use Rattle.lanes.proofs.level.load.Goals as goal

pub returns : goal.returns
returns c = record {
  len = c.words.ensures.len;
  value = λ l lt. below_16 _ (c.words.ensures.value l lt) (c.words-2.ensures.value l lt) (c.words-3.ensures.value l lt) (c.words-4.ensures.value l lt) (c.words-5.ensures.value l lt) (c.words-6.ensures.value l lt) (c.words-7.ensures.value l lt) (c.words-8.ensures.value l lt) (c.words-9.ensures.value l lt) (c.words-10.ensures.value l lt) (c.words-11.ensures.value l lt) (c.words-12.ensures.value l lt) (c.words-13.ensures.value l lt) (c.words-14.ensures.value l lt) (c.words-15.ensures.value l lt) (c.words-16.ensures.value l lt);
}
