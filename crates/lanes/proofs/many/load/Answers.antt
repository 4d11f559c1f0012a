use Rattle.lanes.proofs.Cases.{below_16}
use Rattle.lanes.proofs.many.load.Goals as goal

pub returns : goal.returns
returns c = λ l lt. below_16 _ (c.words.ensures l lt) (c.words-2.ensures l lt) (c.words-3.ensures l lt) (c.words-4.ensures l lt) (c.words-5.ensures l lt) (c.words-6.ensures l lt) (c.words-7.ensures l lt) (c.words-8.ensures l lt) (c.words-9.ensures l lt) (c.words-10.ensures l lt) (c.words-11.ensures l lt) (c.words-12.ensures l lt) (c.words-13.ensures l lt) (c.words-14.ensures l lt) (c.words-15.ensures l lt) (c.words-16.ensures l lt)
