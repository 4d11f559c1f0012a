use Rattle.view.specs.laws.Exact.{opening_exact}
use Rattle.view.proofs.laws.the_opening_view_is_exact.Goals as goal

pub returns : goal.returns
returns c = opening_exact
