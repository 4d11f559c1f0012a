use Rattle.view.specs.laws.Exact.{all_exact}
use Rattle.view.proofs.laws.publications_keep_a_view_exact.Goals as goal

pub returns : goal.returns
returns c = all_exact
