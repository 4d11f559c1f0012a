use Rattle.view.specs.laws.Exact.{only_grows}
use Rattle.view.proofs.laws.what_is_published_only_grows.Goals as goal

pub returns : goal.returns
returns c = only_grows
