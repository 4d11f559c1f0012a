use Rattle.std.proofs.Common.{rules}
use Rattle.std.proofs.lemmas.Fn.{always_returns_same}
use Rattle.signatures.specs.Triple.{triple_cmp}
use Rattle.signatures.proofs.table.place_of.Goals as goal

pub returns-clause-position : goal.returns-clause-position
returns-clause-position c =
    c.binary_search_by.ensures.position (λ e. triple_cmp e c.args.triple.now) (always_returns_same _ _ _ (λ a r f called. search rules))
