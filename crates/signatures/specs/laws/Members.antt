-- A set of triples is given by its members.
use Rattle.std.specs.Prelude.{◌≡◌}
use Rattle.std.specs.FinSet as set
use Rattle.signatures.specs.Triple.{Triple, Triples}
use Rattle.signatures.specs.laws.Order.{triple_cmp-total, triple_cmp-exact}

pub same-members : (a b : Triples) → ((t : Triple) → set.contains a t ≡ set.contains b t) → a ≡ b
same-members a b same = set.same_set triple_cmp-total triple_cmp-exact a b same
