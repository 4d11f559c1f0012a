use Rattle.std.proofs.Common.{ap, subst, sym}
use Rattle.std.specs.Prelude.{Option}
use Rattle.signatures.specs.Known.{Agrees}
use Rattle.signatures.specs.Triple.{Triples}
use Rattle.std.specs.Prelude.{◌↔◌, ◌≡◌}
use Rattle.model.specs.Learnt.{found_in, known_by}
use Rattle.model.specs.laws.Learnt.{table_only}
use Rattle.histories.proofs.laws.with_a_table_one_set_agrees.Goals as goal

pub returns : goal.returns
returns c = λ o table valid es is.
    subst (λ (t : Option Triples). Agrees (known_by t (found_in es)) valid ↔ valid ≡ table) (sym is) (table_only table (found_in es) valid)
