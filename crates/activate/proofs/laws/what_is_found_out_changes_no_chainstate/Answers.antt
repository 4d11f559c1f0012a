use Rattle.signatures.specs.laws.Growth.{agrees-with-less}
use Rattle.activate.proofs.laws.what_is_found_out_changes_no_chainstate.Goals as goal

pub returns : goal.returns
returns c chain before after grows was triples agrees = was triples (agrees-with-less before after grows triples agrees)
