use Rattle.std.specs.Prelude.{IfOk, codes}
use Rattle.std.proofs.Common.{subst, sym}
use Rattle.json.specs.Json.{Members, object, no_members, member}
use Rattle.server.specs.inside.Answers.{IsReadLine, TellsRead, output_answer}
use Rattle.server.proofs.answers.found.Goals as goal

pub returns-in-Some : goal.returns-in-Some
returns-in-Some c =
    let told = subst (λ (ms : Members). IfOk c.read.result (λ line. IsReadLine c.args.blank c.in-Ok.field-0.at (member (codes "answer") (object ms) no_members) line.items))
    c.output_of.ensures c.read.ensures in
    subst (λ r. IfOk c.read.result (λ line. TellsRead output_answer c.args.blank r line.items)) (sym c.in-Ok.is)
    (subst (λ v. IfOk c.read.result (λ line. IsReadLine c.args.blank c.in-Ok.field-0.at (output_answer v) line.items)) (sym c.in-Some.is) told)
