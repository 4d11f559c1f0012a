use Rattle.std.proofs.Common.{◌≡◌, ℕ, Some, ap, subst, sym, ◌∙◌, arith}
use Rattle.std.proofs.lemmas.Option.{same_Some}
use Rattle.rules.specs.declared.deployment.Deployment.{Deployment}
use Rattle.rules.specs.Deployment.{deployment_named}
use Rattle.rules.specs.Params.{with_height}
use Rattle.journal.specs.Heights.{IsNumber}
use Rattle.journal.proofs.Parts.{at-free, found-parts}
use Rattle.journal.proofs.heights.set_one.Goals as goal

pub returns-clause-reads : goal.returns-clause-reads
returns-clause-reads c deployment n named =
    let at = found-parts 64 c.args.text.now named.name named.digits c.split_once.result c.in_ok-name.name c.in_ok-name.digits c.split_once.ensures.cases (omega arith) named.text_is (at-free named.name deployment named.is_named) c.in_ok-name.was in
    let found : c.in_ok-deployment.deployment ≡ deployment =
    same_Some c.in_ok-deployment.deployment deployment (sym c.in_ok-deployment.was ∙ c.named.ensures ∙ ap deployment_named at.0 ∙ named.is_named) in
    let read : c.in_ok-n.n ≡ n = same_Some c.in_ok-n.n n (c.in_ok-n.ensures.reads n (subst (λ text. IsNumber text n) (sym at.1) named.height_is)) in
    ap Some (c.with.ensures ∙ ap (λ (d : Deployment). with_height c.args.before d c.in_ok-n.n) found ∙ ap (λ (m : ℕ). with_height c.args.before deployment m) read)
