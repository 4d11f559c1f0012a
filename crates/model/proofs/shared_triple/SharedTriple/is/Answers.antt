use Rattle.std.proofs.Common.{rules, ◌≡◌, true, ap, sym, ◌∙◌}
use Rattle.std.proofs.lemmas.Cmp.{tied_itself}
use Rattle.std.specs.Ordering.{is_eq}
use Rattle.signatures.specs.Triple.{triple_cmp}
use Rattle.signatures.specs.laws.Growth.{one-same}
use Rattle.signatures.specs.laws.Order.{triple_cmp-total}
use Rattle.model.proofs.shared_triple.SharedTriple.is.Goals as goal

pub returns : goal.returns
returns c =
    let a = c.args.self.now in
    let b = c.args.other.now in
    let same : c.is_eq.result ≡ is_eq (triple_cmp a b) = search rules in
    (λ yes. one-same a b (sym same ∙ yes), λ e. same ∙ ap (λ t. is_eq (triple_cmp a t)) (sym e) ∙ ap is_eq (tied_itself triple_cmp-total a))
