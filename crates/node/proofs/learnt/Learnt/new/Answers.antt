use Rattle.std.proofs.Common.{◌≡◌, true, false, cond, Some, None, ap, sym, ◌∙◌}
use Rattle.std.specs.FinSet as set
use Rattle.signatures.specs.Known.{Verdicts, verdict_in}
use Rattle.signatures.specs.Triple.{triple_cmp}
use Rattle.node.proofs.learnt.Learnt.new.Goals as goal

pub invariant_of-result : goal.invariant_of-result
invariant_of-result g c = record {
  book_is = c.requires.book;
  known = λ t valid is.
      let none : verdict_in (record { valid = set.empty; invalid = set.empty }) t ≡ None = ap (λ b. cond b (Some true) (cond b (Some false) None)) (set.contains-empty triple_cmp t) in
      let both : None ≡ Some valid = sym none ∙ sym (ap (λ (found : Verdicts). verdict_in found t) c.new.ensures) ∙ is in
      cc both;
}
