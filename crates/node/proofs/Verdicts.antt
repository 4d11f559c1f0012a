-- Verdicts that are taken down one after the other.
use Rattle.std.proofs.Common.{◌≡◌, Bool, List, [], ◌∷◌, ◌++◌, Ok, refl, subst, ◌∙◌}
use Rattle.signatures.specs.Triple.{Triple}
use Rattle.node.specs.declared.answer.Learning.{Learning}
use Rattle.node.specs.declared.answer.Learning.TheVariants as learning
use Rattle.node.specs.declared.answer.Stamped.{Stamped}
use Rattle.node.specs.Pass.{Pass, IsLater}
use Rattle.node.specs.Runs.{Ensures, Learns, Learn}
use Rattle.node.proofs.OwnEntries.{begins_whole}

-- one verdict more
pub learns_one : (p : Pass) (ts : List Triple) (valid : Bool) (q : Pass) (t : Triple) (r : Stamped Learning) (z : Pass) → Learns p ts valid q → Ensures q z (Learn t valid (Ok r)) → (r.value ≡ learning.Contradicted → ⊥)
    → Learns p (ts ++ t ∷ []) valid z
learns_one p [] valid q t r z is one ne = (z, (r, subst (λ (s : Pass). Ensures s z (Learn t valid (Ok r))) is one, ne), refl)
learns_one p (u ∷ ts) valid q t r z more one ne = (more.0, more.1, learns_one more.0 ts valid q t r z more.2 one ne)

-- what is later than what is later is later
pub later_still : (p q r : Pass) → IsLater p q → IsLater q r → IsLater p r
later_still p q r first then = record {
  number = then.number ∙ first.number;
  origin = then.origin ∙ first.origin;
  grows = begins_whole p.seen q.seen r.seen first.grows then.grows;
  legal = then.legal;
}
