use Rattle.std.proofs.Common.{◌≡◌, Bool, true, false, refl, sym, ap, ◌∙◌}
use Rattle.std.specs.FinSet as set
use Rattle.signatures.specs.Triple.{Triples}
use Rattle.signatures.specs.laws.Members.{same-members}
use Rattle.signatures.proofs.table.Table.same.Goals as goal

-- what is `true` exactly where something else is
one_truth : (a b : Bool) → (a ≡ true → b ≡ true) → (b ≡ true → a ≡ true) → a ≡ b
one_truth true b ab ba = sym (ab refl)
one_truth false true ab ba = ba refl
one_truth false false ab ba = refl

pub returns-then-is_within : goal.returns-then-is_within
returns-then-is_within c =
    let a : Triples = c.args.self.now in
    let b : Triples = c.args.other.now in
    let there = c.is_within.ensures.0 c.if-is_within.true in (
      λ back. same-members a b (λ t. one_truth _ _ (there t) (c.is_within-then-is_within.ensures.0 back t)),
      λ same. c.is_within-then-is_within.ensures.1 (λ t is. ap (λ s. set.contains s t) same ∙ is),
    )
