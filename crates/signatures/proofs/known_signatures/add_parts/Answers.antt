use Rattle.std.proofs.Common.{◌≡◌, ◌+◌, [], ◌∷◌, ◌++◌, length, ap, ◌∙◌}
use Rattle.std.proofs.lemmas.List.{length-append}
use Rattle.signatures.specs.Known.{Verdicts}
use Rattle.signatures.specs.inside.Parts.{whole, nothing}
use Rattle.signatures.proofs.Found.{whole-longer}
use Rattle.signatures.proofs.known_signatures.add_parts.Goals as goal

pub loop-preserved : goal.loop-preserved
loop-preserved c =
    let longer : c.push.new.self.items ≡ c.loop.parts.items ++ nothing ∷ [] = c.in_ok-push.ensures.items ∙ ap (λ (part : Verdicts). c.loop.parts.items ++ part ∷ []) c.empty.ensures in
    (ap whole longer ∙ whole-longer c.loop.parts.items ∙ c.loop.invariant.0, ap length longer ∙ length-append c.loop.parts.items (nothing ∷ []) ∙ ap (λ n. n + 1) c.loop.invariant.1)
