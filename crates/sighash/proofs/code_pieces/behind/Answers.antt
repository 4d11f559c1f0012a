use Rattle.std.proofs.Common.{length, refl, sym, ap, ◌∙◌, take}
use Rattle.std.specs.Cmp.Lexicographic.{other_text}
use Rattle.std.proofs.lemmas.List.{take_at}
use Rattle.sighash.proofs.code_pieces.behind.Goals as goal

pub returns : goal.returns
returns c = λ more is.
    let front = c.args.front.now in
    absurd (other_text c.split_at.result.0.now front (sym c.if-eq.false ∙ c.eq.ensures) (c.split_at.ensures.front ∙ ap (take (length front)) is ∙ take_at front more (length front) refl))
