use Rattle.std.proofs.Common.{length, sym, ap, ◌∙◌}
use Rattle.coins.specs.Changes.{Changes}
use Rattle.coins.proofs.EntryNames.{named_length, named_none}
use Rattle.coins.proofs.changes.Changes.is_empty.Goals as goal

pub returns : goal.returns
returns c =
    let es = c.self.inside.entries.entries in (
      (λ yes. sym c.self.view_is ∙ named_none es (c.is_empty.ensures.0 yes)),
      (λ none. c.is_empty.ensures.1 (sym (named_length es) ∙ ap (λ (cs : Changes). length cs) (c.self.view_is ∙ none))),
    )
