use Rattle.std.proofs.Common.{length, sym, ap, ◌∙◌}
use Rattle.coins.specs.Changes.{Changes}
use Rattle.coins.proofs.EntryNames.{named_length}
use Rattle.coins.proofs.changes.Changes.len.Goals as goal

pub returns : goal.returns
returns c = c.len.ensures.len ∙ sym (named_length c.self.inside.entries.entries) ∙ ap (λ (cs : Changes). length cs) c.self.view_is
