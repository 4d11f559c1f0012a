use Rattle.std.proofs.Common.{◌∙◌, ap}
use Rattle.std.specs.List.{list_all}
use Rattle.interp.proofs.FirstFalse.{all-taken}
use Rattle.interp.proofs.conditions.Conditions.all_taken.Goals as goal

pub returns : goal.returns
returns c =
    all-taken c.self.inside.taken c.self.inside.first_untaken c.is_none.result c.self.invariant c.is_none.ensures ∙ ap (list_all (λ taken. taken)) c.self.view_is
