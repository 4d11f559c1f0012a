use Rattle.std.proofs.Common.{◌≤◌, ◌∙◌, ◌++◌, ap, length, drop, List, rules}
use Rattle.std.proofs.lemmas.List.{take_all}
use Rattle.server.proofs.log_gap.Lacking.catch_up.Goals as goal

pub returns-in-Ok-clause-entries : goal.returns-in-Ok-clause-entries
returns-in-Ok-clause-entries g c =
    let before = c.args.self.now in
    let le : length c.journal.new.self.seen ≤ 18446744073709551615 = search rules in
    c.in-Ok.ensures.items
    ∙ ap (λ (l : List _). before.entries.items ++ l) (c.in_ok-at.ensures.answer.answer_is ∙ ap (λ (l : List _). drop before.taken l) (take_all 18446744073709551615 c.journal.new.self.seen le))
