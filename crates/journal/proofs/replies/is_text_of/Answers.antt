use Rattle.std.proofs.Common.{sym, ◌∙◌}
use Rattle.std.proofs.lemmas.Bool.{eqb-true}
use Rattle.std.proofs.lemmas.List.{nil_from_length}
use Rattle.journal.specs.declared.replies.Rest.{Rest}
use Rattle.journal.proofs.Texts.{whole_text}
use Rattle.journal.proofs.replies.is_text_of.Goals as goal

pub returns-in-Ok : goal.returns-in-Ok
returns-in-Ok g c empty =
    whole_text {W = Rest} (λ rest. rest.text.now) (record { text = c.args.text }) c.write.new.self
    (g.T.Display.output c.args.value.now) c.in-Ok.ensures.writes
    (nil_from_length _ (eqb-true _ 0 (sym c.is_empty.ensures ∙ empty)))
