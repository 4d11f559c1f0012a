-- The session that was opened is the one that is put into the slot, which had none.
use Rattle.std.proofs.Common.{Some, false, inl, refl, sym, ap, ◌∙◌}
use Rattle.rules.specs.declared.params.Params.{Params}
use Rattle.ffi.specs.SessionState.{new_session}
use Rattle.ffi.proofs.Slots.{empty}
use Rattle.ffi.proofs.exports.ffi_open.Goals as goal

pub returns : goal.returns
returns c =
    let none = empty c.args.slot.now.kept.value (sym c.is_full.ensures ∙ c.if-is_full.false) in
    rw none (inl (
      refl,
      record {
        triples = c.in-Ok.session.triples;
        after_is =
            c.put.ensures
            ∙ ap Some (c.in-Ok-new.ensures.ok ∙ c.in-Ok.ensures.found.0 ∙ ap (λ (p : Params). new_session p c.in-Ok.session.triples false) c.params-params.ensures);
        table = c.in-Ok.ensures.found.1;
      },
      refl,
    ))
