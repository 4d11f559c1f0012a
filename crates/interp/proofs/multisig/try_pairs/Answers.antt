use Rattle.std.proofs.Common.{◌≡◌, ◌∙◌, sym, ap, arith}
use Rattle.std.specs.List.{concat}
use Rattle.std.proofs.lemmas.Result.{err_from_is_err_and}
use borrow.Author.Tests.{eqb-true}
use Rattle.script.specs.Removal.{bytes_of}
use Rattle.interp.specs.Answer.{Says}
use Rattle.interp.specs.Running.{digest_with}
use Rattle.interp.specs.inside.RunningContext.{value_of}
use Rattle.interp.specs.Signatures.{type_of}
use Rattle.interp.proofs.Pairs.{some-there, turn-of, ended, used-up, few-left, unshaped, empty, wanted, valid, invalid}
use Rattle.interp.proofs.multisig.try_pairs.Goals.{then-not-is_empty+in_ok-valid, then-valid, else-valid, else-not-is_empty}
use Rattle.interp.proofs.multisig.try_pairs.Goals as goal

pub returns-in_default : goal.returns-in_default
returns-in_default g c = c.loop-place.invariant.same ∙ used-up _ _ _ c.args.signatures.now c.args.keys.now c.loop-place.used c.loop-place.place c.in_default.ensures.lookup.3

pub returns-then-keys-place : goal.returns-then-keys-place
returns-then-keys-place g c =
    c.loop-place.invariant.same ∙ few-left _ _ _ c.args.signatures.now c.args.keys.now c.loop-place.used c.loop-place.place c.in-Some.ensures.lookup.3.0 c.if-keys-place.true

pub returns-then-not-may_be_tried : goal.returns-then-not-may_be_tried
returns-then-not-may_be_tried g c =
    let there = c.in-Some.ensures.lookup in
    let turn = turn-of c.args.signatures.now c.args.keys.now c.loop-place.used c.loop-place.place c.in-Some.signature.now c.in-Some.signature.now there.3.0 there.1 c.loop-place-test.true c.if-keys-place.false in
    c.loop-place.invariant.same ∙ unshaped _ _ _ c.args.signatures.now c.args.keys.now _ _ _ _ turn (sym c.if-not-may_be_tried.ensures)

pub returns-in_err-valid : goal.returns-in_err-valid
returns-in_err-valid g c =
    let passed = err_from_is_err_and c.from_residual.result c.from_residual.ensures.1 in
    let there = c.in-Some.ensures.lookup in
    let turn = turn-of c.args.signatures.now c.args.keys.now c.loop-place.used c.loop-place.place c.in-Some.signature.now _ there.3.0 there.1 c.loop-place-test.true c.if-keys-place.false in
    rw (passed.1, passed.2) (λ t is.
    c.loop-place.invariant.same ∙ wanted _ _ _ c.args.signatures.now c.args.keys.now _ _ _ _ turn
    c.known_or_worked_out-digest.result (sym c.if-not-may_be_tried.ensures) (some-there _ c.if-not-is_empty.ensures) c.known_or_worked_out-digest.ensures t (c.in_err-valid.ensures t is))

pub loop-place-preserved : goal.loop-place-preserved
loop-place-preserved g c =
    let there = c.in-Some.ensures.lookup in
    elim c.if-not-is_empty.branch [
      | then-not-is_empty+in_ok-valid w ↦
          let turn = turn-of c.args.signatures.now c.args.keys.now c.loop-place.used c.loop-place.place c.in-Some.signature.now _ there.3.0 there.1 c.loop-place-test.true c.if-keys-place.false in
          elim w.if-valid.branch [
            | then-valid v ↦
                let one : w.from-used.result ≡ 1 = rw v.if-valid.true at w.from-used.ensures in
                rw (w.used-is, one, w.signed-is, v.signed-is) (record {
                  same = c.loop-place.invariant.same ∙ valid _ _ _ c.args.signatures.now c.args.keys.now _ _ _ _ turn
                      w.known_or_worked_out-digest.result (sym c.if-not-may_be_tried.ensures) (some-there _ w.if-not-is_empty.ensures) w.known_or_worked_out-digest.ensures (w.in_ok-valid.ensures ∙ ap Says v.if-valid.true);
                  within = omega (arith, there.3.0);
                  right = tt;
                })
            | else-valid v ↦
                let none : w.from-used.result ≡ 0 = rw v.if-valid.false at w.from-used.ensures in
                let same : c.if-not-is_empty.used ≡ c.loop-place.used = omega (arith, w.used-is, none) in
                rw (same, w.signed-is, v.signed-is) (record {
                  same = c.loop-place.invariant.same ∙ invalid _ _ _ c.args.signatures.now c.args.keys.now _ _ _ _ turn
                      w.known_or_worked_out-digest.result (sym c.if-not-may_be_tried.ensures) (some-there _ w.if-not-is_empty.ensures) w.known_or_worked_out-digest.ensures (w.in_ok-valid.ensures ∙ ap Says v.if-valid.false);
                  within = c.loop-place.invariant.within;
                  right = w.known_or_worked_out-digest.ensures ∙ ap (λ s. digest_with (value_of c.args.running.now) c.args.running.now.tx.now c.args.running.now.input (concat (bytes_of c.args.code.now)) (type_of s)) (sym turn.first);
                })
          ]
      | else-not-is_empty w ↦
          let turn = turn-of c.args.signatures.now c.args.keys.now c.loop-place.used c.loop-place.place c.in-Some.signature.now c.in-Some.signature.now there.3.0 there.1 c.loop-place-test.true c.if-keys-place.false in
          rw (w.used-is, w.signed-is) (record {
            same = c.loop-place.invariant.same ∙ empty _ _ _ c.args.signatures.now c.args.keys.now _ _ _ _ turn (sym c.if-not-may_be_tried.ensures) (eqb-true _ _ (sym w.if-not-is_empty.ensures));
            within = c.loop-place.invariant.within;
            right = c.loop-place.invariant.right;
          })
    ]

pub returns : goal.returns
returns g c = c.loop-place.invariant.same ∙ ended _ _ _ c.args.signatures.now c.args.keys.now c.loop-place.used c.loop-place.place c.loop-place-test.false c.loop-place.invariant.within
