use Rattle.std.proofs.Common.{rules, ◌≡◌, ◌+◌, ◌++◌, ◌∷◌, [], List, length, take, sym, ap, ap₂, ◌∙◌, arith}
use Rattle.std.proofs.lemmas.List.{append_assoc, length_push, length-take-le}
use Rattle.interp.specs.Question.{question}
use Rattle.connect.specs.Scripts.{Check, input_checks}
use Rattle.connect.specs.inside.ScriptLists.{checks_in}
use Rattle.connect.proofs.Steps.{take_item}
use Rattle.connect.proofs.Checks.{input_push, job_checks, job_count, job_inputs}
use Rattle.connect.proofs.scripts.add.Goals as goal

pub loop-input-preserved : goal.loop-input-preserved
loop-input-preserved c =
    let flags = c.args.flags in
    let place = c.args.place in
    let tx = c.args.tx.now in
    let coins = c.args.coins.now in
    let i = c.loop-input.input in
    let x = c.index-coins-input.result in
    let before = c.loop-input.checks in
    let start = checks_in c.args.checks.now in
    let count : length c.push.new.self.items ≡ length before.jobs.items + 1 = job_count _ _ _ c.in_ok-push.ensures.items in
    let places : c.push-in-loop-input.new.self.items ≡ before.places.items ++ place ∷ [] = c.in_ok-push-2.ensures.items in
    let spent : c.as_slice.result.now ≡ x.script = search rules in
    let many : length (take i coins) ≡ i = length-take-le i coins (omega arith) in
    let check : ◌≡◌ {A = Check} (place, question tx i c.as_slice.result.now flags) (place, question tx (length (take i coins)) x.script flags) = ap₂ (λ n script. (place, question tx n script flags)) (sym many) spent in
    record {
      even = ap length places ∙ length_push before.places.items place ∙ ap (λ n. n + 1) c.loop-input.invariant.even ∙ sym count;
      inputs = job_inputs _ _ _ c.in_ok-push.ensures.items c.loop-input.invariant.inputs (omega arith);
      checks_from = job_checks before.places.items c.push-in-loop-input.new.self.items before.jobs.items c.push.new.self.items place _ c.loop-input.invariant.even places c.in_ok-push.ensures.items
          ∙ ap₂ (λ (l : List Check) y. l ++ y ∷ []) c.loop-input.invariant.checks_from check
          ∙ append_assoc start (input_checks flags place tx (take i coins)) ((place, question tx (length (take i coins)) x.script flags) ∷ [])
          ∙ ap (λ (l : List Check). start ++ l) (sym (ap (input_checks flags place tx) (take_item coins i x (omega arith) c.index-coins-input.is) ∙ input_push flags place tx (take i coins) x));
      few = omega (arith, count, c.loop-input.invariant.few);
    }
