use Rattle.std.proofs.Common.{◌<◌, ◌-◌, ℕ, sym, ap, ◌∙◌, arith}
use Rattle.std.proofs.lemmas.List.{length-set}
use Rattle.sha2.specs.Sha256.{add32, schedule, small_sigma0, small_sigma1}
use Rattle.sha2.proofs.Schedule256.{slice_index-schedule_next}
use Rattle.lanes.proofs.KnownSchedule.{word_more}
use Rattle.lanes.proofs.schedule.schedule.Goals as goal

pub words-preserved : goal.words-preserved
words-preserved c =
    let ws = schedule c.args.block.now 48 in
    let t = c.words.t in
    let at = λ (j : ℕ) (lt : j < t). c.words.invariant.1 j lt in
    let e2 = c.lower_sigma1.ensures ∙ ap small_sigma1 (at (t - 2) (omega arith)) in
    let e15 = c.lower_sigma0.ensures ∙ ap small_sigma0 (at (t - 15) (omega arith)) in
    let e7 = at (t - 7) (omega arith) in
    let e16 = at (t - 16) (omega arith) in
    let word = (λ i. add32 (add32 (add32 (e2 i) (e7 i)) (e15 i)) (e16 i)) ∙ sym (slice_index-schedule_next c.args.block.now 48 t (omega arith) (omega (arith, c.words-test.true))) in (
      length-set c.words.words t _ ∙ c.words.invariant.0,
      word_more c.words.words ws t _ (omega (arith, c.words.invariant.0, c.words-test.true)) c.words.invariant.1 word,
    )
