use Rattle.std.proofs.Common.{ℕ, List, Bool, false, cond, ltb, length, get_or, replicate, ap, ◌∙◌, arith, w32}
use lib.Lanes.{zip2, sel_l}
use Rattle.std.proofs.lemmas.Simd.{tops_compared, length-zip2, length-sel_l, get_or-sel_l, get_or-zip2, get_or-replicate}
use Rattle.lanes.proofs.words.chosen.Goals as goal

pub returns : goal.returns
returns c =
    let zeros : List ℕ = replicate 8 0 in
    let runs = c.args.runs in
    let new = c.args.new in
    let old = c.args.old in
    let tests = zip2 ltb zeros runs in
    let long = length-zip2 ltb zeros runs (omega (arith, c.fits-runs.0)) in
    let is = ap (λ (ms : List Bool). sel_l ms new old) (tops_compared w32 ltb zeros runs) in
    record {
      len = ap length is ∙ length-sel_l tests new old (omega (arith, long, c.fits-new.0)) (omega (arith, long, c.fits-old.0)) ∙ long;
      at = λ l lt. ap (λ (v : List ℕ). get_or v l 0) is
          ∙ get_or-sel_l tests new old l 0 (omega (arith, lt, long)) (omega (arith, lt, c.fits-new.0)) (omega (arith, lt, c.fits-old.0))
          ∙ ap (λ (t : Bool). cond t (get_or new l 0) (get_or old l 0))
          (get_or-zip2 ltb zeros runs l 0 0 false (omega (arith, lt)) (omega (arith, lt, c.fits-runs.0)) ∙ ap (λ (n : ℕ). ltb n (get_or runs l 0)) (get_or-replicate 8 l 0 0 lt));
    }
