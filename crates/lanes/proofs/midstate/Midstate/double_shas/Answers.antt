use Rattle.std.proofs.Common.{◌≡◌, ◌+◌, ◌*◌, ◌/◌, ◌%◌, ℕ, List, ◌++◌, length, take, ap, ap₂, ◌∙◌, arith}
use Rattle.std.proofs.lemmas.List.{length-append, length-drop, take-append-drop}
use Rattle.lanes.specs.Midstate.{part}
use Rattle.lanes.specs.State.{lane}
use Rattle.lanes.proofs.Midstates.{finished, length-part}
use Rattle.lanes.proofs.midstate.Midstate.double_shas.Goals as goal

pub returns : goal.returns
returns c = λ before after l lt d.
    let own = part c.args.parts.now l in
    let end = c.args.end.now in
    let blocks = c.split_at.result.0.now in
    let rest = c.split_at.result.1.now in
    let front = before ++ own in
    let n = length (front ++ end) in
    let cut : blocks ++ rest ≡ end = ap₂ (λ (x y : List ℕ). x ++ y) c.split_at.ensures.front c.split_at.ensures.back ∙ take-append-drop _ end in
    let long : n ≡ length before + length c.args.parts.now / 8 + length end = omega (arith, length-append front end, length-append before own, length-part c.args.parts.now l lt) in
    let left : n % 64 ≡ length rest = omega (arith, long, (after.values l lt).0, c.requires, ap length c.split_at.ensures.back, length-drop (length end / 64 * 64) end) in
    let last = c.padded-last.ensures n (omega (arith, long, after.count)) left in
    let value = c.after_shared.ensures l lt (front ++ blocks) (c.after_shared-state.ensures l lt front (c.after_own.ensures l lt before (after.values l lt))) in
    c.hashed_again.ensures l lt (front ++ end) (finished front end blocks rest _ (lane c.after_shared.result l) cut (ap (λ (k : ℕ). take k c.padded-last.result) c.padded_len.ensures ∙ last) value) d
