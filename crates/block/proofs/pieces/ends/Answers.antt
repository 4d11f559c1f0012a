use Rattle.std.proofs.Common.{rules, ◌≡◌, ◌++◌, List, ℕ, true, false, take, ap, ◌∙◌, subst}
use Rattle.std.specs.Prelude.{◌==◌}
use Rattle.std.specs.List.{list_all}
use Rattle.block.specs.Blk.{IsEnd}
use Rattle.block.proofs.Records.{zeros_true, zeros_false, end_append, end_front, end_back, come_next}
use Rattle.block.proofs.pieces.ends.Goals as goal

pub returns-then-not-is_zero-clause-found : goal.returns-then-not-is_zero-clause-found
returns-then-not-is_zero-clause-found g c =
    let piece : List ℕ = take c.in_ok-count.count c.read.new.buffer in
    let other : list_all (λ byte. byte == 0) piece ≡ false = search rules in
    let came = c.loop-count.invariant.2 in
    λ h. zeros_false piece other (end_front piece _ (end_back (came.0) _ (subst IsEnd (came.2 ∙ ap (λ (t : List ℕ). came.0 ++ t) c.in_ok-count.ensures.came) h)))

pub returns-then-not-is_zero-clause-remain : goal.returns-then-not-is_zero-clause-remain
returns-then-not-is_zero-clause-remain g c =
    let came = c.loop-count.invariant.2 in
    (_, come_next _ (came.0) _ _ _ (came.2) c.in_ok-count.ensures.came)

pub loop-count-preserved : goal.loop-count-preserved
loop-count-preserved g c =
    let piece : List ℕ = take c.in_ok-count.count c.read.new.buffer in
    let zero : list_all (λ byte. byte == 0) piece ≡ true = search rules in
    let came = c.loop-count.invariant.2 in
    (search rules, search rules, (_, end_append (came.0) piece (came.1) (zeros_true piece zero), come_next _ (came.0) _ piece _ (came.2) c.in_ok-count.ensures.came))
