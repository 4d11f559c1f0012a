use Rattle.std.proofs.Common.{rules, ◌≡◌, Bool, [], inl, refl, subst, true, false}
use Rattle.std.specs.Prelude.{◌==◌}
use Rattle.std.specs.Bool.{MatchBool}
use Rattle.std.specs.List.{list_all}
use Rattle.block.specs.Blk.{IsEnd}
use Rattle.block.proofs.Records.{zeros_true, zeros_false, end_append, end_front, end_back}
use Rattle.block.proofs.blk.end.Goals as goal
use Rattle.block.proofs.blk.end.Goals.{then-not-is_zero-via-then-not-is_zero, then-not-is_zero-via-else-not-is_zero+in_ok-ends+then-not-branch}

pub returns-then-not-is_zero-clause-refused : goal.returns-then-not-is_zero-clause-refused
returns-then-not-is_zero-clause-refused g c =
    elim c.then-not-is_zero.branch [
      | then-not-is_zero-via-then-not-is_zero w ↦ inl (
        refl,
        λ h.
            let other : list_all (λ byte. byte == 0) c.args.front.now ≡ false = search rules in
            zeros_false c.args.front.now other (end_front c.args.front.now _ h),
      )
      | then-not-is_zero-via-else-not-is_zero+in_ok-ends+then-not-branch w ↦ inl (
        refl,
        λ h.
            let other : IsEnd (g.R.Source.to_come c.args.source.now) → ⊥ = subst (λ (b : Bool). MatchBool b (IsEnd (g.R.Source.to_come c.args.source.now) × (g.R.Source.to_come w.ends.new.source ≡ [])) (IsEnd (g.R.Source.to_come c.args.source.now) → ⊥)) w.if-not-branch.true w.in_ok-ends.ensures.found in
            other (end_back c.args.front.now _ h),
      )
    ]

pub returns-clause-found : goal.returns-clause-found
returns-clause-found g c =
    let zero : list_all (λ byte. byte == 0) c.args.front.now ≡ true = search rules in
    let found : IsEnd (g.R.Source.to_come c.args.source.now) × (g.R.Source.to_come c.ends.new.source ≡ []) = subst (λ (b : Bool). MatchBool b (IsEnd (g.R.Source.to_come c.args.source.now) × (g.R.Source.to_come c.ends.new.source ≡ [])) (IsEnd (g.R.Source.to_come c.args.source.now) → ⊥)) c.if-not-branch.false c.in_ok-ends.ensures.found in
    (end_append c.args.front.now _ (zeros_true c.args.front.now zero) found.0, found.1)
