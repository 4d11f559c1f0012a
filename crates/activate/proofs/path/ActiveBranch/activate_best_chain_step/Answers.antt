use Rattle.std.proofs.Common.{◌≡◌, ℕ, ◌+◌, ◌≤◌, List, length, reverse, take, Result, Ok, Err, IfOk, IfErr, refl, sym, ap, ◌∙◌, subst, arith}
use Rattle.block.specs.declared.block.Block.{Block}
use Rattle.tree.specs.Branches.{Blocks, branch, on}
use Rattle.tree.specs.laws.Above.{above}
use Rattle.activate.specs.declared.path.BranchPath.{BranchPath}
use Rattle.model.specs.Regtest.{medians_of, regtest}
use Rattle.model.specs.laws.Candidates.{valid_below}
use Rattle.activate.specs.CoreState.{branch_blocks, coins_after}
use Rattle.activate.specs.inside.Paths.{IsPath, IsStop}
use Rattle.activate.specs.inside.Ascents.{top_of, LeadsUp}
use Rattle.activate.specs.laws.WalkUp.{top-above, height-below, length-branch, length-medians_at, medians-shared, were-connected}
use Rattle.std.proofs.lemmas.List.{length-take-le}
use Rattle.std.proofs.lemmas.Result.{err_from_is_err_and}
use Rattle.activate.proofs.WantsOfBlocks.{either_way, wanted_on-way}
use Rattle.activate.proofs.path.ActiveBranch.activate_best_chain_step.Goals as goal

-- a path leads to its block, from a block of the active branch
module _ (t : Blocks Block) (a p : ℕ) (path : BranchPath) (w : IsPath t a p path) (h : p ≤ length t) where
  leads : top_of path.fork path.up.items ≡ p
  leads = ap (top_of path.fork) w.up ∙ top-above t path.fork p h w.shared.there

-- the fork's medians begin the active ones
module _ (t : Blocks Block) (a p : ℕ) (path : BranchPath) (w : IsPath t a p path) (k : a ≤ length t) where
  shares : path.height + 1 ≤ length (branch t a)
  shares =
      let e = w.high in
      let b = height-below t a path.fork k w.shared.here in
      let l = length-branch t a k in
      omega arith

  shared : take (path.height + 1) (reverse (medians_of (branch_blocks t a))) ≡ reverse (medians_of (branch_blocks t path.fork))
  shared = ap (λ (n : ℕ). take (n + 1) (reverse (medians_of (branch_blocks t a)))) w.high ∙ medians-shared t a path.fork k w.shared.here

-- a path goes up to its block
module _ (t : Blocks Block) (a p : ℕ) (path : BranchPath) (w : IsPath t a p path) (h : p ≤ length t) where
  leads-up : LeadsUp t path.fork path.up.items
  leads-up =
      let e = leads t a p path w h in
      record {
        kept = omega arith;
        shared = ap (λ (q : ℕ). on t q path.fork) e ∙ w.shared.there;
        all = w.up ∙ ap (λ (q : ℕ). above t q path.fork) (sym e);
      }

-- so many medians are there
enough : (t : Blocks Block) (a p : ℕ) (path : BranchPath) → IsPath t a p path → a ≤ length t → (medians : List ℕ) → medians ≡ reverse (medians_of (branch_blocks t a)) → path.height + 1 ≤ length medians
enough t a p path w k medians e =
    let s = shares t a p path w k in
    let m = length-medians_at t a in
    let n = ap (λ (l : List ℕ). length l) e in
    omega arith

ok_map : {T E : Type 0} {P Q : T → Type 0} (r : Result T E) → ((x : T) → P x → Q x) → IfOk r P → IfOk r Q
ok_map (Ok x) f h = f x h
ok_map (Err e) f h = tt

err_map : {T E : Type 0} {P Q : E → Type 0} (r : Result T E) → ((x : E) → P x → Q x) → IfErr r P → IfErr r Q
err_map (Ok x) f h = tt
err_map (Err e) f h = f e h

pub disconnect_to_fork-requires-clause-active : goal.disconnect_to_fork-requires-clause-active
disconnect_to_fork-requires-clause-active g c = record {
  kept = c.requires.active.kept;
  branch = c.requires.active.branch;
  coins_are = c.over.ensures.coins ∙ c.requires.active.coins_are;
}

pub disconnect_to_fork-requires-clause-connected : goal.disconnect_to_fork-requires-clause-connected
disconnect_to_fork-requires-clause-connected g c =
    let b = c.args.self.now in
    let triples = g.S.RunsScripts.agreeing c.args.env.now in
    let valid = c.requires.valid triples (g.met.S.RunsScripts.agrees c.args.env.now) in
    were-connected b.params.now triples b.tree.now.blocks b.active c.requires.active.kept valid.all valid.good

pub slice_bounds-lent-end : goal.slice_bounds-lent-end
slice_bounds-lent-end g c =
    let b = c.args.self.now in
    let far = enough b.tree.now.blocks b.active c.args.place c.in_ok-path.path c.in_ok-path.ensures.path c.requires.active.kept b.medians.now c.requires.active.branch.medians_are in
    sym (length-take-le (c.in_ok-path.path.height + 1) b.medians.now far)

pub connect_up-requires-clause-path : goal.connect_up-requires-clause-path
connect_up-requires-clause-path g c =
    let b = c.args.self.now in
    leads-up b.tree.now.blocks b.active c.args.place c.in_ok-path.path c.in_ok-path.ensures.path c.requires.place

pub connect_up-requires-clause-kept : goal.connect_up-requires-clause-kept
connect_up-requires-clause-kept g c triples agrees = (c.requires.valid triples agrees).all

pub connect_up-requires-clause-start : goal.connect_up-requires-clause-start
connect_up-requires-clause-start g c triples agrees =
    let b = c.args.self.now in
    record {
      good = valid_below (regtest b.params.now triples) b.tree.now.blocks b.active c.in_ok-path.path.fork (c.requires.valid triples agrees).good c.in_ok-path.ensures.path.shared.here;
      spent = c.new.ensures.items;
      applied = record {
        left = c.in_ok-layer.ensures.coins;
        base_is = refl;
        medians_are =
            c.lent-medians.ensures
            ∙ ap (take (c.in_ok-path.path.height + 1)) c.requires.active.branch.medians_are
            ∙ shared b.tree.now.blocks b.active c.args.place c.in_ok-path.path c.in_ok-path.ensures.path c.requires.active.kept;
      };
    }

pub returns-in_err-answer-clause-wants : goal.returns-in_err-answer-clause-wants
returns-in_err-answer-clause-wants g c =
    let b = c.args.self.now in
    let t = b.tree.now.blocks in
    let path = c.in_ok-path.path in
    let w = c.in_ok-path.ensures.path in
    let passed = err_from_is_err_and c.from_residual-in_err-answer.result c.from_residual-in_err-answer.ensures.1 in
    rw (passed.1, passed.2) (wanted_on-way b.params.now (g.S.RunsScripts.known c.args.env.now) t b.active c.args.place path.fork (top_of path.fork path.up.items) (leads t b.active c.args.place path w c.requires.place) w.shared _ c.in_err-answer.ensures.wants)

pub returns-clause-top : goal.returns-clause-top
returns-clause-top g c =
    let b = c.args.self.now in
    let t = b.tree.now.blocks in
    let path = c.in_ok-path.path in
    let w = c.in_ok-path.ensures.path in
    ok_map c.in_ok-answer.answer (λ climb top. either_way climb.wants (λ connect triples agrees.
    let of = connect triples agrees in
    record {
      good = of.good;
      spent = of.spent;
      applied = record {
        left = of.applied.left;
        base_is = of.applied.base_is ∙ c.in_ok-layer.ensures.base ∙ c.over.ensures.below;
        medians_are = of.applied.medians_are;
      };
    })
    (λ stop are. wanted_on-way b.params.now (g.S.RunsScripts.known c.args.env.now) t b.active c.args.place path.fork (top_of path.fork path.up.items) (leads t b.active c.args.place path w c.requires.place) w.shared (g.S.RunsScripts.told stop) are)
    top) c.in_ok-answer.ensures.top

pub returns-clause-applied : goal.returns-clause-applied
returns-clause-applied g c =
    let t = c.args.self.now.tree.now.blocks in
    let at = leads t c.args.self.now.active c.args.place c.in_ok-path.path c.in_ok-path.ensures.path c.requires.place in
    ok_map c.in_ok-answer.answer (λ climb applied. record {
      left = applied.left ∙ ap (coins_after t) at;
      base_is = applied.base_is ∙ c.in_ok-layer.ensures.base ∙ c.over.ensures.below;
      medians_are = applied.medians_are ∙ ap (λ (q : ℕ). reverse (medians_of (branch_blocks t q))) at;
    }) c.in_ok-answer.ensures.applied

pub returns-clause-stops : goal.returns-clause-stops
returns-clause-stops g c =
    let b = c.args.self.now in
    let path = c.in_ok-path.path in
    err_map c.in_ok-answer.answer (λ stop stops triples agrees.
    subst (λ (q : ℕ). IsStop (regtest b.params.now triples) b.tree.now.blocks q path.up.items stop.passed stop.reason)
    (leads b.tree.now.blocks b.active c.args.place path c.in_ok-path.ensures.path c.requires.place) (stops triples agrees)) c.in_ok-answer.ensures.stops
