use Rattle.std.proofs.Common.{◌≡◌, ℕ, ◌+◌, ◌-◌, ◌≤◌, List, [], ◌∷◌, ◌++◌, length, reverse, take, drop, map, get_or, true, ◌<◌, Option, Some, None, Result, Ok, Err, IfOk, IfErr, arith, sym, refl, ap, ◌∙◌, subst}
use Rattle.std.specs.Prelude.{IfSome, MatchOption}
use Rattle.std.proofs.lemmas.List.{drop_all, reverse-append}
use Rattle.block.specs.declared.block.Block.{Block}
use Rattle.signatures.specs.Known.{Known}
use Rattle.signatures.specs.Triple.{Triple}
use Rattle.rules.specs.declared.params.Params.{Params}
use Rattle.tree.specs.Branches.{Blocks, on}
use Rattle.coins.specs.declared.coin.Coin.{Coin}
use Rattle.model.specs.Valid.{fault, branch_connects}
use Rattle.model.specs.Regtest.{medians_of, regtest}
use Rattle.activate.specs.CoreState.{branch_blocks, coins_after}
use Rattle.activate.specs.Lookups.{undo_at}
use Rattle.activate.specs.Wants.{AreWantedAt}
use Rattle.activate.specs.inside.Ascents.{top_of, AreMore, AreWantedAbove, IsApplied, LeadsUp}
use Rattle.activate.specs.laws.WalkUp.{is-next, rest-next, parts-back, counted-back, valid-next, first-next}
use Rattle.std.proofs.lemmas.Result.{err_from_is_err_and}
use Rattle.activate.proofs.WantsOfBlocks.{where_none, where_some, wanted_above, wanted_more, wanted_none}
use Rattle.activate.proofs.ascent.connect_up.Goals as goal

ok_part : {T E : Type 0} (P : T → Type 0) (r : Result T E) (x : T) → r ≡ Ok x → IfOk r P → P x
ok_part P r x e h = subst (λ a. IfOk a P) e h

err_part : {T E : Type 0} (P : E → Type 0) (r : Result T E) (x : E) → r ≡ Err x → IfErr r P → P x
err_part P r x e h = subst (λ a. IfErr a P) e h

some_part : {A : Type 0} (P : A → Type 0) (o : Option A) (x : A) → o ≡ Some x → IfSome o P → P x
some_part P o x e h = subst (λ a. IfSome a P) e h

pub loop-passed-init : goal.loop-passed-init
loop-passed-init g c =
    let triples = g.S.RunsScripts.agreeing c.args.env.now in
    let start = c.requires.start triples (g.met.S.RunsScripts.agrees c.args.env.now) in
    let b = c.args.active_branch.now in
    let t = b.tree.now.blocks in
    let f = c.args.path.now.fork in
    let up = c.as_slice-up.result.now in
    let none : ◌≡◌ {A = List ℕ} (drop (length up - 0) up) [] = drop_all (length up - 0) up (omega arith) in
    record {
      spent = start.spent ∙ ap (λ (l : List ℕ). reverse (map (undo_at t) l)) (sym none);
      good = λ nothing triples agrees. ap (λ (l : List ℕ). branch_connects (regtest b.params.now triples) t (top_of f l)) none ∙ (c.requires.start triples agrees).good;
      applied = subst (λ (l : List ℕ). IsApplied t (top_of f l) c.args.start.layer.base c.args.start.layer c.args.start.medians) (sym none) start.applied;
      wanted = tt;
    }

pub connect_tip-requires-clause-place : goal.connect_tip-requires-clause-place
connect_tip-requires-clause-place g c =
    let t = c.args.active_branch.now.tree.now.blocks in
    let up = c.as_slice-up.result.now in
    let w = subst (LeadsUp t c.args.path.now.fork) (sym c.as_slice-up.ensures.value) c.requires.path in
    let n = is-next t c.args.path.now.fork up w c.loop-passed.passed c.loop-passed-test.true (get_or up (length up - 1 - c.loop-passed.passed) 0) refl in
    (n.above_genesis, n.kept)

pub connect_tip-requires-clause-start : goal.connect_tip-requires-clause-start
connect_tip-requires-clause-start g c =
    let t = c.args.active_branch.now.tree.now.blocks in
    let up = c.as_slice-up.result.now in
    let w = subst (LeadsUp t c.args.path.now.fork) (sym c.as_slice-up.ensures.value) c.requires.path in
    let n = is-next t c.args.path.now.fork up w c.loop-passed.passed c.loop-passed-test.true (get_or up (length up - 1 - c.loop-passed.passed) 0) refl in
    let applied = c.loop-passed.invariant.applied in
    record {
      left = applied.left ∙ ap (λ (p : ℕ). coins_after t p) (sym n.parent);
      base_is = refl;
      medians_are = applied.medians_are ∙ ap (λ (p : ℕ). reverse (medians_of (branch_blocks t p))) (sym n.parent);
    }

pub returns-in-None-clause-stops : goal.returns-in-None-clause-stops
returns-in-None-clause-stops g c triples agrees =
    let params = c.args.active_branch.now.params.now in
    let t = c.args.active_branch.now.tree.now.blocks in
    let f = c.args.path.now.fork in
    let up = c.as_slice-up.result.now in
    let passed = c.loop-passed.passed in
    let x = get_or up (length up - 1 - passed) 0 in
    let w = subst (LeadsUp t f) (sym c.as_slice-up.ensures.value) c.requires.path in
    let n = is-next t f up w passed c.loop-passed-test.true x refl in
    let v = ap (branch_connects (regtest params triples) t) n.parent ∙ c.loop-passed.invariant.good c.in-None.is triples agrees in
    let e : fault (regtest params triples) t x ≡ Some c.in-Err.reason = err_part _ _ _ c.in-Err.is c.in_ok-next.ensures.fault triples agrees in
    record {
      front = reverse (drop (length up - passed) up);
      place = x;
      rest = reverse (take (length up - (passed + 1)) up);
      parts = ap (λ (l : List ℕ). reverse l) (sym c.as_slice-up.ensures.value) ∙ parts-back t f up w passed c.loop-passed-test.true x refl;
      counted = counted-back t f up w passed c.loop-passed-test.true x refl;
      first = record {
        on = ap (λ (l : List ℕ). on t (top_of f l) x) (sym c.as_slice-up.ensures.value) ∙ n.there;
        first = first-next params triples t x n.above_genesis n.kept c.in-Err.reason v e;
      };
      broken = e;
    }

-- what the next block wants is wanted above the fork
above : {Stop : Type 0} (told : Stop → Option (List Triple)) (params : Params) (known : Known) (t : Blocks Block) (f p x : ℕ) → f < x → on t p x ≡ true
    → (wants : Option Stop) → IfSome wants (λ stop. IfSome (told stop) (AreWantedAt params t known x)) → IfSome wants (λ stop. IfSome (told stop) (AreWantedAbove params t f p known))
above told params known t f p x low there None are = tt
above told params known t f p x low there (Some stop) are = wanted_above params known t f p x low there (told stop) are

pub loop-passed-preserved : goal.loop-passed-preserved
loop-passed-preserved g c =
    let b = c.args.active_branch.now in
    let params = b.params.now in
    let t = b.tree.now.blocks in
    let f = c.args.path.now.fork in
    let up = c.as_slice-up.result.now in
    let passed = c.loop-passed.passed in
    let known = g.S.RunsScripts.known c.args.env.now in
    let told = g.S.RunsScripts.told in
    let x = get_or up (length up - 1 - passed) 0 in
    let w = subst (LeadsUp t f) (sym c.as_slice-up.ensures.value) c.requires.path in
    let n = is-next t f up w passed c.loop-passed-test.true x refl in
    let rest = rest-next t f up w passed c.loop-passed-test.true x refl in
    let top = ap (top_of f) rest in
    let i = c.loop-passed.invariant in
    let there = ap (λ (l : List ℕ). on t (top_of f l) x) (sym c.as_slice-up.ensures.value) ∙ n.there in
    let step = c.in-Ok.next in
    let spent : step.ascent.undo.items ≡ c.loop-passed.ascent.undo.items ++ undo_at t x ∷ [] = ok_part _ _ _ c.in-Ok.is c.in_ok-next.ensures.undo in
    let next : IsApplied t x c.loop-passed.ascent.layer.base step.ascent.layer step.ascent.medians = ok_part _ _ _ c.in-Ok.is c.in_ok-next.ensures.next in
    let scripts = ok_part _ _ _ c.in-Ok.is c.in_ok-next.ensures.scripts in
    let more = c.in_ok-wants-in-Ok.ensures.goes_on in
    record {
      spent = spent
          ∙ ap (λ (l : List (List (List Coin))). l ++ undo_at t x ∷ []) i.spent
          ∙ sym (reverse-append (undo_at t x ∷ []) (map (undo_at t) (drop (length up - passed) up)))
          ∙ ap (λ (l : List ℕ). reverse (map (undo_at t) l)) (sym rest);
      good = λ none triples agrees.
          let both = wanted_none (AreWantedAbove params t f (top_of f c.args.path.now.up.items) known) told _ step.wants (subst (AreMore told _ step.wants) none more) in
          ap (branch_connects (regtest params triples) t) top
          ∙ valid-next params triples t x n.above_genesis n.kept (ap (branch_connects (regtest params triples) t) n.parent ∙ i.good both.0 triples agrees) (where_none _ _ step.wants both.1 scripts triples agrees);
      applied = record {
        left = next.left ∙ ap (coins_after t) (sym top);
        base_is = next.base_is ∙ i.applied.base_is;
        medians_are = next.medians_are ∙ ap (λ (p : ℕ). reverse (medians_of (branch_blocks t p))) (sym top);
      };
      wanted =
          wanted_more (AreWantedAbove params t f (top_of f c.args.path.now.up.items) known) told _ step.wants _ more i.wanted
          (above told params known t f (top_of f c.args.path.now.up.items) x n.above_fork there step.wants (where_some _ _ step.wants scripts));
    }

-- a round ends at a block behind others that want
pub returns-in_err-wants-in-Ok-clause-wants : goal.returns-in_err-wants-in-Ok-clause-wants
returns-in_err-wants-in-Ok-clause-wants g c =
    let b = c.args.active_branch.now in
    let params = b.params.now in
    let t = b.tree.now.blocks in
    let f = c.args.path.now.fork in
    let up = c.as_slice-up.result.now in
    let passed = c.loop-passed.passed in
    let known = g.S.RunsScripts.known c.args.env.now in
    let told = g.S.RunsScripts.told in
    let x = get_or up (length up - 1 - passed) 0 in
    let w = subst (LeadsUp t f) (sym c.as_slice-up.ensures.value) c.requires.path in
    let n = is-next t f up w passed c.loop-passed-test.true x refl in
    let there = ap (λ (l : List ℕ). on t (top_of f l) x) (sym c.as_slice-up.ensures.value) ∙ n.there in
    let step = c.in-Ok.next in
    let scripts = ok_part _ _ _ c.in-Ok.is c.in_ok-next.ensures.scripts in
    let passed = err_from_is_err_and c.from_residual-in_err-wants-in-Ok.result c.from_residual-in_err-wants-in-Ok.ensures.1 in
    rw (passed.1, passed.2)
    (wanted_more (AreWantedAbove params t f (top_of f c.args.path.now.up.items) known) told _ step.wants _ c.in_err-wants-in-Ok.ensures.ends c.loop-passed.invariant.wanted
    (above told params known t f (top_of f c.args.path.now.up.items) x n.above_fork there step.wants (where_some _ _ step.wants scripts)))

-- or at one with a fault
pub returns-in-Some-clause-wants : goal.returns-in-Some-clause-wants
returns-in-Some-clause-wants g c = some_part _ _ _ c.in-Some.is c.loop-passed.invariant.wanted

-- at the end of the path each block connects, or some want
ended : {Stop : Type 0} (A : Type 0) (P : Stop → Type 0) (wants : Option Stop) → (wants ≡ None → A) → IfSome wants P → MatchOption wants A P
ended A P None good are = good refl
ended A P (Some stop) good are = are

-- all of the path
whole : (up items : List ℕ) (passed : ℕ) → length up ≤ passed → up ≡ items → ◌≡◌ {A = List ℕ} (drop (length up - passed) up) items
whole up items passed all e = ap (λ (n : ℕ). drop n up) {x = length up - passed} {y = 0} (omega (arith, all)) ∙ e

pub returns-clause-top : goal.returns-clause-top
returns-clause-top g c =
    let t = c.args.active_branch.now.tree.now.blocks in
    let params = c.args.active_branch.now.params.now in
    let f = c.args.path.now.fork in
    let i = c.loop-passed.invariant in
    let end = whole c.as_slice-up.result.now c.args.path.now.up.items c.loop-passed.passed (omega (arith, c.loop-passed-test.false)) c.as_slice-up.ensures.value in
    ended _ _ c.loop-passed.wants
    (λ none triples agrees. record {
      good = ap (λ (l : List ℕ). branch_connects (regtest params triples) t (top_of f l)) (sym end) ∙ i.good none triples agrees;
      spent = i.spent ∙ ap (λ (l : List ℕ). reverse (map (undo_at t) l)) end;
      applied = subst (λ (l : List ℕ). IsApplied t (top_of f l) c.args.start.layer.base c.loop-passed.ascent.layer c.loop-passed.ascent.medians) end i.applied;
    })
    i.wanted

pub returns-clause-applied : goal.returns-clause-applied
returns-clause-applied g c =
    let end = whole c.as_slice-up.result.now c.args.path.now.up.items c.loop-passed.passed (omega (arith, c.loop-passed-test.false)) c.as_slice-up.ensures.value in
    subst (λ (l : List ℕ). IsApplied c.args.active_branch.now.tree.now.blocks (top_of c.args.path.now.fork l) c.args.start.layer.base c.loop-passed.ascent.layer c.loop-passed.ascent.medians) end c.loop-passed.invariant.applied
