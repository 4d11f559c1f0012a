use Rattle.std.proofs.Common.{◌≡◌, ℕ, List, [], ◌∷◌, ◌++◌, length, arith, ap, sym, subst, ◌∙◌}
use Rattle.coins.specs.declared.coin.Coin.{Coin}
use Rattle.block.specs.declared.block.Block.{Block}
use Rattle.block.specs.declared.genesis.TheConstants.{GENESIS_TIME}
use Rattle.tree.specs.Branches.{Blocks}
use Rattle.tree.specs.State.{State, opening}
use Rattle.activate.specs.CoreState.{Follows, CoreState, coins_of, opened_core}
use Rattle.activate.specs.laws.Growth.{branch_opening}
use Rattle.activate.proofs.Openings.{opens}
use Rattle.activate.proofs.core_state.Core.with.Goals as goal

pub invariant_of-result : goal.invariant_of-result
invariant_of-result c =
    let none : ◌≡◌ {A = Blocks Block} c.in_ok-new.field-0.blocks [] = ap (λ (s : State Block). s.blocks) c.in_ok-new.ensures in
    let places : ◌≡◌ {A = List ℕ} c.push.new.self.items (0 ∷ []) = c.in_ok-push.ensures.items ∙ ap (λ (l : List ℕ). l ++ (0 ∷ [])) c.new-branch.ensures.items in
    let medians : ◌≡◌ {A = List ℕ} c.push-2.new.self.items (GENESIS_TIME ∷ []) = c.in_ok-push-2.ensures.items ∙ ap (λ (l : List ℕ). l ++ (GENESIS_TIME ∷ [])) c.new-medians.ensures.items in
    let undo : ◌≡◌ {A = List (List (List Coin))} c.in_ok-with_capacity.field-0.items [] = c.in_ok-with_capacity.ensures.items in
    let packed : ◌≡◌ {A = List (List (List Coin))} c.new-2.result.items [] = c.new-2.ensures.items in
    let one = ap (λ (l : List ℕ). length l) places in
    let two = ap (λ (l : List ℕ). length l) medians in
    let a = c.push.new.self.ok.0 in
    let b = c.push.new.self.small in
    let d = c.push-2.new.self.ok.0 in
    let e = c.push-2.new.self.small in
    let f = c.in_ok-with_capacity.ensures.capacity in
    let size = ap (λ (t : Blocks Block). length t) none in (
      omega arith,
      rw (none, places, medians, undo, packed) branch_opening,
      record { for_places = omega arith; for_medians = omega arith; for_undo = f; for_packed = omega arith },
    )

pub returns-clause-follows : goal.returns-clause-follows
returns-clause-follows c triples =
    let start = opens c.args.params triples in
    let tracked : State Block → ℕ → CoreState = λ s n. record { params = c.args.params; state = s; active = 0; undo_kept = n } in
    let kept = length c.in_ok-with_capacity.field-0.items in
    let none : kept ≡ 0 = ap (λ (l : List (List (List Coin))). length l) c.in_ok-with_capacity.ensures.items in
    let is : tracked c.in_ok-new.field-0 kept ≡ opened_core c.args.params = ap (λ (s : State Block). tracked s kept) c.in_ok-new.ensures ∙ ap (tracked opening) none in (
      subst (λ (x : CoreState). Follows x triples) (sym is) start.follows,
      ap coins_of is ∙ sym start.coins_are,
    )
