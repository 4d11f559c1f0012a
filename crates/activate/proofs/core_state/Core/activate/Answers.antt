use Rattle.std.proofs.Common.{◌≡◌, ℕ, ◌≤◌, List, length, map, reverse, sym, ap, ◌∙◌, subst}
use Rattle.hash.specs.declared.id.Id.{Id}
use Rattle.block.specs.declared.block.Block.{Block}
use Rattle.rules.specs.declared.params.Params.{Params}
use Rattle.coins.specs.declared.coin.Coin.{Coin}
use Rattle.tree.specs.Branches.{Blocks}
use Rattle.tree.specs.State.{State}
use Rattle.model.specs.Rules.{Rules}
use Rattle.model.specs.Try.{state_after_try}
use Rattle.model.specs.laws.Tries.{tried-blocks}
use Rattle.activate.specs.declared.path.BranchPath.{BranchPath}
use Rattle.activate.specs.CoreState.{CoreState}
use Rattle.activate.specs.Lookups.{undo_at}
use Rattle.activate.specs.inside.Paths.{IsPath}
use Rattle.activate.specs.inside.Preparation.{CanActivate, IsValidPath, undo_after}
use Rattle.activate.proofs.Cores.{branch_of_same, room_of_same}
use Rattle.activate.proofs.core_state.Core.activate.Goals as goal

-- what is required, said of the state that the struct's fields are
valid-path : (r : Rules Block Id) {x y : CoreState} {p : ℕ} {path : BranchPath} {undo : List (List (List Coin))} → x ≡ y → CanActivate r y p path undo → IsValidPath r x.state x.active p path
valid-path r {p = p} {path} same can =
    subst (λ (c : CoreState). IsValidPath r c.state c.active p path) (sym same) (record {
      kept = can.kept;
      leads = can.is_way;
      good = can.good;
      flags = record { seen = can.can.seen; bad_in_order = can.can.bad_in_order; seen_in_order = can.can.seen_in_order };
    })

-- marks change no block
same_blocks : (r : Rules Block Id) (old new : State Block) (p : ℕ) → new ≡ state_after_try r old p → ◌≡◌ {A = Blocks Block} new.blocks old.blocks
same_blocks r old new p is = ap (λ (s : State Block). s.blocks) is ∙ tried-blocks r old p

pub flag_valid_path-requires : goal.flag_valid_path-requires
flag_valid_path-requires c = (c.requires.0, c.self.inside.active, c.args.place, valid-path c.requires.0 c.self.view_is c.requires.1)

pub invariant_of-self : goal.invariant_of-self
invariant_of-self c =
    let i = c.self.inside in
    let r = c.requires.0 in
    let e = same_blocks r i.tree c.flag_valid_path.new.tree c.args.place (c.flag_valid_path.ensures r i.active c.args.place (valid-path r c.self.view_is c.requires.1)) in (
      subst (λ (t : Blocks Block). i.active ≤ length t) (sym e) c.self.invariant.0,
      branch_of_same i.tree.blocks c.flag_valid_path.new.tree.blocks i.active _ _ _ _ e c.self.invariant.1,
      room_of_same i.tree.blocks c.flag_valid_path.new.tree.blocks _ _ _ _ e c.self.invariant.2,
    )

pub turn-requires-clause-kept : goal.turn-requires-clause-kept
turn-requires-clause-kept c =
    let i = c.self.inside in
    let r = c.requires.0 in
    let valid = valid-path r c.self.view_is c.requires.1 in
    let e = same_blocks r i.tree c.flag_valid_path.new.tree c.args.place (c.flag_valid_path.ensures r i.active c.args.place valid) in
    subst (λ (t : Blocks Block). c.args.place ≤ length t) (sym e) valid.kept

pub turn-requires-clause-path : goal.turn-requires-clause-path
turn-requires-clause-path c =
    let i = c.self.inside in
    let r = c.requires.0 in
    let valid = valid-path r c.self.view_is c.requires.1 in
    let e = same_blocks r i.tree c.flag_valid_path.new.tree c.args.place (c.flag_valid_path.ensures r i.active c.args.place valid) in
    subst (λ (t : Blocks Block). IsPath t i.active c.args.place c.args.path.now) (sym e) valid.leads

pub turn-requires-clause-undo : goal.turn-requires-clause-undo
turn-requires-clause-undo c =
    let i = c.self.inside in
    let r = c.requires.0 in
    let e = same_blocks r i.tree c.flag_valid_path.new.tree c.args.place (c.flag_valid_path.ensures r i.active c.args.place (valid-path r c.self.view_is c.requires.1)) in
    c.requires.1.undo_is ∙ ap (λ (t : Blocks Block). reverse (map (undo_at t) c.args.path.now.up.items)) (sym (e ∙ ap (λ (x : CoreState). x.state.blocks) c.self.view_is))

pub returns : goal.returns
returns c r can =
    let i = c.self.inside in
    let p = c.args.place in
    let path = c.args.path.now in
    let kept = length i.undo.items in
    c.turn.ensures
    ∙ ap (λ (s : State Block). core i.params s p (undo_after s.blocks i.active kept path)) (c.flag_valid_path.ensures r i.active p (valid-path r c.self.view_is can))
    ∙ ap (λ (t : Blocks Block). core i.params (state_after_try r i.tree p) p (undo_after t i.active kept path)) (tried-blocks r i.tree p)
    ∙ ap (λ (x : CoreState). core x.params (state_after_try r x.state p) p (undo_after x.state.blocks x.active x.undo_kept path)) c.self.view_is
  where
    core : Params → State Block → ℕ → ℕ → CoreState
    core params state active n = record { params = params; state = state; active = active; undo_kept = n }
