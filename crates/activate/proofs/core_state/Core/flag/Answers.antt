use Rattle.std.proofs.Common.{◌≡◌, ℕ, ◌≤◌, length, sym, ap, ◌∙◌, subst}
use Rattle.hash.specs.declared.id.Id.{Id}
use Rattle.block.specs.declared.block.Block.{Block}
use Rattle.tree.specs.Branches.{Blocks}
use Rattle.tree.specs.State.{State}
use Rattle.model.specs.Rules.{Rules}
use Rattle.model.specs.Try.{state_after_try}
use Rattle.model.specs.laws.Tries.{tried-blocks}
use Rattle.activate.specs.declared.path.FailedTry.{FailedTry}
use Rattle.activate.specs.CoreState.{CoreState}
use Rattle.activate.specs.inside.Preparation.{CanFlag, IsFailedTry}
use Rattle.activate.proofs.Cores.{branch_of_same, room_of_same}
use Rattle.activate.proofs.core_state.Core.flag.Goals as goal

failed-try : (r : Rules Block Id) (c : CoreState) (p : ℕ) (failed : FailedTry) → CanFlag r c p failed → IsFailedTry r c.state c.active p failed
failed-try r c p failed can = record {
  kept = can.kept;
  fails = can.fails;
  flags = record { seen = can.can.seen; bad_in_order = can.can.bad_in_order; seen_in_order = can.can.seen_in_order };
}

pub flag_failed_try-requires : goal.flag_failed_try-requires
flag_failed_try-requires c =
    let p = c.requires.1 in (
      c.requires.0,
      c.self.inside.active,
      p,
      subst (λ (x : CoreState). IsFailedTry c.requires.0 x.state x.active p c.args.failed.now) (sym c.self.view_is) (failed-try c.requires.0 c.args.self.now p c.args.failed.now c.requires.2),
    )

pub invariant_of-self : goal.invariant_of-self
invariant_of-self c =
    let r = c.requires.0 in
    let p = c.requires.1 in
    let is = subst (λ (x : CoreState). IsFailedTry r x.state x.active p c.args.failed.now) (sym c.self.view_is) (failed-try r c.args.self.now p c.args.failed.now c.requires.2) in
    let e : ◌≡◌ {A = Blocks Block} c.flag_failed_try.new.tree.blocks c.self.inside.tree.blocks = ap (λ (s : State Block). s.blocks) (c.flag_failed_try.ensures r c.self.inside.active p is) ∙ tried-blocks r c.self.inside.tree p in (
      subst (λ (t : Blocks Block). c.self.inside.active ≤ length t) (sym e) c.self.invariant.0,
      branch_of_same c.self.inside.tree.blocks c.flag_failed_try.new.tree.blocks c.self.inside.active _ _ _ _ e c.self.invariant.1,
      room_of_same c.self.inside.tree.blocks c.flag_failed_try.new.tree.blocks _ _ _ _ e c.self.invariant.2,
    )

pub returns : goal.returns
returns c r p can =
    let is = subst (λ (x : CoreState). IsFailedTry r x.state x.active p c.args.failed.now) (sym c.self.view_is) (failed-try r c.args.self.now p c.args.failed.now can) in
    ap (λ (s : State Block). record { params = c.self.inside.params; state = s; active = c.self.inside.active; undo_kept = length c.self.inside.undo.items }) (c.flag_failed_try.ensures r c.self.inside.active p is)
    ∙ ap (λ (x : CoreState). record x { state = state_after_try r x.state p }) c.self.view_is
