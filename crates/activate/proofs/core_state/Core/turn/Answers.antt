use Rattle.std.proofs.Common.{◌≡◌, ℕ, suc, ◌+◌, ◌-◌, ◌≤◌, ◌++◌, List, length, map, reverse, take, get_or, true, arith, sym, ap, ◌∙◌, subst}
use Rattle.std.proofs.lemmas.List.{length-append, length-map, length-reverse, length-take, length-take-le}
use Rattle.block.specs.declared.block.Block.{Block}
use Rattle.rules.specs.declared.params.Params.{Params}
use Rattle.tree.specs.State.{State}
use Rattle.tree.specs.Branches.{has, height}
use Rattle.tree.specs.laws.Above.{above}
use Rattle.tree.specs.laws.Walks.{has_at}
use Rattle.tree.specs.laws.Parents.{height-place}
use Rattle.coins.specs.declared.coin.Coin.{Coin}
use Rattle.activate.specs.declared.path.BranchPath.{BranchPath}
use Rattle.activate.specs.CoreState.{CoreState, lesser_of, most_undo}
use Rattle.activate.specs.Lookups.{undo_at}
use Rattle.activate.specs.inside.Preparation.{undo_after}
use Rattle.activate.proofs.Trails.{length-newest}
use Rattle.activate.specs.inside.ActiveBranch.{median_at, last_of}
use Rattle.activate.specs.inside.Paths.{IsPath}
use Rattle.activate.specs.laws.OtherBranch.{gone, come, turned_branch, up_kept}
use Rattle.activate.proofs.core_state.Core.turn.Goals as goal

-- what is required of the path, said of the state that the struct's fields are
record Pathed (x : CoreState) (p : ℕ) (path : BranchPath) : Type 0 where
  kept : p ≤ length x.state.blocks
  is_path : IsPath x.state.blocks x.active p path
  gone_is : length (above x.state.blocks x.active path.fork) + path.height ≡ height x.state.blocks x.active
  come_is : length path.up.items + path.height ≡ height x.state.blocks p
  low : height x.state.blocks p ≤ p
  active_low : height x.state.blocks x.active ≤ x.active

pathed : {x y : CoreState} {p : ℕ} {path : BranchPath} → x ≡ y → x.active ≤ length x.state.blocks → p ≤ length y.state.blocks → IsPath y.state.blocks y.active p path → Pathed x p path
pathed {x} {p = p} {path} same here kept is =
    let k : p ≤ length x.state.blocks = subst (λ (s : CoreState). p ≤ length s.state.blocks) (sym same) kept in
    let w : IsPath x.state.blocks x.active p path = subst (λ (s : CoreState). IsPath s.state.blocks s.active p path) (sym same) is in
    record {
      kept = k;
      is_path = w;
      gone_is = gone x.state.blocks x.active p here k path w;
      come_is = come x.state.blocks x.active p here k path w;
      low = height-place x.state.blocks p p (omega arith) k;
      active_low = height-place x.state.blocks x.active x.active (omega arith) here;
    }

-- the undo that the caller passes, likewise
undo_inside : {x y : CoreState} {undo : List (List (List Coin))} (up : List ℕ) → x ≡ y → undo ≡ reverse (map (undo_at y.state.blocks) up) → undo ≡ reverse (map (undo_at x.state.blocks) up)
undo_inside {undo = undo} up same is = subst (λ (s : CoreState). undo ≡ reverse (map (undo_at s.state.blocks) up)) (sym same) is

pub overflow_sub-gone : goal.overflow_sub-gone
overflow_sub-gone c =
    let q = pathed c.self.view_is c.self.invariant.0 c.requires.kept c.requires.path in
    let d = q.gone_is in
    let e = c.height.ensures.value in
    omega arith

pub overflow_add-path : goal.overflow_add-path
overflow_add-path c =
    let q = pathed c.self.view_is c.self.invariant.0 c.requires.kept c.requires.path in
    let d = q.gone_is in
    let e = q.active_low in
    let a = c.self.invariant.0 in
    let r = c.self.invariant.2.for_places in
    let s = c.self.inside.branch.small in
    omega arith

pub overflow_add-path-2 : goal.overflow_add-path-2
overflow_add-path-2 c =
    let q = pathed c.self.view_is c.self.invariant.0 c.requires.kept c.requires.path in
    let d = q.gone_is in
    let e = q.active_low in
    let a = c.self.invariant.0 in
    let r = c.self.invariant.2.for_places in
    let s = c.self.inside.branch.small in
    omega arith

pub append_places-requires-clause-kept : goal.append_places-requires-clause-kept
append_places-requires-clause-kept c i d below =
    let t = c.self.inside.tree.blocks in
    let q = pathed c.self.view_is c.self.invariant.0 c.requires.kept c.requires.path in
    let up : List ℕ = c.as_slice.result.now in
    up_kept t c.self.inside.active c.args.place c.self.invariant.0 q.kept c.args.path.now q.is_path (get_or up i d)
    (subst (λ (q : List ℕ). has q (get_or up i d) ≡ true) c.as_slice.ensures.value (has_at up i d below))

pub append_places-requires-clause-places : goal.append_places-requires-clause-places
append_places-requires-clause-places c =
    let q = pathed c.self.view_is c.self.invariant.0 c.requires.kept c.requires.path in
    let d = q.come_is in
    let up = q.low in
    let s = ap (λ (q : List ℕ). length q) c.truncate.ensures.items ∙ length-take (c.args.path.now.height + 1) c.self.inside.branch.items in
    let r = c.self.invariant.2.for_places in
    let v = c.truncate.ensures.capacity in
    let m = ap (λ (q : List ℕ). length q) c.as_slice.ensures.value in
    omega arith

pub append_places-requires-clause-medians : goal.append_places-requires-clause-medians
append_places-requires-clause-medians c =
    let q = pathed c.self.view_is c.self.invariant.0 c.requires.kept c.requires.path in
    let d = q.come_is in
    let up = q.low in
    let s = ap (λ (q : List ℕ). length q) c.truncate-2.ensures.items ∙ length-take (c.args.path.now.height + 1) c.self.inside.medians.items in
    let r = c.self.invariant.2.for_medians in
    let v = c.truncate-2.ensures.capacity in
    let m = ap (λ (q : List ℕ). length q) c.as_slice.ensures.value in
    omega arith

pub append_packed-requires : goal.append_packed-requires
append_packed-requires c =
    let t = c.self.inside.tree.blocks in
    let q = pathed c.self.view_is c.self.invariant.0 c.requires.kept c.requires.path in
    let d = q.come_is in
    let up = q.low in
    let high = q.kept in
    let few = ap (λ (l : List (List (List Coin))). length l) c.truncate-4.ensures.items ∙ length-take c.args.path.now.height c.self.inside.packed.items in
    let r = c.self.invariant.2.for_packed in
    let v = c.truncate-4.ensures.capacity in
    let more = undo_inside c.args.path.now.up.items c.self.view_is c.requires.undo in
    let size = ap (λ (l : List (List (List Coin))). length l) (c.undo.invariant ∙ c.undo.view_is ∙ more) ∙ length-reverse (map (undo_at t) c.args.path.now.up.items) ∙ length-map c.args.path.now.up.items (undo_at t) in
    omega arith

pub invariant_of-self : goal.invariant_of-self
invariant_of-self c =
    let t = c.self.inside.tree.blocks in
    let q = pathed c.self.view_is c.self.invariant.0 c.requires.kept c.requires.path in
    let more = undo_inside c.args.path.now.up.items c.self.view_is c.requires.undo in
    let up = c.args.path.now.up.items in
    let h = c.args.path.now.height in
    let undos = c.self.inside.undo.items in
    let places : ◌≡◌ {A = List ℕ} c.append_places.new.branch.items (take (suc h) c.self.inside.branch.items ++ reverse up) =
    c.append_places.ensures.branch ∙ ap (λ (q : List ℕ). q ++ reverse c.as_slice.result.now) (c.truncate.ensures.items ∙ ap (λ n. take n c.self.inside.branch.items) {x = h + 1} {y = suc h} (omega arith))
    ∙ ap (λ (q : List ℕ). take (suc h) c.self.inside.branch.items ++ reverse q) c.as_slice.ensures.value in
    let medians : ◌≡◌ {A = List ℕ} c.append_places.new.medians.items (take (suc h) c.self.inside.medians.items ++ reverse (map (median_at t) up)) =
    c.append_places.ensures.medians ∙ ap (λ (q : List ℕ). q ++ reverse (map (median_at t) c.as_slice.result.now)) (c.truncate-2.ensures.items ∙ ap (λ n. take n c.self.inside.medians.items) {x = h + 1} {y = suc h} (omega arith))
    ∙ ap (λ (q : List ℕ). take (suc h) c.self.inside.medians.items ++ reverse (map (median_at t) q)) c.as_slice.ensures.value in
    let size = c.self.inside.undo.ok.0 in
    let len = c.len.ensures in
    let high = c.height.ensures.value in
    let rest = c.saturating_sub-left.ensures in
    let left : c.saturating_sub-left.result ≡ length undos - (height t c.self.inside.active - h) = omega arith in
    let undo : ◌≡◌ {A = List (List (List Coin))} c.keep_undo.new.kept.items (last_of most_undo (take (length undos - (height t c.self.inside.active - h)) undos ++ c.args.undo)) =
    c.keep_undo.ensures.kept ∙ ap (λ (q : List (List (List Coin))). last_of most_undo (c.truncate-3.new.self.items ++ q)) c.undo.view_is ∙ ap (λ (q : List (List (List Coin))). last_of most_undo (q ++ c.args.undo)) (c.truncate-3.ensures.items ∙ ap (λ n. take n undos) left) in
    let packed : ◌≡◌ {A = List (List (List Coin))} c.append_packed.new.kept.items (take h c.self.inside.packed.items ++ c.args.undo) =
    c.append_packed.ensures.kept ∙ ap (λ (q : List (List (List Coin))). q ++ c.undo.inside.packed.items) c.truncate-4.ensures.items ∙ ap (λ (q : List (List (List Coin))). take h c.self.inside.packed.items ++ q) (c.undo.invariant ∙ c.undo.view_is) in
    let whole = turned_branch t c.self.inside.active c.args.place c.self.invariant.0 q.kept c.args.path.now q.is_path c.self.inside.branch.items c.self.inside.medians.items undos c.self.inside.packed.items c.args.undo c.self.invariant.1 more in
    let room = c.self.invariant.2 in (
      q.kept,
      rw (places, medians, undo, packed) whole,
      record {
        for_places = (let r = room.for_places in let a = c.append_places.ensures.room in let b = c.truncate.ensures.capacity in omega arith);
        for_medians = (let r = room.for_medians in let a = c.append_places.ensures.room_too in let b = c.truncate-2.ensures.capacity in omega arith);
        for_undo = (let r = room.for_undo in let a = c.keep_undo.ensures.room in let b = c.truncate-3.ensures.capacity in omega arith);
        for_packed = (let r = room.for_packed in let a = c.append_packed.ensures.room in let b = c.truncate-4.ensures.capacity in omega arith);
      },
    )

pub returns : goal.returns
returns c =
    let i = c.self.inside in
    let undos = i.undo.items in
    let path = c.args.path.now in
    let more = undo_inside c.args.path.now.up.items c.self.view_is c.requires.undo in
    let size = i.undo.ok.0 in
    let len = c.len.ensures in
    let high = c.height.ensures.value in
    let rest = c.saturating_sub-left.ensures in
    let left : c.saturating_sub-left.result ≡ length undos - (height i.tree.blocks i.active - path.height) = omega arith in
    let stay : ◌≡◌ {A = List (List (List Coin))} c.truncate-3.new.self.items (take (length undos - (height i.tree.blocks i.active - path.height)) undos) = c.truncate-3.ensures.items ∙ ap (λ n. take n undos) left in
    let first = ap (λ (l : List (List (List Coin))). length l) stay ∙ length-take-le (length undos - (height i.tree.blocks i.active - path.height)) undos (omega arith) in
    let second = ap (λ (l : List (List (List Coin))). length l) more ∙ length-reverse (map (undo_at i.tree.blocks) path.up.items) ∙ length-map path.up.items (undo_at i.tree.blocks) in
    let both = length-append c.truncate-3.new.self.items c.args.undo in
    let all : length (c.truncate-3.new.self.items ++ c.args.undo) ≡ (length undos - (height i.tree.blocks i.active - path.height)) + length path.up.items = omega arith in
    let kept : length c.keep_undo.new.kept.items ≡ undo_after i.tree.blocks i.active (length undos) path =
    ap (λ (l : List (List (List Coin))). length l) (c.keep_undo.ensures.kept ∙ ap (λ (q : List (List (List Coin))). last_of most_undo (c.truncate-3.new.self.items ++ q)) c.undo.view_is) ∙ length-newest most_undo (c.truncate-3.new.self.items ++ c.args.undo) ∙ ap (lesser_of most_undo) all in
    ap (λ (n : ℕ). with_undo i.params i.tree c.args.place n) kept
    ∙ ap (λ (x : CoreState). record x { active = c.args.place; undo_kept = undo_after x.state.blocks x.active x.undo_kept path }) c.self.view_is
  where
    with_undo : Params → State Block → ℕ → ℕ → CoreState
    with_undo params state active n = record { params = params; state = state; active = active; undo_kept = n }
