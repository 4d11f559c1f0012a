use Rattle.std.proofs.Common.{◌≡◌, ℕ, suc, ◌+◌, ◌≤◌, ◌∷◌, List, length, Option, Result, Ok, Err, IfOk, IfErr, None, Some, refl, sym, ap, ◌∙◌, subst, arith}
use Rattle.std.specs.Prelude.{IfSome}
use Rattle.std.proofs.lemmas.Result.{err_from_is_err_and}
use Rattle.block.specs.declared.block.Block.{Block}
use Rattle.coins.specs.declared.coin.Coin.{Coin}
use Rattle.coins.specs.Coins.{Coins, Layer}
use Rattle.connect.specs.ConnectedBlock.{IsConnected}
use Rattle.connect.specs.BlockContext.{Setting}
use Rattle.connect.specs.Turns.{effect, undo_of}
use Rattle.connect.specs.laws.Scripts.{fault-found}
use Rattle.connect.specs.laws.Stops.{none_wanted, wanted_weaker}
use Rattle.rules.specs.Params.{at}
use Rattle.signatures.specs.Known.{Known}
use Rattle.signatures.specs.Triple.{Triple}
use Rattle.rules.specs.declared.params.Params.{Params}
use Rattle.tree.specs.Branches.{Blocks, Kept, height}
use Rattle.model.specs.Regtest.{regtest, setting_on}
use Rattle.model.specs.Valid.{branch_connects}
use Rattle.model.specs.laws.InHand.{valid_new}
use Rattle.activate.specs.CoreState.{branch_blocks, coins_after}
use Rattle.activate.specs.Wants.{AreJoined, AreWantedAt}
use Rattle.activate.specs.declared.path.TryOutcome.{TryOutcome}
use Rattle.activate.specs.declared.path.BranchPath.{BranchPath}
use Rattle.activate.specs.declared.path.Reorganisation.{Reorganisation}
use Rattle.activate.specs.inside.Ascents.{top_of, AreMore, IsApplied, IsTop}
use Rattle.activate.specs.inside.Paths.{AreWantedOnWay, FailsAt, IsTryOutcome, IsPath, IsStop}
use Rattle.activate.specs.laws.WalkUp.{top-above}
use Rattle.activate.proofs.InHand.{fault-tip, leads_new, path_new, setting-tip, stop_below, stop_own, undo_grown, wanted_own, wanted_there}
use Rattle.activate.proofs.WantsOfBlocks.{each_weaker, wanted_all-weaker, wanted_more, wanted_new, wanted_none, where_none, where_some}
use Rattle.activate.proofs.path.ActiveBranch.try_new_block.Goals as goal

ok_part : {T E : Type 0} (P : T → Type 0) (r : Result T E) (x : T) → r ≡ Ok x → IfOk r P → P x
ok_part P r x e h = subst (λ a. IfOk a P) e h

err_part : {T E : Type 0} (P : E → Type 0) (r : Result T E) (x : E) → r ≡ Err x → IfErr r P → P x
err_part P r x e h = subst (λ a. IfErr a P) e h

some_part : {A : Type 0} (P : A → Type 0) (o : Option A) (x : A) → o ≡ Some x → IfSome o P → P x
some_part P o x e h = subst (λ a. IfSome a P) e h

pub returns-in_err-path-clause-wants : goal.returns-in_err-path-clause-wants
returns-in_err-path-clause-wants g c =
    let b = c.args.self.now in
    let t = b.tree.now.blocks in
    let k : Kept Block = record { block = c.args.submitted.now.block; parent = c.args.parent } in
    let known = g.S.RunsScripts.known c.args.env.now in
    let passed = err_from_is_err_and c.from_residual.result c.from_residual.ensures.1 in
    rw (passed.1, passed.2) (wanted_all-weaker (AreWantedOnWay b.params.now t b.active c.args.parent known) (AreWantedOnWay b.params.now (k ∷ t) b.active (suc (length t)) known)
    (wanted_there k t c.requires.parent b.active c.requires.active.kept b.params.now known) _ c.in_err-path.ensures.wants)

pub returns-in-Err-clause-attempt : goal.returns-in-Err-clause-attempt
returns-in-Err-clause-attempt g c triples agrees =
    let b = c.args.self.now in
    let t = b.tree.now.blocks in
    let r = regtest b.params.now triples in
    let k : Kept Block = record { block = c.args.submitted.now.block; parent = c.args.parent } in
    let path : BranchPath = c.in_ok-path.path in
    let longer : BranchPath = record path { up = c.put_first.new.list } in
    let up = c.in_ok-put_first.ensures ∙ ap (λ (q : ℕ). q ∷ path.up.items) c.len.ensures.count in
    let stop : IsStop r t c.args.parent path.up.items c.in-Err.stop.passed c.in-Err.stop.reason = err_part _ _ _ c.in-Err.is c.in_ok-path.ensures.stops triples agrees in
    let fails : FailsAt r (k ∷ t) b.active (suc (length t)) (record { path = longer; passed = c.in-Err.stop.passed; reason = c.in-Err.stop.reason }) = record {
      path = path_new k t c.requires.parent b.active c.requires.active.kept path c.in_ok-path.ensures.path longer refl refl up;
      stop = stop_below k t c.requires.parent b.active c.requires.active.kept b.params.now triples path.up.items longer.up.items c.in-Err.stop.passed c.in-Err.stop.reason up stop;
    } in
    subst (λ (x : TryOutcome). IsTryOutcome r (k ∷ t) b.active (suc (length t)) x) (sym c.failed.ensures) fails

-- what blocks below want, and then what the new one does
module _ {Stop : Type 0} (told : Stop → Option (List Triple)) (params : Params) (known : Known) (k : Kept Block) (t : Blocks Block) (kept : k.parent ≤ length t) (a : ℕ) (old : a ≤ length t) where
  abbrev more : Blocks Block
  more = k ∷ t

  pub both_new : (below own found : Option Stop) → AreMore told below own found → IfSome below (λ stop. IfSome (told stop) (AreJoined (AreWantedOnWay params t a k.parent known)))
      → IfSome own (λ stop. IfSome (told stop) (AreWantedAt params more known (suc (length t)))) → IfSome found (λ stop. IfSome (told stop) (AreJoined (AreWantedOnWay params more a (suc (length t)) known)))
  both_new below own found are f n =
      wanted_more (AreWantedOnWay params more a (suc (length t)) known) told below own found are (below_new below f)
      (each_weaker _ _ (λ stop w. wanted_weaker _ _ (wanted_own k t kept a old params known) (told stop) w) own n)
    where
      below_new : (below : Option Stop) → IfSome below (λ stop. IfSome (told stop) (AreJoined (AreWantedOnWay params t a k.parent known))) → IfSome below (λ stop. IfSome (told stop) (AreJoined (AreWantedOnWay params more a (suc (length t)) known)))
      below_new below f = each_weaker _ _ (λ stop w. wanted_all-weaker _ _ (wanted_there k t kept a old params known) (told stop) w) below f

-- a round ends at the new block
pub returns-in_err-stop-in-Ok-2-clause-wants : goal.returns-in_err-stop-in-Ok-2-clause-wants
returns-in_err-stop-in-Ok-2-clause-wants g c =
    let b = c.args.self.now in
    let t = b.tree.now.blocks in
    let p = c.args.parent in
    let k : Kept Block = record { block = c.args.submitted.now.block; parent = p } in
    let known = g.S.RunsScripts.known c.args.env.now in
    let told = g.S.RunsScripts.told in
    let climb = c.in-Ok.climb in
    let done = c.in-Ok-2.done in
    let applied : IsApplied t p (g.B.Base.coins c.args.base.now) climb.ascent.layer climb.ascent.medians = ok_part _ _ _ c.in-Ok.is c.in_ok-path.ensures.applied in
    let s : Setting = record { height = c.height.result + 1; cutoff = c.median.result; medians = c.as_slice.result.now; rules = at b.params.now (c.height.result + 1) } in
    let place : s ≡ setting_on b.params.now (branch_blocks t p) = setting-tip b.params.now t p s c.requires.parent (ap (λ (n : ℕ). n + 1) c.height.ensures.value) c.median.ensures (c.as_slice.ensures ∙ applied.medians_are) refl in
    let own = each_weaker _ _ (λ stop w. wanted_new b.params.now known b.tree.now k.block p c.requires.parent s climb.ascent.layer.coins place applied.left (told stop) w) done.stop (where_some _ _ done.stop (ok_part _ _ _ c.in-Ok-2.is c.in_ok-done.ensures.scripts)) in
    let passed = err_from_is_err_and c.from_residual-in_err-stop-in-Ok-2.result c.from_residual-in_err-stop-in-Ok-2.ensures.1 in
    rw (passed.1, passed.2) (both_new told b.params.now known k t c.requires.parent b.active c.requires.active.kept climb.wants done.stop _ c.in_err-stop-in-Ok-2.ensures.ends (where_some _ _ climb.wants (ok_part _ _ _ c.in-Ok.is c.in_ok-path.ensures.top)) own)

pub returns-in-Some-clause-wants : goal.returns-in-Some-clause-wants
returns-in-Some-clause-wants g c =
    let b = c.args.self.now in
    let t = b.tree.now.blocks in
    let p = c.args.parent in
    let k : Kept Block = record { block = c.args.submitted.now.block; parent = p } in
    let known = g.S.RunsScripts.known c.args.env.now in
    let told = g.S.RunsScripts.told in
    let climb = c.in-Ok.climb in
    let done = c.in-Ok-2.done in
    let applied : IsApplied t p (g.B.Base.coins c.args.base.now) climb.ascent.layer climb.ascent.medians = ok_part _ _ _ c.in-Ok.is c.in_ok-path.ensures.applied in
    let s : Setting = record { height = c.height.result + 1; cutoff = c.median.result; medians = c.as_slice.result.now; rules = at b.params.now (c.height.result + 1) } in
    let place : s ≡ setting_on b.params.now (branch_blocks t p) = setting-tip b.params.now t p s c.requires.parent (ap (λ (n : ℕ). n + 1) c.height.ensures.value) c.median.ensures (c.as_slice.ensures ∙ applied.medians_are) refl in
    let own = each_weaker _ _ (λ stop w. wanted_new b.params.now known b.tree.now k.block p c.requires.parent s climb.ascent.layer.coins place applied.left (told stop) w) done.stop (where_some _ _ done.stop (ok_part _ _ _ c.in-Ok-2.is c.in_ok-done.ensures.scripts)) in
    both_new told b.params.now known k t c.requires.parent b.active c.requires.active.kept climb.wants done.stop (Some c.in-Some.stop) (subst (AreMore told climb.wants done.stop) c.in-Some.is c.in_ok-stop-in-Ok-2.ensures.goes_on) (where_some _ _ climb.wants (ok_part _ _ _ c.in-Ok.is c.in_ok-path.ensures.top)) own

-- or behind others that want, where it has a fault
pub returns-in-Some-wants-clause-wants : goal.returns-in-Some-wants-clause-wants
returns-in-Some-wants-clause-wants g c =
    let b = c.args.self.now in
    let t = b.tree.now.blocks in
    let k : Kept Block = record { block = c.args.submitted.now.block; parent = c.args.parent } in
    let known = g.S.RunsScripts.known c.args.env.now in
    wanted_all-weaker _ _ (wanted_there k t c.requires.parent b.active c.requires.active.kept b.params.now known) (g.S.RunsScripts.told c.in-Some-wants.stop)
    (some_part _ _ _ c.in-Some-wants.is (where_some _ _ c.in-Ok.climb.wants (ok_part _ _ _ c.in-Ok.is c.in_ok-path.ensures.top)))

pub returns-in_err-append-in-None-clause-wants : goal.returns-in_err-append-in-None-clause-wants
returns-in_err-append-in-None-clause-wants g c =
    let stopped = err_from_is_err_and c.from_residual-in_err-append-in-None.result c.from_residual-in_err-append-in-None.ensures.1 in
    let none = g.met.S.RunsScripts.memory_tells c.in_err-append-in-None.field-0.0 stopped.0 stopped.2 in
    rw stopped.1 (none_wanted _ (g.S.RunsScripts.told stopped.0) none)

pub returns-in_ok-undo-in-None-clause-attempt : goal.returns-in_ok-undo-in-None-clause-attempt
returns-in_ok-undo-in-None-clause-attempt g c triples agrees =
    let b = c.args.self.now in
    let t = b.tree.now.blocks in
    let p = c.args.parent in
    let r = regtest b.params.now triples in
    let k : Kept Block = record { block = c.args.submitted.now.block; parent = p } in
    let told = g.S.RunsScripts.told in
    let path : BranchPath = c.in_ok-path.path in
    let w : IsPath t b.active p path = c.in_ok-path.ensures.path in
    let climb = c.in-Ok.climb in
    let ascent = climb.ascent in
    let given = c.in-Ok-2.done in
    let nothing = wanted_none (AreWantedOnWay b.params.now (k ∷ t) b.active (suc (length t)) (g.S.RunsScripts.known c.args.env.now)) told climb.wants given.stop (subst (AreMore told climb.wants given.stop) c.in-None.is c.in_ok-stop-in-Ok-2.ensures.goes_on) in
    let top : IsTop r t path.fork path.up.items (g.B.Base.coins c.args.base.now) ascent.undo.items ascent.layer ascent.medians = where_none _ _ climb.wants nothing.0 (ok_part _ _ _ c.in-Ok.is c.in_ok-path.ensures.top) triples agrees in
    let applied : IsApplied t p (g.B.Base.coins c.args.base.now) ascent.layer ascent.medians = ok_part _ _ _ c.in-Ok.is c.in_ok-path.ensures.applied in
    let e : top_of path.fork path.up.items ≡ p = ap (top_of path.fork) w.up ∙ top-above t path.fork p c.requires.parent w.shared.there in
    let tall : c.height.result + 1 ≡ height t p + 1 = ap (λ (n : ℕ). n + 1) c.height.ensures.value in
    let medians = c.as_slice.ensures ∙ applied.medians_are in
    let coins : ascent.layer.coins ≡ coins_after t p = applied.left in
    let s : Setting = record { height = c.height.result + 1; cutoff = c.median.result; medians = c.as_slice.result.now; rules = at b.params.now (c.height.result + 1) } in
    let place : s ≡ setting_on b.params.now (branch_blocks t p) = setting-tip b.params.now t p s c.requires.parent tall c.median.ensures medians refl in
    let fault = (fault-found s ascent.layer.coins k.block.txs triples None).0 (where_none _ _ given.stop nothing.1 (ok_part _ _ _ c.in-Ok-2.is c.in_ok-done.ensures.scripts) triples agrees) in
    let own = fault-tip b.params.now triples t p k.block ascent.layer.coins None s (sym fault) coins place in
    let done : IsConnected s ascent.layer.coins k.block given.layer.coins given.undo = ok_part _ _ _ c.in-Ok-2.is c.in_ok-done.ensures.connected in
    let left : ◌≡◌ {A = Layer} given.layer (record ascent.layer { coins = effect (c.height.result + 1) ascent.layer.coins k.block.txs }) = ok_part _ _ _ c.in-Ok-2.is c.in_ok-done.ensures.coins in
    let up = c.in_ok-put_first.ensures ∙ ap (λ (q : ℕ). q ∷ path.up.items) c.len.ensures.count in
    let move : Reorganisation = record { path = record path { up = c.put_first.new.list }; undo = c.in_ok-undo-in-None.undo; changes = c.into_changes-changes.result } in
    let at_new = λ (h : ℕ) (m : Coins). undo_of h m k.block.txs in
    leads_new k t c.requires.parent b.active c.requires.active.kept b.params.now triples path w move refl refl up
    (valid_new r k t c.requires.parent (ap (branch_connects r t) (sym e) ∙ top.good) own)
    (c.in_ok-undo-in-None.ensures ∙ c.in_ok-append-in-None.ensures ∙ undo_grown k t c.requires.parent b.active c.requires.active.kept path w ascent.undo.items given.undo top.spent
    (done.spent ∙ ap (λ (h : ℕ). at_new h ascent.layer.coins) tall ∙ ap (at_new (height t p + 1)) coins))
    given.layer.base given.layer.coins
    (ap (λ (l : Layer). l.base) left ∙ applied.base_is ∙ c.requires.active.coins_are)
    (done.after ∙ ap (λ (h : ℕ). effect h ascent.layer.coins k.block.txs) tall ∙ ap (λ (m : Coins). effect (height t p + 1) m k.block.txs) coins)
    c.into_changes-changes.ensures.differences c.into_changes-changes.ensures.laid

pub returns-in-None-wants-clause-attempt : goal.returns-in-None-wants-clause-attempt
returns-in-None-wants-clause-attempt g c triples agrees =
    let b = c.args.self.now in
    let t = b.tree.now.blocks in
    let p = c.args.parent in
    let r = regtest b.params.now triples in
    let k : Kept Block = record { block = c.args.submitted.now.block; parent = p } in
    let path : BranchPath = c.in_ok-path.path in
    let w : IsPath t b.active p path = c.in_ok-path.ensures.path in
    let climb = c.in-Ok.climb in
    let ascent = climb.ascent in
    let top : IsTop r t path.fork path.up.items (g.B.Base.coins c.args.base.now) ascent.undo.items ascent.layer ascent.medians = where_none _ _ climb.wants c.in-None-wants.is (ok_part _ _ _ c.in-Ok.is c.in_ok-path.ensures.top) triples agrees in
    let applied : IsApplied t p (g.B.Base.coins c.args.base.now) ascent.layer ascent.medians = ok_part _ _ _ c.in-Ok.is c.in_ok-path.ensures.applied in
    let e : top_of path.fork path.up.items ≡ p = ap (top_of path.fork) w.up ∙ top-above t path.fork p c.requires.parent w.shared.there in
    let tall : c.height.result + 1 ≡ height t p + 1 = ap (λ (n : ℕ). n + 1) c.height.ensures.value in
    let medians = c.as_slice.ensures ∙ applied.medians_are in
    let coins : ascent.layer.coins ≡ coins_after t p = applied.left in
    let s : Setting = record { height = c.height.result + 1; cutoff = c.median.result; medians = c.as_slice.result.now; rules = at b.params.now (c.height.result + 1) } in
    let place : s ≡ setting_on b.params.now (branch_blocks t p) = setting-tip b.params.now t p s c.requires.parent tall c.median.ensures medians refl in
    let reason = c.in-Err-2.reason in
    let fault = (fault-found s ascent.layer.coins k.block.txs triples (Some reason)).0 (err_part _ _ _ c.in-Err-2.is c.in_ok-done.ensures.fault triples agrees) in
    let own = fault-tip b.params.now triples t p k.block ascent.layer.coins (Some reason) s (sym fault) coins place in
    let longer : BranchPath = record path { up = c.put_first.new.list } in
    let up = c.in_ok-put_first.ensures ∙ ap (λ (q : ℕ). q ∷ path.up.items) c.len.ensures.count in
    let fails : FailsAt r (k ∷ t) b.active (suc (length t)) (record { path = longer; passed = c.len-below.result; reason = reason }) = record {
      path = path_new k t c.requires.parent b.active c.requires.active.kept path w longer refl refl up;
      stop = stop_own k t c.requires.parent b.active c.requires.active.kept b.params.now triples path.up.items longer.up.items c.len-below.result reason up (let long = c.len-below.ensures in let fits = path.up.ok.0 in omega arith) (ap (branch_connects r t) (sym e) ∙ top.good) own;
    } in
    subst (λ (x : TryOutcome). IsTryOutcome r (k ∷ t) b.active (suc (length t)) x) (sym c.failed-in-None-wants.ensures) fails
