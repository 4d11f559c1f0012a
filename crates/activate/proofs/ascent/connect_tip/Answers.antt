use Rattle.std.proofs.Common.{◌≡◌, ℕ, ◌≤◌, List, [], ◌∷◌, ◌++◌, length, reverse, IfOk, IfErr, Some, None, Result, Ok, Err, sym, ap, ◌∙◌, subst, arith}
use Rattle.std.proofs.lemmas.List.{length-reverse}
use Rattle.block.specs.declared.block.Block.{Block}
use Rattle.coins.specs.declared.coin.Coin.{Coin}
use Rattle.coins.specs.Coins.{Layer}
use Rattle.txn.specs.First.{first_broken}
use Rattle.rules.specs.Alone.{alone_rules}
use Rattle.connect.specs.ConnectedBlock.{IsConnected}
use Rattle.connect.specs.Turns.{effect}
use Rattle.connect.specs.laws.Scripts.{fault-found}
use Rattle.tree.specs.Branches.{Blocks, parent_at, height}
use Rattle.tree.specs.laws.Parents.{height-parent}
use Rattle.model.specs.Regtest.{medians_of, regtest}
use Rattle.activate.specs.CoreState.{branch_blocks}
use Rattle.activate.specs.laws.WalkUp.{length-parent, setting-next, setting_under, fault-next, undo-next, coins-next, medians-next}
use Rattle.model.specs.laws.Kept.{alone-at}
use Rattle.model.specs.laws.Medians.{length-medians}
use Rattle.std.proofs.lemmas.Result.{err_from_is_err_and}
use Rattle.activate.proofs.WantsOfBlocks.{either_way, wanted_at}
use Rattle.activate.proofs.ascent.connect_tip.Goals as goal

ok_part : {T E : Type 0} (P : T → Type 0) (r : Result T E) (x : T) → r ≡ Ok x → IfOk r P → P x
ok_part P r x e h = subst (λ a. IfOk a P) e h

err_part : {T E : Type 0} (P : E → Type 0) (r : Result T E) (x : E) → r ≡ Err x → IfErr r P → P x
err_part P r x e h = subst (λ a. IfErr a P) e h

-- there is a median below
some : (t : Blocks Block) (p : ℕ) (medians : List ℕ) → length (branch_blocks t (parent_at t p)) ≡ height t p → 1 ≤ height t p → medians ≡ reverse (medians_of (branch_blocks t (parent_at t p))) → 1 ≤ length medians
some t p medians l z e =
    let a = ap (λ (k : List ℕ). length k) e in
    let b = length-reverse (medians_of (branch_blocks t (parent_at t p))) in
    let d = length-medians (branch_blocks t (parent_at t p)) in
    omega arith

pub overflow_sub-context : goal.overflow_sub-context
overflow_sub-context g c =
    let triples = g.S.RunsScripts.agreeing c.args.env.now in
    let t = c.args.active_branch.now.tree.now.blocks in
    let p = c.args.place in
    let up = height-parent t p c.requires.place.0 c.requires.place.1 in
    some t p c.as_slice-below.result.now (length-parent c.args.active_branch.now.params.now triples t p c.requires.place.0 c.requires.place.1) (omega arith) (c.as_slice-below.ensures ∙ c.requires.start.medians_are)

pub bounds-below-below : goal.bounds-below-below
bounds-below-below g c =
    let triples = g.S.RunsScripts.agreeing c.args.env.now in
    let t = c.args.active_branch.now.tree.now.blocks in
    let p = c.args.place in
    let up = height-parent t p c.requires.place.0 c.requires.place.1 in
    let s = some t p c.as_slice-below.result.now (length-parent c.args.active_branch.now.params.now triples t p c.requires.place.0 c.requires.place.1) (omega arith) (c.as_slice-below.ensures ∙ c.requires.start.medians_are) in
    omega arith

pub apply_in_layer-requires-clause-alone : goal.apply_in_layer-requires-clause-alone
apply_in_layer-requires-clause-alone g c =
    let triples = g.S.RunsScripts.agreeing c.args.env.now in
    let agrees = g.met.S.RunsScripts.agrees c.args.env.now in
    ap (λ (b : Block). first_broken (alone_rules b)) (c.in_ok-block.ensures.block ∙ c.block.ensures)
    ∙ alone-at (regtest c.args.active_branch.now.params.now triples) c.args.active_branch.now.tree.now.blocks c.args.place (c.requires.kept triples agrees) c.requires.place.0 c.requires.place.1

pub returns-in-Err-clause-fault : goal.returns-in-Err-clause-fault
returns-in-Err-clause-fault g c triples agrees =
    let params = c.args.active_branch.now.params.now in
    let s = setting_under params c.height_of.result c.as_slice-below.result.now in
    let m = c.args.start.layer.coins in
    let txs = c.in_ok-block.block.txs in
    sym ((fault-found s m txs triples (Some c.in-Err.reason)).0 (err_part _ _ _ c.in-Err.is c.in_ok-done.ensures.fault triples agrees)
    ∙ fault-next params triples c.args.active_branch.now.tree.now.blocks c.args.place c.requires.place.0 c.requires.place.1 c.height_of.result m c.in_ok-block.block c.height_of.ensures c.requires.start.left (c.in_ok-block.ensures.block ∙ c.block.ensures)
    c.as_slice-below.result.now (c.as_slice-below.ensures ∙ c.requires.start.medians_are))

pub returns-clause-scripts : goal.returns-clause-scripts
returns-clause-scripts g c =
    let params = c.args.active_branch.now.params.now in
    let t = c.args.active_branch.now.tree.now.blocks in
    let p = c.args.place in
    let s = setting_under params c.height_of.result c.as_slice-below.result.now in
    let m = c.args.start.layer.coins in
    let txs = c.in_ok-block.block.txs in
    let medians = c.as_slice-below.ensures ∙ c.requires.start.medians_are in
    let long = length-parent params (g.S.RunsScripts.agreeing c.args.env.now) t p c.requires.place.0 c.requires.place.1 in
    let up = height-parent t p c.requires.place.0 c.requires.place.1 in
    let place = setting-next params (branch_blocks t (parent_at t p)) c.height_of.result c.as_slice-below.result.now (c.height_of.ensures ∙ sym long) (omega arith) medians in
    either_way c.in-Ok.done.stop
    (λ none triples agrees.
    sym ((fault-found s m txs triples None).0 (none triples agrees)
    ∙ fault-next params triples t p c.requires.place.0 c.requires.place.1 c.height_of.result m c.in_ok-block.block c.height_of.ensures c.requires.start.left (c.in_ok-block.ensures.block ∙ c.block.ensures)
    c.as_slice-below.result.now medians))
    (λ stop are. wanted_at params (g.S.RunsScripts.known c.args.env.now) t p _ _ _ place c.requires.start.left (ap (λ (b : Block). b.txs) (c.in_ok-block.ensures.block ∙ c.block.ensures)) (g.S.RunsScripts.told stop) are)
    (ok_part _ _ _ c.in-Ok.is c.in_ok-done.ensures.scripts)

pub returns-clause-undo : goal.returns-clause-undo
returns-clause-undo g c =
    let triples = g.S.RunsScripts.agreeing c.args.env.now in
    let params = c.args.active_branch.now.params.now in
    let t = c.args.active_branch.now.tree.now.blocks in
    let s = setting_under params c.height_of.result c.as_slice-below.result.now in
    let m = c.args.start.layer.coins in
    let connected : IsConnected s m c.in_ok-block.block c.in-Ok.done.layer.coins c.in-Ok.done.undo = ok_part _ _ _ c.in-Ok.is c.in_ok-done.ensures.connected in
    c.in_ok-append.ensures
    ∙ ap (λ (u : List (List Coin)). c.args.start.undo.items ++ u ∷ [])
    (connected.spent
    ∙ undo-next params triples t c.args.place c.requires.place.0 c.requires.place.1 c.height_of.result m c.in_ok-block.block c.height_of.ensures c.requires.start.left (c.in_ok-block.ensures.block ∙ c.block.ensures))

pub returns-clause-next : goal.returns-clause-next
returns-clause-next g c =
    let triples = g.S.RunsScripts.agreeing c.args.env.now in
    let params = c.args.active_branch.now.params.now in
    let t = c.args.active_branch.now.tree.now.blocks in
    let s = setting_under params c.height_of.result c.as_slice-below.result.now in
    let m = c.args.start.layer.coins in
    let h = c.height_of.result in
    let txs = c.in_ok-block.block.txs in
    let connected : IsConnected s m c.in_ok-block.block c.in-Ok.done.layer.coins c.in-Ok.done.undo = ok_part _ _ _ c.in-Ok.is c.in_ok-done.ensures.connected in
    let left : ◌≡◌ {A = Layer} c.in-Ok.done.layer (record c.args.start.layer { coins = effect h m txs }) = ok_part _ _ _ c.in-Ok.is c.in_ok-done.ensures.coins in
    record {
      left = connected.after ∙ coins-next params triples t c.args.place c.requires.place.0 c.requires.place.1 h m c.in_ok-block.block c.height_of.ensures c.requires.start.left (c.in_ok-block.ensures.block ∙ c.block.ensures);
      base_is = ap (λ (l : Layer). l.base) left;
      medians_are =
          c.in_ok-push.ensures
          ∙ ap (λ (l : List ℕ). l ++ c.median.result ∷ []) c.requires.start.medians_are
          ∙ ap (λ (x : ℕ). reverse (medians_of (branch_blocks t (parent_at t c.args.place))) ++ x ∷ []) c.median.ensures
          ∙ sym (medians-next t c.args.place c.requires.place.0 c.requires.place.1);
    }

pub returns-in_err-push-clause-memory : goal.returns-in_err-push-clause-memory
returns-in_err-push-clause-memory g c =
    let stopped = err_from_is_err_and c.from_residual-in_err-push.result c.from_residual-in_err-push.ensures.1 in
    rw stopped.1 (g.met.S.RunsScripts.memory_tells c.in_err-push.field-0.0 stopped.0 stopped.2)

pub returns-in_err-append-clause-memory : goal.returns-in_err-append-clause-memory
returns-in_err-append-clause-memory g c =
    let stopped = err_from_is_err_and c.from_residual-in_err-append.result c.from_residual-in_err-append.ensures.1 in
    rw stopped.1 (g.met.S.RunsScripts.memory_tells c.in_err-append.field-0.0 stopped.0 stopped.2)
