use Rattle.std.proofs.Common.{◌≡◌, ◌≤◌, ◌-◌, List, length, take, drop, Option, Some, None, Result, Ok, Err, IfOk, IfErr, sym, ap, subst, ◌∙◌, arith}
use Rattle.std.specs.List.{AllByRecursion}
use Rattle.txn.specs.Tx.{Tx}
use Rattle.txn.specs.declared.reason.Reason.{Reason}
use Rattle.txn.specs.First.{first_broken}
use Rattle.block.specs.declared.block.Block.{Block}
use Rattle.signatures.specs.Triple.{Triple, Triples}
use Rattle.connect.specs.laws.Stops.{wanted_weaker}
use Rattle.coins.specs.declared.coin.Coin.{Coin}
use Rattle.coins.specs.Coins.{Coins}
use Rattle.rules.specs.declared.in_force.InForce.{InForce}
use Rattle.connect.specs.BlockContext.{Setting, setting}
use Rattle.connect.specs.Turns.{undo_of}
use Rattle.connect.specs.Faults.{connect_rules}
use Rattle.connect.specs.Scripts.{Check, flags_of, IsConnectFault, IsFirstRefused, AreWantedAmong, AreWantedByBlock}
use Rattle.connect.specs.inside.ScriptLists.{checks_from}
use Rattle.connect.specs.inside.Turns.{IsLawful}
use Rattle.connect.specs.laws.Alone.{lawful_block}
use Rattle.connect.proofs.Whole.{Listed, listed, fault_is}
use Rattle.connect.proofs.connect_block.apply_in_layer.Goals as goal

pub connect_txs-requires-clause-some : goal.connect_txs-requires-clause-some
connect_txs-requires-clause-some g c =
    subst (λ (l : List Tx). 1 ≤ length l) (sym c.as_slice.ensures) (lawful_block c.args.of.now.block.now c.requires.alone).some

pub connect_txs-requires-clause-few : goal.connect_txs-requires-clause-few
connect_txs-requires-clause-few g c =
    subst (λ (l : List Tx). length l ≤ 1000000) (sym c.as_slice.ensures) (lawful_block c.args.of.now.block.now c.requires.alone).few

pub connect_txs-requires-clause-lawful : goal.connect_txs-requires-clause-lawful
connect_txs-requires-clause-lawful g c =
    subst (λ (l : List Tx). AllByRecursion IsLawful l) (sym c.as_slice.ensures) (lawful_block c.args.of.now.block.now c.requires.alone).lawful

pub slice_bounds-others-count : goal.slice_bounds-others-count
slice_bounds-others-count g c =
    subst (λ (l : List Tx). 1 ≤ length l) (sym c.as_slice-in-Ok.ensures) (lawful_block c.args.of.now.block.now c.requires.alone).some

pub slice_bounds-others-start : goal.slice_bounds-others-start
slice_bounds-others-start g c =
    subst (λ (l : List Tx). 1 ≤ length l) (sym c.as_slice-in-Ok.ensures) (lawful_block c.args.of.now.block.now c.requires.alone).some

pub first_refused-requires-clause-alike : goal.first_refused-requires-clause-alike
first_refused-requires-clause-alike g c =
    let s = setting c.args.context.now in
    let undo = c.in-Ok.ensures.pass.undo ∙ ap (undo_of s.height c.args.layer.coins) c.as_slice.ensures in
    (listed s c.args.layer.coins c.args.of.now.block.now _ c.in-Ok.undo (lawful_block c.args.of.now.block.now c.requires.alone) c.as_slice-in-Ok.ensures undo).fits

pub first_refused-requires-clause-few : goal.first_refused-requires-clause-few
first_refused-requires-clause-few g c =
    let s = setting c.args.context.now in
    let lawful = lawful_block c.args.of.now.block.now c.requires.alone in
    let undo = c.in-Ok.ensures.pass.undo ∙ ap (undo_of s.height c.args.layer.coins) c.as_slice.ensures in
    omega (arith, (listed s c.args.layer.coins c.args.of.now.block.now _ c.in-Ok.undo lawful c.as_slice-in-Ok.ensures undo).few, lawful.inputs)

-- the fault, or its absence, that the queue's answer leads to
answered : (s : Setting) (m : Coins) (b : Block) (slice txs : List Tx) (undo : List (List Coin)) (triples : Triples) (rules : InForce) (answer found : Option Reason)
    → Listed s m b.txs slice undo → rules ≡ s.rules → txs ≡ b.txs → first_broken (connect_rules s m txs) ≡ None
    → IsFirstRefused triples (checks_from (flags_of rules) 1 (take (length slice - 1) (drop 1 slice)) undo) answer → answer ≡ found → IsConnectFault s m b.txs triples found
answered s m b slice txs undo triples rules answer found l is same none refused told =
    fault_is s m b.txs triples found (ap (λ (l : List Tx). first_broken (connect_rules s m l)) (sym same) ∙ none)
    (subst (λ (k : List Check). IsFirstRefused triples k found) (l.checks rules is) (subst (λ o. IsFirstRefused triples (checks_from (flags_of rules) 1 (take (length slice - 1) (drop 1 slice)) undo) o) told refused))

-- what the queue answers
ok_part : {T E : Type 0} (P : T → Type 0) (r : Result T E) (x : T) → r ≡ Ok x → IfOk r P → P x
ok_part P r x e h = subst (λ a. IfOk a P) e h

err_part : {T E : Type 0} (P : E → Type 0) (r : Result T E) (x : E) → r ≡ Err x → IfErr r P → P x
err_part P r x e h = subst (λ a. IfErr a P) e h

pub returns-in-Ok-Some-clause-fault : goal.returns-in-Ok-Some-clause-fault
returns-in-Ok-Some-clause-fault g c triples agrees =
    let s = setting c.args.context.now in
    let m = c.args.layer.coins in
    let undo = c.in-Ok.ensures.pass.undo ∙ ap (undo_of s.height m) c.as_slice.ensures in
    let l = listed s m c.args.of.now.block.now _ c.in-Ok.undo (lawful_block c.args.of.now.block.now c.requires.alone) c.as_slice-in-Ok.ensures undo in
    answered s m c.args.of.now.block.now _ _ c.in-Ok.undo triples _ _ (Some c.in-Ok-Some.reason) l c.at-rules.ensures c.as_slice.ensures c.in-Ok.ensures.pass.none
    (ok_part _ _ _ c.in-Ok-Some.is c.first_refused.ensures.answer triples agrees) c.in-Ok-Some.field-0-is

pub returns-in-Ok-None-clause-scripts : goal.returns-in-Ok-None-clause-scripts
returns-in-Ok-None-clause-scripts g c triples agrees =
    let s = setting c.args.context.now in
    let m = c.args.layer.coins in
    let undo = c.in-Ok.ensures.pass.undo ∙ ap (undo_of s.height m) c.as_slice.ensures in
    let l = listed s m c.args.of.now.block.now _ c.in-Ok.undo (lawful_block c.args.of.now.block.now c.requires.alone) c.as_slice-in-Ok.ensures undo in
    answered s m c.args.of.now.block.now _ _ c.in-Ok.undo triples _ _ None l c.at-rules.ensures c.as_slice.ensures c.in-Ok.ensures.pass.none
    (ok_part _ _ _ c.in-Ok-None.is c.first_refused.ensures.answer triples agrees) c.in-Ok-None.field-0-is

pub returns-clause-scripts : goal.returns-clause-scripts
returns-clause-scripts g c =
    let s = setting c.args.context.now in
    let m = c.args.layer.coins in
    let undo = c.in-Ok.ensures.pass.undo ∙ ap (undo_of s.height m) c.as_slice.ensures in
    let l = listed s m c.args.of.now.block.now _ c.in-Ok.undo (lawful_block c.args.of.now.block.now c.requires.alone) c.as_slice-in-Ok.ensures undo in
    let known = g.S.RunsScripts.known c.args.env.now in
    let wants : (list : List Triple) → AreWantedAmong known (checks_from (flags_of c.at-rules.result) 1 (take (length c.as_slice-in-Ok.result.now - 1) (drop 1 c.as_slice-in-Ok.result.now)) c.in-Ok.undo) list → AreWantedByBlock s m c.args.of.now.block.now.txs known list = λ list wanted. record {
      passes = ap (λ (l : List Tx). first_broken (connect_rules s m l)) (sym c.as_slice.ensures) ∙ c.in-Ok.ensures.pass.none;
      scripts = subst (λ (k : List Check). AreWantedAmong known k list) (l.checks _ c.at-rules.ensures) wanted;
    } in
    wanted_weaker _ _ wants _ (err_part _ _ _ c.in-Err.is c.first_refused.ensures.stops)
