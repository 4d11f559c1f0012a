use Rattle.std.proofs.Common.{rules, ◌≡◌, Bool, ℤ, cond, List, Some, None, pos, ◌+ℤ◌, drop, map, sym, ap, ap₂, subst, ◌∙◌}
use Rattle.std.specs.Prelude.{int_lt}
use Rattle.std.specs.Int.{w128}
use Rattle.std.specs.List.{list_any}
use Rattle.std.proofs.lemmas.Int.{to_z-of_z}
use Rattle.txn.specs.Tx.{Tx}
use Rattle.txn.specs.Check.{total}
use Rattle.txn.specs.declared.reason.Reason.TheVariants.{CoinbaseAmount}
use Rattle.txn.specs.First.{first_broken}
use Rattle.block.specs.Reward.{subsidy_of}
use Rattle.coins.specs.Coins.{Coins, Layer}
use Rattle.connect.specs.BlockContext.{Setting, setting}
use Rattle.connect.specs.Turns.{turns, effect, spent_in}
use Rattle.connect.specs.Faults.{overwrites, fees, reward_of, connect_rules}
use Rattle.connect.specs.inside.Turns.{IsReason}
use Rattle.connect.proofs.Blocks.{at_clash, at_turn, after_turns}
use Rattle.connect.proofs.BlockParts.{others, parted, none_overwrites, at_coinbase, begun}
use Rattle.connect.proofs.connect_block.connect_txs.Goals as goal

pub returns-then-is_overwriting-clause-fault : goal.returns-then-is_overwriting-clause-fault
returns-then-is_overwriting-clause-fault g c =
    at_clash (setting c.args.place.now.context.now) c.args.layer.coins c.args.txs.now (sym c.is_overwriting.ensures ∙ c.if-is_overwriting.true)

pub connect_tx-requires-clause-below : goal.connect_tx-requires-clause-below
connect_tx-requires-clause-below g c = λ above.
    let b = c.args.layer.base in
    let xs = c.args.txs.now in
    let p = parted (setting c.args.place.now.context.now) b xs c.index-txs-0.result c.requires.some c.index-txs-0.is in
    (none_overwrites b xs c.index-txs-0.result p.parts (ap (λ (m : Coins). list_any (overwrites m) xs) (sym (c.requires.fresh above)) ∙ sym c.is_overwriting.ensures ∙ c.if-is_overwriting.false)).0

pub connect_others-requires-clause-below : goal.connect_others-requires-clause-below
connect_others-requires-clause-below g c = λ above.
    let b = c.args.layer.base in
    let xs = c.args.txs.now in
    let p = parted (setting c.args.place.now.context.now) b xs c.index-txs-0.result c.requires.some c.index-txs-0.is in
    ap (λ (l : Layer). list_any (overwrites l.base) (others xs)) c.in_ok-coinbase.ensures.passes.layer
    ∙ (none_overwrites b xs c.index-txs-0.result p.parts (ap (λ (m : Coins). list_any (overwrites m) xs) (sym (c.requires.fresh above)) ∙ sym c.is_overwriting.ensures ∙ c.if-is_overwriting.false)).1

pub returns-in_err-coinbase-clause-fault : goal.returns-in_err-coinbase-clause-fault
returns-in_err-coinbase-clause-fault g c =
    let s = setting c.args.place.now.context.now in
    let m = c.args.layer.coins in
    let xs = c.args.txs.now in
    let p = parted s m xs c.index-txs-0.result c.requires.some c.index-txs-0.is in
    let reason = at_coinbase s m xs c.index-txs-0.result c.in_err-coinbase.field-0.0 p (sym c.is_overwriting.ensures ∙ c.if-is_overwriting.false) c.in_err-coinbase.ensures.fault in
    search rules

pub returns-in_err-others-clause-fault : goal.returns-in_err-others-clause-fault
returns-in_err-others-clause-fault g c =
    let s = setting c.args.place.now.context.now in
    let m = c.args.layer.coins in
    let xs = c.args.txs.now in
    let p = parted s m xs c.index-txs-0.result c.requires.some c.index-txs-0.is in
    let b = begun s c.args.layer xs c.index-txs-0.result _ _ _ _ p c.in_ok-coinbase.ensures.passes in
    let why = c.in_err-others.field-0.0 in
    let reason : IsReason (first_broken (connect_rules s m xs)) why =
    at_turn s m xs why (sym c.is_overwriting.ensures ∙ c.if-is_overwriting.false) (subst (λ o. IsReason o why) (sym b.rules_are) c.in_err-others.ensures.fault) in
    search rules

-- whether the coinbase takes too much
overpaid : (s : Setting) (m : Coins) (xs : List Tx) (found : Bool) (given : ℤ) (reward : ℤ) → found ≡ int_lt (pos (subsidy_of s.height) +ℤ given) reward
    → given ≡ fees (drop 1 (turns s.height m 0 xs)) → reward ≡ reward_of xs → found ≡ int_lt (pos (subsidy_of s.height) +ℤ fees (drop 1 (turns s.height m 0 xs))) (reward_of xs)
overpaid s m xs found given reward is taken paid = is ∙ ap₂ (λ y z. int_lt (pos (subsidy_of s.height) +ℤ y) z) taken paid

pub returns-then-is_overpaid-clause-fault : goal.returns-then-is_overpaid-clause-fault
returns-then-is_overpaid-clause-fault g c =
    let s = setting c.args.place.now.context.now in
    let m = c.args.layer.coins in
    let xs = c.args.txs.now in
    let p = parted s m xs c.index-txs-0.result c.requires.some c.index-txs-0.is in
    let b = begun s c.args.layer xs c.index-txs-0.result _ _ _ _ p c.in_ok-coinbase.ensures.passes in
    let all = c.in_ok-others.ensures.pass in
    let paid : total c.as_slice.result.now ≡ reward_of xs = ap total (c.as_slice.ensures ∙ ap (λ (x : Tx). x.outputs) c.first.view_is) ∙ search rules in
    let taken = to_z-of_z w128 c.in_ok-others.others.fees (search rules) ∙ all.fees ∙ ap fees (b.turns_are ∙ sym p.later) in
    let over = overpaid s m xs c.is_overpaid.result _ _ c.is_overpaid.ensures taken paid in
    after_turns s m xs (sym c.is_overwriting.ensures ∙ c.if-is_overwriting.false) (b.rules_are ∙ all.none)
    ∙ ap (λ b. cond b (Some CoinbaseAmount) None) (sym over ∙ c.if-is_overpaid.true)

pub returns-clause-pass : goal.returns-clause-pass
returns-clause-pass g c =
    let s = setting c.args.place.now.context.now in
    let m = c.args.layer.coins in
    let xs = c.args.txs.now in
    let p = parted s m xs c.index-txs-0.result c.requires.some c.index-txs-0.is in
    let b = begun s c.args.layer xs c.index-txs-0.result _ _ _ _ p c.in_ok-coinbase.ensures.passes in
    let all = c.in_ok-others.ensures.pass in
    let paid : total c.as_slice.result.now ≡ reward_of xs = ap total (c.as_slice.ensures ∙ ap (λ (x : Tx). x.outputs) c.first.view_is) ∙ search rules in
    let taken = to_z-of_z w128 c.in_ok-others.others.fees (search rules) ∙ all.fees ∙ ap fees (b.turns_are ∙ sym p.later) in
    let over = overpaid s m xs c.is_overpaid.result _ _ c.is_overpaid.ensures taken paid in
    let base = ap (λ (l : Layer). l.base) all.layer ∙ ap (λ (l : Layer). l.base) c.in_ok-coinbase.ensures.passes.layer in
    let coins = ap (λ (l : Layer). l.coins) all.layer ∙ ap (λ (l : Coins). effect s.height l (others xs)) b.coins_are ∙ sym p.effect_is in
    record {
      none = after_turns s m xs (sym c.is_overwriting.ensures ∙ c.if-is_overwriting.false) (b.rules_are ∙ all.none)
          ∙ ap (λ b. cond b (Some CoinbaseAmount) None) (sym over ∙ c.if-is_overpaid.false);
      layer = λ i. record { base = base i; coins = coins i };
      undo = all.undo ∙ ap (map spent_in) b.turns_are ∙ sym p.undo;
    }
