use Rattle.std.specs.Int.{w128}
use Rattle.std.proofs.Common.{rules, to_z, of_z, ◌≡◌, ◌+◌, ◌++◌, ◌∷◌, [], List, ◌+ℤ◌, drop, map, sym, ap, ap₂, subst, ◌∙◌, arith}
use Rattle.std.specs.List.{AllByRecursion, flat_map, fold, list_any, drop-map}
use Rattle.std.proofs.lemmas.Int.{ints}
use Rattle.std.proofs.lemmas.List.{append_assoc, append-nil}
use Rattle.txn.specs.Tx.{Tx}
use Rattle.txn.specs.First.{first_broken}
use Rattle.txn.specs.Identity.{id_of}
use Rattle.coins.specs.declared.coin.Coin.{Coin}
use Rattle.coins.specs.Coins.{Coins, Layer}
use Rattle.connect.specs.BlockContext.{setting}
use Rattle.connect.specs.Turns.{Turn, turn, turns, effect, spent_in, left_by, full_count}
use Rattle.connect.specs.Faults.{fee, overwrites, turn_rules}
use Rattle.connect.specs.inside.Turns.{IsLawful, IsReason}
use Rattle.connect.proofs.Steps.{drop_item, drop_of_length-le, neither}
use Rattle.connect.proofs.Blocks.{turns_none, turns_next, effect_none, effect_next, past, still_first}
use Rattle.connect.proofs.connect_block.connect_others.Goals as goal

pub returns-in_err-turned-clause-fault : goal.returns-in_err-turned-clause-fault
returns-in_err-turned-clause-fault g c =
    let s = setting c.args.place.now.context.now in
    let h = s.height in
    let m = c.loop-index.layer.coins in
    let n = c.loop-index.so_far in
    let xs = c.args.txs.now in
    let i = c.loop-index.index in
    let x = c.index-txs-index.result in
    let rest = drop (i + 1) xs in
    let t = turn x m n in
    let item = drop_item xs i x (omega arith) c.index-txs-index.is in
    let after = flat_map (turn_rules s) (turns h (left_by h t) (full_count t) rest) in
    let first : IsReason (first_broken (turn_rules s t)) c.in_err-turned.field-0.0 = c.in_err-turned.ensures.fault in
    let whole : first_broken (turn_rules s t ++ after) ≡ first_broken (flat_map (turn_rules s) (turns h c.args.layer.coins c.args.counted xs)) =
    sym (ap (λ (l : List Tx). first_broken (flat_map (turn_rules s) (turns h m n l))) item ∙ ap (λ l. first_broken (flat_map (turn_rules s) l)) (turns_next h m n x rest)) ∙ c.loop-index.invariant.rules in
    let reason = subst (λ o. IsReason o c.in_err-turned.field-0.0) whole (still_first (turn_rules s t) after c.in_err-turned.field-0.0 first) in
    search rules

pub connect_tx-requires-clause-below : goal.connect_tx-requires-clause-below
connect_tx-requires-clause-below g c = λ above.
    let b = c.loop-index.layer.base in
    let xs = c.args.txs.now in
    let i = c.loop-index.index in
    let x = c.index-txs-index.result in
    let item = drop_item xs i x (omega arith) c.index-txs-index.is in
    (neither (overwrites b x) (list_any (overwrites b) (drop (i + 1) xs)) (sym (ap (list_any (overwrites b)) item) ∙ c.loop-index.invariant.below above)).0

pub overflow_add-fees : goal.overflow_add-fees
overflow_add-fees g c =
    let done = c.in_ok-turned.ensures.passes in
    let few = c.requires.few in
    let before = c.loop-index.invariant in
    omega (arith, ints, done.low, done.high, before.low, before.high, few)

pub loop-index-preserved : goal.loop-index-preserved
loop-index-preserved g c =
    let s = setting c.args.place.now.context.now in
    let h = s.height in
    let m = c.loop-index.layer.coins in
    let n = c.loop-index.so_far in
    let xs = c.args.txs.now in
    let i = c.loop-index.index in
    let x = c.index-txs-index.result in
    let rest = drop (i + 1) xs in
    let t = turn x m n in
    let item = drop_item xs i x (omega arith) c.index-txs-index.is in
    let done = c.in_ok-turned.ensures.passes in
    let new = c.in_ok-turned.turned.layer in
    let k = c.in_ok-turned.turned.passed.counted in
    let now : new.coins ≡ left_by h t = ap (λ (l : Layer). l.coins) done.layer in
    let later = turns h new.coins k rest in
    let turns_here : turns h m n (drop i xs) ≡ t ∷ later =
    ap (turns h m n) item ∙ turns_next h m n x rest ∙ ap₂ (λ (l : Coins) j. t ∷ turns h l j rest) (sym now) (sym done.counted) in
    let push : c.push.new.self ≡ c.loop-index.undo ++ c.in_ok-turned.turned.spent ∷ [] = c.in_ok-push.ensures.ok in
    let undo : c.push.new.self ++ map spent_in later ≡ c.loop-index.undo ++ map spent_in (turns h m n (drop i xs)) =
    ap (λ (l : List (List Coin)). l ++ map spent_in later) push
    ∙ append_assoc c.loop-index.undo (c.in_ok-turned.turned.spent ∷ []) (map spent_in later)
    ∙ ap (λ (l : List Coin). c.loop-index.undo ++ (l ∷ map spent_in later)) done.spent
    ∙ sym (ap (λ (l : List Turn). c.loop-index.undo ++ map spent_in l) turns_here) in
    let sum : to_z w128 (of_z w128 (to_z w128 c.loop-index.fees-bits +ℤ to_z w128 (of_z w128 c.in_ok-turned.turned.passed.fee))) ≡ to_z w128 c.loop-index.fees-bits +ℤ fee t = omega (arith, ints, done.fee, done.low, done.high) in
    record {
      base = ap (λ (l : Layer). l.base) done.layer ∙ c.loop-index.invariant.base;
      below = λ above. ap (λ (l : Layer). list_any (overwrites l.base) rest) done.layer
          ∙ (neither (overwrites c.loop-index.layer.base x) (list_any (overwrites c.loop-index.layer.base) rest) (sym (ap (list_any (overwrites c.loop-index.layer.base)) item) ∙ c.loop-index.invariant.below above)).1;
      lawful = (subst (λ (l : List Tx). AllByRecursion IsLawful l) item c.loop-index.invariant.lawful).1;
      ids = ap (drop (i + 1)) c.requires.ids ∙ drop-map id_of (i + 1) xs;
      rules = sym (ap (λ (l : List Turn). first_broken (flat_map (turn_rules s) l)) turns_here ∙ past (turn_rules s t) (flat_map (turn_rules s) later) done.none) ∙ c.loop-index.invariant.rules;
      undo = undo ∙ c.loop-index.invariant.undo;
      fees = ap (λ z. fold (λ sum turn. sum +ℤ fee turn) z later) sum
          ∙ sym (ap (λ (l : List Turn). fold (λ sum turn. sum +ℤ fee turn) (to_z w128 c.loop-index.fees-bits) l) turns_here)
          ∙ c.loop-index.invariant.fees;
      few = done.few;
      low = omega (arith, ints, done.low, done.high);
      high = omega (arith, ints, done.low, done.high);
      after = ap (λ (l : Coins). effect h l rest) now ∙ sym (ap (effect h m) item ∙ effect_next h m x rest) ∙ c.loop-index.invariant.after;
    }

pub returns-clause-pass : goal.returns-clause-pass
returns-clause-pass g c =
    let s = setting c.args.place.now.context.now in
    let h = s.height in
    let m = c.loop-index.layer.coins in
    let n = c.loop-index.so_far in
    let taken = c.loop-index.undo in
    let sum = λ (l : List Turn). fold (λ sum turn. sum +ℤ fee turn) (to_z w128 c.loop-index.fees-bits) l in
    let left : drop c.loop-index.index c.args.txs.now ≡ [] = drop_of_length-le c.args.txs.now (omega arith) in
    let over : turns h m n (drop c.loop-index.index c.args.txs.now) ≡ [] = ap (turns h m n) left ∙ turns_none h m n in
    record {
      none = sym c.loop-index.invariant.rules ∙ ap (λ l. first_broken (flat_map (turn_rules s) l)) over;
      layer = (let coins = sym (ap (effect h m) left ∙ effect_none h m) ∙ c.loop-index.invariant.after in
          let base = c.loop-index.invariant.base in
          λ i. record { base = base i; coins = coins i });
      undo = sym (append-nil taken) ∙ sym (ap (λ l. taken ++ map spent_in l) over) ∙ c.loop-index.invariant.undo;
      fees = sym (ap sum over) ∙ c.loop-index.invariant.fees;
      low = search rules;
      high = search rules;
    }
