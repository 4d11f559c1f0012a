use Rattle.std.proofs.Common.{◌≡◌, Bool, cond, [], ◌∷◌, Option, Some, None, sym, ap, subst, ◌∙◌}
use Rattle.std.specs.List.{IsDistinct}
use Rattle.std.specs.Map.{keys_of}
use Rattle.std.proofs.lemmas.Map.Keys.{IsDistinct-from_sorted}
use Rattle.coins.specs.Coins.{Coin, Coins, outpoint_cmp, same}
use Rattle.coins.specs.Entries.{Entries, named, own_coin}
use Rattle.coins.specs.Changes.{Changes, after_changes}
use Rattle.coins.specs.inside.Changes.{goers}
use Rattle.coins.proofs.LayersMerge.{none_from}
use Rattle.coins.proofs.Rooms.{goers_distinct, laid_first, laid_nothing, rest_distinct}
use Rattle.coins.proofs.batch_write.take_away.Goals as goal

pub loop-at-init : goal.loop-at-init
loop-at-init c =
    let gives = c.into_iter-at-iterator.ensures.into_iter_gives in
    let cs = named c.args.entries.now.entries in
    let distinct : IsDistinct same (keys_of cs) = IsDistinct-from_sorted outpoint_cmp (keys_of cs) c.requires.in_order in
    record {
      distinct = subst (λ (es : Entries). IsDistinct same (keys_of (named es))) (sym gives.0) distinct;
      laid = ap (λ (es : Entries). after_changes c.args.coins.now (goers (named es))) gives.0;
    }

pub loop-at-preserved-then-not-holds_coin : goal.loop-at-preserved-then-not-holds_coin
loop-at-preserved-then-not-holds_coin c =
    let n = c.loop-at.coins in
    let k = c.in-Some.at.now in
    let e = c.in-Some.entry.now in
    let rest = c.next.new.self in
    let more : ◌≡◌ {A = Entries} c.loop-at.at-iterator ((k, e) ∷ rest) = c.in-Some.ensures.steps in
    let distinct : IsDistinct same (keys_of (named ((k, e) ∷ rest))) = subst (λ (es : Entries). IsDistinct same (keys_of (named es))) more c.loop-at.invariant.distinct in
    let own : own_coin (Some e) ≡ None = none_from (own_coin (Some e)) (sym c.holds_coin.ensures ∙ c.if-not-holds_coin.true) in
    record {
      distinct = rest_distinct k (own_coin (Some e)) (named rest) distinct;
      laid =
          ap (λ (x : Coins). after_changes x (goers (named rest))) c.remove.ensures
          ∙ laid_first n k None (goers (named rest)) (goers_distinct ((k, None) ∷ named rest) distinct)
          ∙ sym (ap (λ (w : Option Coin). after_changes n (goers ((k, w) ∷ named rest))) own)
          ∙ sym (ap (λ (es : Entries). after_changes n (goers (named es))) more)
          ∙ c.loop-at.invariant.laid;
    }

pub loop-at-preserved : goal.loop-at-preserved
loop-at-preserved c =
    let n = c.loop-at.coins in
    let k = c.in-Some.at.now in
    let e = c.in-Some.entry.now in
    let rest = c.next.new.self in
    let more : ◌≡◌ {A = Entries} c.loop-at.at-iterator ((k, e) ∷ rest) = c.in-Some.ensures.steps in
    let distinct : IsDistinct same (keys_of (named ((k, e) ∷ rest))) = subst (λ (es : Entries). IsDistinct same (keys_of (named es))) more c.loop-at.invariant.distinct in
    let all : Changes = goers (named rest) in
    record {
      distinct = rest_distinct k (own_coin (Some e)) (named rest) distinct;
      laid =
          sym (ap (λ (b : Bool). after_changes n (cond b all ((k, own_coin (Some e)) ∷ all))) (sym c.holds_coin.ensures ∙ c.if-not-holds_coin.false))
          ∙ sym (ap (λ (es : Entries). after_changes n (goers (named es))) more)
          ∙ c.loop-at.invariant.laid;
    }

pub returns : goal.returns
returns c =
    let none : ◌≡◌ {A = Entries} c.loop-at.at-iterator [] = c.in-None.ensures.steps.0 in
    sym (laid_nothing c.loop-at.coins) ∙ sym (ap (λ (es : Entries). after_changes c.loop-at.coins (goers (named es))) none) ∙ c.loop-at.invariant.laid
