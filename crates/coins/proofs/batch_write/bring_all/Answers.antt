use Rattle.std.proofs.Common.{◌≡◌, [], ◌∷◌, Option, Some, None, sym, ap, subst, ◌∙◌}
use Rattle.std.specs.List.{IsDistinct}
use Rattle.std.specs.Map.{keys_of}
use Rattle.std.proofs.lemmas.Map.Keys.{IsDistinct-from_sorted}
use Rattle.coins.specs.Coins.{Coin, Coins, outpoint_cmp, same}
use Rattle.coins.specs.Entries.{Entries, named, own_coin}
use Rattle.coins.specs.Changes.{after_changes}
use Rattle.coins.specs.inside.Changes.{comers}
use Rattle.coins.proofs.Rooms.{comers_distinct, laid_first, laid_nothing, rest_distinct}
use Rattle.coins.proofs.batch_write.bring_all.Goals as goal

pub loop-at-init : goal.loop-at-init
loop-at-init c =
    let gives = c.into_iter-at-iterator.ensures.into_iter_gives in
    let cs = named c.args.entries.now.entries in
    let distinct : IsDistinct same (keys_of cs) = IsDistinct-from_sorted outpoint_cmp (keys_of cs) c.requires.in_order in
    record {
      distinct = subst (λ (es : Entries). IsDistinct same (keys_of (named es))) (sym gives.0) distinct;
      noted = λ m u. u;
      laid = ap (λ (es : Entries). after_changes c.args.coins.now (comers (named es))) gives.0;
    }

pub loop-at-preserved-in-Continue-branch-3 : goal.loop-at-preserved-in-Continue-branch-3
loop-at-preserved-in-Continue-branch-3 c =
    let n = c.loop-at.coins in
    let k = c.in-Some.at.now in
    let e = c.in-Some.entry.now in
    let v = c.in-Some-2.coin in
    let rest = c.next.new.self in
    let more : ◌≡◌ {A = Entries} c.loop-at.at-iterator ((k, e) ∷ rest) = c.in-Some.ensures.steps in
    let distinct : IsDistinct same (keys_of (named ((k, e) ∷ rest))) = subst (λ (es : Entries). IsDistinct same (keys_of (named es))) more c.loop-at.invariant.distinct in
    let own : own_coin (Some e) ≡ Some v = sym c.in_ok-coin.ensures ∙ c.in-Some-2.is in
    record {
      distinct = rest_distinct k (own_coin (Some e)) (named rest) distinct;
      noted = λ m u. c.bring.ensures.noted m (c.loop-at.invariant.noted m u);
      laid =
          ap (λ (x : Coins). after_changes x (comers (named rest))) c.in_ok-bring.ensures.ok
          ∙ laid_first n k (Some v) (comers (named rest)) (comers_distinct ((k, Some v) ∷ named rest) distinct)
          ∙ sym (ap (λ (w : Option Coin). after_changes n (comers ((k, w) ∷ named rest))) own)
          ∙ sym (ap (λ (es : Entries). after_changes n (comers (named es))) more)
          ∙ c.loop-at.invariant.laid;
    }

pub loop-at-preserved : goal.loop-at-preserved
loop-at-preserved c =
    let n = c.loop-at.coins in
    let k = c.in-Some.at.now in
    let e = c.in-Some.entry.now in
    let rest = c.next.new.self in
    let more : ◌≡◌ {A = Entries} c.loop-at.at-iterator ((k, e) ∷ rest) = c.in-Some.ensures.steps in
    let distinct : IsDistinct same (keys_of (named ((k, e) ∷ rest))) = subst (λ (es : Entries). IsDistinct same (keys_of (named es))) more c.loop-at.invariant.distinct in
    let own : own_coin (Some e) ≡ None = sym c.in_ok-coin.ensures ∙ c.in_default.is in
    record {
      distinct = rest_distinct k (own_coin (Some e)) (named rest) distinct;
      noted = c.loop-at.invariant.noted;
      laid =
          sym (ap (λ (w : Option Coin). after_changes n (comers ((k, w) ∷ named rest))) own)
          ∙ sym (ap (λ (es : Entries). after_changes n (comers (named es))) more)
          ∙ c.loop-at.invariant.laid;
    }

pub returns-clause-ok : goal.returns-clause-ok
returns-clause-ok c =
    let none : ◌≡◌ {A = Entries} c.loop-at.at-iterator [] = c.in-None.ensures.steps.0 in
    sym (laid_nothing c.loop-at.coins) ∙ sym (ap (λ (es : Entries). after_changes c.loop-at.coins (comers (named es))) none) ∙ c.loop-at.invariant.laid
