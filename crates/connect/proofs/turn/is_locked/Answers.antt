use Rattle.std.proofs.Common.{◌≡◌, ℕ, Bool, true, false, cond, not, ◌&&◌, ◌||◌, nat_le, List, [], ◌∷◌, length, map, refl, sym, ap, ◌∙◌, arith}
use Rattle.std.specs.List.{zip, list_all}
use Rattle.txn.specs.declared.outpoint.OutPoint.{OutPoint}
use Rattle.txn.specs.Tx.{Tx}
use Rattle.txn.specs.Check.{is_coinbase, prevs}
use Rattle.locks.specs.declared.relative.LockStart.{LockStart}
use Rattle.locks.specs.Relative.{is_met, are_met}
use Rattle.coins.specs.declared.coin.Coin.{Coin}
use Rattle.rules.specs.declared.in_force.InForce.{InForce}
use Rattle.undo.specs.Effect.{spends}
use Rattle.connect.specs.Faults.{lock_start}
use Rattle.connect.proofs.turn.is_locked.Goals.{then-is_coinbase-via-then-is_coinbase, then-is_coinbase-via-else-is_coinbase+then-not-at}
use Rattle.connect.proofs.turn.is_locked.Goals as goal

no_pairs : {A B : Type 0} (xs : List A) → zip {X = B} xs [] ≡ []
no_pairs [] = refl
no_pairs (x ∷ xs) = refl

or_true : (a b : Bool) → b ≡ true → (a || b) ≡ true
or_true true b h = refl
or_true false b h = h

and_false : (a b : Bool) → b ≡ false → (a && b) ≡ false
and_false true b h = h
and_false false b h = refl

no_length : {A : Type 0} (xs : List A) → length xs ≡ 0 → xs ≡ []
no_length [] h = refl
no_length (x ∷ xs) h = absurd (omega arith)

off_where_not : (b : Bool) → not b ≡ true → b ≡ false
off_where_not false h = refl
off_where_not true h = cc

spends_none : (tx : Tx) → is_coinbase tx ≡ true → length (spends tx) ≡ 0
spends_none tx h = let none : List OutPoint = [] in ap (λ b. length (cond b none (prevs tx.inputs))) h

met_without : (tx : Tx) (height cutoff : ℕ) → are_met tx [] height cutoff ≡ true
unfolding are_met
met_without tx height cutoff = or_true _ (list_all (λ p. is_met height cutoff p.0.sequence p.1) (zip {X = LockStart} tx.inputs [])) (ap (list_all (λ p. is_met height cutoff p.0.sequence p.1)) (no_pairs tx.inputs))

pub returns-then-is_coinbase : goal.returns-then-is_coinbase
returns-then-is_coinbase c = elim c.then-is_coinbase.branch [
  | then-is_coinbase-via-then-is_coinbase w ↦
      (let tx = c.args.tx.now in
      let context = c.args.context.now in
      let first : is_coinbase tx ≡ true = sym c.is_coinbase.ensures.test ∙ w.if-is_coinbase.true in
      let none : c.args.coins.now ≡ [] = no_length c.args.coins.now (c.requires ∙ spends_none tx first) in
      sym (and_false _ _ (ap not (ap (λ (coins : List Coin). are_met tx (map (lock_start context.medians.now) coins) context.height context.cutoff) none ∙ met_without tx context.height context.cutoff))))
  | then-is_coinbase-via-else-is_coinbase+then-not-at w ↦
      (let context = c.args.context.now in
      let off : nat_le context.params.now.csv context.height ≡ false = ap (λ (rules : InForce). rules.csv) (sym w.at.ensures) ∙ off_where_not w.at.result.csv w.if-not-at.true in
      sym (ap (λ b. b && not (are_met c.args.tx.now (map (lock_start context.medians.now) c.args.coins.now) context.height context.cutoff)) off))
]
