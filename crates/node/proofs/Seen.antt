-- What a read answers: the value of the state after all that the seat has then seen.
use Rattle.std.proofs.Common.{◌≡◌, ℕ, List, length, take, refl, ap, sym, ◌∙◌, subst, arith, take_all}
use Rattle.std.specs.Prelude.{Option}
use Rattle.block.specs.declared.block.Block.{Block}
use Rattle.txn.specs.declared.outpoint.OutPoint.{OutPoint}
use Rattle.coins.specs.Coins.{Coins}
use Rattle.coins.specs.declared.coin.Coin.{Coin}
use Rattle.signatures.specs.Known.{Agrees, Under}
use Rattle.signatures.specs.Triple.{Triples}
use Rattle.tree.specs.State.{State}
use Rattle.model.specs.declared.entry.Entry.{Entry}
use Rattle.view.specs.Origin.{Origin, known_in}
use Rattle.view.specs.ViewState.{ViewState, state_after}
use Rattle.node.specs.Pass.{Pass, IsRead, AreCoins}
use Rattle.node.specs.Told.{AreNext, coins_in}

-- what the state gives after entries that are all that the seat has then seen is read there
pub read_after : {V : Type 0} (value : Origin → Triples → State Block → V) (p q : Pass) (at : ℕ) (o : Origin) (es : List Entry) (answer : V) → o ≡ p.origin → es ≡ q.seen → at ≡ length q.seen → q.mine ≡ p.mine → q.wants ≡ p.wants
    → Under (known_in o es) (λ valid. answer ≡ value o valid (state_after o valid es)) → IsRead p q (value p.origin) at answer
read_after value p q at o es answer origin seen at_is mine wants said = record {
  at_is = at_is;
  value_is = λ valid agrees.
      said valid (subst (λ (x : Origin). Agrees (known_in x es) valid) (sym origin) (subst (λ (l : List Entry). Agrees (known_in p.origin l) valid) (sym seen) agrees))
      ∙ (λ i. value (origin i) valid (state_after (origin i) valid (seen i)))
      ∙ ap (λ (l : List Entry). value p.origin valid (state_after p.origin valid l)) (sym (take_all at q.seen (omega (arith, at_is))));
  mine_is = mine;
  wants_is = wants;
}

-- what is read of a view that has all that the seat has then seen
module _ (p q : Pass) (x : ViewState) (at : ℕ) (origin : x.origin ≡ p.origin) (journal : x.journal ≡ q.seen) (at_is : at ≡ length q.seen) (mine : q.mine ≡ p.mine) (wants : q.wants ≡ p.wants) where
  there : (valid : Triples) → Agrees (known_in p.origin q.seen) valid → Agrees (known_in x.origin x.journal) valid
  there valid agrees = subst (λ (o : Origin). Agrees (known_in o x.journal) valid) (sym origin) (subst (λ (es : List Entry). Agrees (known_in p.origin es) valid) (sym journal) agrees)

  whole : take at q.seen ≡ q.seen
  whole = take_all at q.seen (omega (arith, at_is))

  pub read_there : {V : Type 0} (value : Origin → Triples → State Block → V) (answer : V) → Under (known_in x.origin x.journal) (λ valid. answer ≡ value x.origin valid (state_after x.origin valid x.journal))
      → IsRead p q (value p.origin) at answer
  read_there value answer told = read_after value p q at x.origin x.journal answer origin journal at_is mine wants told

  pub coins_there : (above : Option OutPoint) (most : ℕ) (list : List (OutPoint × Coin)) → Under (known_in x.origin x.journal) (λ valid. AreNext (coins_in x.origin valid (state_after x.origin valid x.journal)) above most list)
      → AreCoins p q above most at list
  coins_there above most list told = record {
    at_is = at_is;
    answer_is = λ valid agrees.
        subst (λ (m : Coins). AreNext m above most list)
        ((λ i. coins_in (origin i) valid (state_after (origin i) valid (journal i))) ∙ ap (λ (es : List Entry). coins_in p.origin valid (state_after p.origin valid es)) (sym whole))
        (told valid (there valid agrees));
    mine_is = mine;
    wants_is = wants;
  }
