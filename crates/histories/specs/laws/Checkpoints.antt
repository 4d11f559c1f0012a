-- A history splits at any place: what follows is legal from the state that the front leaves, and leads to the same state.
use Rattle.std.proofs.Common.{refl, ◌≡◌, ℕ, ◌+◌, List, [], ◌∷◌, ◌++◌, length, sym, ◌∙◌, ap, subst, arith, length-append, Option}
use Rattle.block.specs.declared.block.Block.{Block}
use Rattle.tree.specs.State.{State}
use Rattle.signatures.specs.Triple.{Triples}
use Rattle.signatures.specs.Known.{Agrees, Known, Under, Verdicts}
use Rattle.model.specs.Machine.{Machine}
use Rattle.model.specs.declared.entry.Entry.{Entry}
use Rattle.model.specs.History.{LegalFrom, state_left, state_after_entries}
use Rattle.model.specs.laws.History.{state_after-append}
use Rattle.model.specs.Learnt.{found_by, none_found, found_in, found_from, known_by, AreNewsFrom}
use Rattle.model.specs.laws.Learnt.{found_from-append, are_news-rest, agreed_before}
use Rattle.view.specs.Origin.{Origin, known_in, machine}
use Rattle.view.specs.ViewState.{state_after, IsLegal}
use Rattle.histories.specs.Checkpoints.{Checkpoint, IsCheckpointOf, IsLegalFrom, IsReached, genesis, opened_in, known_from}

pub legal_rest : (m : Machine) (seats : ℕ) (s : m.State) (xs ys : List Entry) → LegalFrom m seats s (xs ++ ys) → LegalFrom m seats (state_after_entries m s xs) ys
legal_rest m seats s [] ys h = h
legal_rest m seats s (x ∷ xs) ys h = legal_rest m seats (state_left s (m.step s x.command)) xs ys h.1

pub legal_join : (m : Machine) (seats : ℕ) (s : m.State) (xs ys : List Entry) → LegalFrom m seats s xs → LegalFrom m seats (state_after_entries m s xs) ys → LegalFrom m seats s (xs ++ ys)
legal_join m seats s [] ys h k = k
legal_join m seats s (x ∷ xs) ys h k = (h.0, legal_join m seats (state_left s (m.step s x.command)) xs ys h.1 k)

news_join : (table : Option Triples) (found : Verdicts) (xs ys : List Entry) → AreNewsFrom table found xs → AreNewsFrom table (found_from found xs) ys → AreNewsFrom table found (xs ++ ys)
news_join table found [] ys h k = k
news_join table found (x ∷ xs) ys h k = (h.0, news_join table (found_by found x.command) xs ys h.1 k)

-- opened in another state, a chainstate takes the same steps
from_here : (m : Machine) (s : m.State) (seats : ℕ) (t : m.State) (es : List Entry) → LegalFrom m seats t es → LegalFrom (opened_in m s) seats t es
from_here m s seats t [] h = tt
from_here m s seats t (e ∷ es) h = (record { seat_is = h.0.seat_is; reply_is = h.0.reply_is }, from_here m s seats (state_left t (m.step t e.command)) es h.1)

to_here : (m : Machine) (s : m.State) (seats : ℕ) (t : m.State) (es : List Entry) → LegalFrom (opened_in m s) seats t es → LegalFrom m seats t es
to_here m s seats t [] h = tt
to_here m s seats t (e ∷ es) h = (record { seat_is = h.0.seat_is; reply_is = h.0.reply_is }, to_here m s seats (state_left t (m.step t e.command)) es h.1)

pub length_whole_of : (o : Origin) (xs ys : List Entry) (c : Checkpoint) → IsCheckpointOf o xs c → length (xs ++ ys) ≡ c.count + length ys
length_whole_of o xs ys c is = omega (arith, length-append xs ys, is.count_is)

module _ (o : Origin) (xs ys : List Entry) (c : Checkpoint) (is : IsCheckpointOf o xs c) (legal : IsLegal o xs) where
  found_whole : found_in (xs ++ ys) ≡ found_from c.found ys
  found_whole = found_from-append none_found xs ys ∙ ap (λ (f : Verdicts). found_from f ys) is.found_is

  pub known_whole : known_in o (xs ++ ys) ≡ known_from o c ys
  known_whole = ap (λ (f : Verdicts). known_by o.table f) found_whole

  -- what agrees behind the tail agreed at the checkpoint
  module _ (news : AreNewsFrom o.table c.found ys) (valid : Triples) (agrees : Agrees (known_from o c ys) valid) where
    pub agreed : Agrees (known_in o xs) valid
    agreed = subst (λ (f : Verdicts). Agrees (known_by o.table f) valid) (sym is.found_is) (agreed_before o.table c.found ys valid news agrees)

    pub state_whole : state_after o valid (xs ++ ys) ≡ state_after_entries (machine o valid) c.state ys
    state_whole = let m = machine o valid in
        state_after-append m m.opening xs ys ∙ ap (λ (s : State Block). state_after_entries m s ys) (is.state_is valid agreed)

  news_rest : IsLegal o (xs ++ ys) → AreNewsFrom o.table c.found ys
  news_rest whole = subst (λ (f : Verdicts). AreNewsFrom o.table f ys) is.found_is (are_news-rest o.table none_found xs ys whole.news)

  pub whole_to_tail : IsLegal o (xs ++ ys) → IsLegalFrom o c ys
  whole_to_tail whole = let news = news_rest whole in record {
    news = news;
    legal = λ valid agrees. let m = machine o valid in
        from_here m c.state o.seats c.state ys
        (subst (λ (s : State Block). LegalFrom m o.seats s ys) (is.state_is valid (agreed news valid agrees))
        (legal_rest m o.seats m.opening xs ys (whole.legal valid (subst (λ (k : Known). Agrees k valid) (sym known_whole) agrees))));
  }

  pub tail_to_whole : IsLegalFrom o c ys → IsLegal o (xs ++ ys)
  tail_to_whole tail = record {
    news = news_join o.table none_found xs ys legal.news (subst (λ (f : Verdicts). AreNewsFrom o.table f ys) (sym is.found_is) tail.news);
    legal = λ valid agrees. let m = machine o valid in
        let agrees_tail : Agrees (known_from o c ys) valid = subst (λ (k : Known). Agrees k valid) known_whole agrees in
        let before = agreed tail.news valid agrees_tail in
        legal_join m o.seats m.opening xs ys (legal.legal valid before)
        (subst (λ (s : State Block). LegalFrom m o.seats s ys) (sym (is.state_is valid before))
        (to_here m c.state o.seats c.state ys (tail.legal valid agrees_tail)));
  }

  -- a checkpoint of the tail from this one is one of the whole
  pub goes_on : (next : Checkpoint) → IsLegalFrom o c ys → next.count ≡ c.count + length ys
      → Under (known_from o c ys) (λ valid. state_after_entries (machine o valid) c.state ys ≡ next.state)
      → found_from c.found ys ≡ next.found → IsCheckpointOf o (xs ++ ys) next
  goes_on next tail count state found = record {
    count_is = count ∙ sym (length_whole_of o xs ys c is);
    state_is = λ valid agrees. let agrees_tail : Agrees (known_from o c ys) valid = subst (λ (k : Known). Agrees k valid) known_whole agrees in
        state_whole tail.news valid agrees_tail ∙ state valid agrees_tail;
    found_is = found_whole ∙ found;
  }

pub genesis_is_reached : (o : Origin) → IsReached o genesis
genesis_is_reached o = (
  [],
  record { news = tt; legal = λ valid agrees. tt },
  record { count_is = refl; state_is = λ valid agrees. refl; found_is = refl },
)
