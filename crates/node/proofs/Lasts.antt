-- The place of each seat's last entry, as the history grows.
use Rattle.std.proofs.Common.{◌≡◌, ◌≢◌, ◌+◌, ◌-◌, ℕ, zero, suc, ◌≤◌, ◌<◌, Bool, true, false, cond, eqb, List, [], ◌∷◌, ◌++◌, length, take, drop, set, map, Option, Some, refl, ap, sym, ◌∙◌, subst, arith, length-append}
use Rattle.std.specs.Prelude.{slice_get}
use Rattle.std.proofs.lemmas.List.{append-nil, drop-append-le, drop-drop, drop_all, length-set, take-append-drop}
use Rattle.std.proofs.lemmas.Bool.{eqb-true, eqb-false, ne_eqb}
use Rattle.model.specs.declared.command.Command.{Command}
use Rattle.model.specs.declared.reply.Reply.{Reply}
use Rattle.model.specs.declared.entry.Entry.{Entry}
use Rattle.model.specs.History.{own_of, entry_of}
use Rattle.model.specs.laws.History.{own_of-append}
use Rattle.node.specs.Pass.{owed_entry}
use Rattle.node.specs.inside.LastPlaces.{AreLastPlaces, IsLastPlace}
use Rattle.node.specs.inside.PublishedState.{entry_with_reply}

set_there : (xs : List ℕ) (i y z : ℕ) → slice_get (set xs i y) i ≡ Some z → z ≡ y
set_there [] i y z h = absurd (cc h)
set_there (x ∷ xs) zero y z h = cc h
set_there (x ∷ xs) (suc i) y z h = set_there xs i y z h

set_elsewhere : (xs : List ℕ) (i j y : ℕ) → (j ≡ i → ⊥) → slice_get (set xs i y) j ≡ slice_get xs j
set_elsewhere [] i j y h = refl
set_elsewhere (x ∷ xs) zero zero y h = absurd (h refl)
set_elsewhere (x ∷ xs) zero (suc j) y h = refl
set_elsewhere (x ∷ xs) (suc i) zero y h = refl
set_elsewhere (x ∷ xs) (suc i) (suc j) y h = set_elsewhere xs i j y (λ e. h (ap suc e))

-- of no entry
pub lasts_open : (seats : ℕ) (places : List ℕ) → length places ≡ seats → ((n place : ℕ) → slice_get places n ≡ Some place → place ≡ 0) → AreLastPlaces seats places []
lasts_open seats places all none = record { all = all; each = λ n place at. (omega (arith, none n place at), ap (own_of n) (drop_all place [] (omega arith))) }

-- one more of a seat's
module _ (seats n : ℕ) (places : List ℕ) (journal : List Entry) (e : Entry) (last : AreLastPlaces seats places journal) (seat : e.seat ≡ n) where
  grown : length (journal ++ e ∷ []) ≡ length journal + 1
  grown = length-append journal (e ∷ [])

  by_seat : (m place : ℕ) (b : Bool) → eqb m n ≡ b → slice_get (set places n (length journal + 1)) m ≡ Some place → IsLastPlace m place (journal ++ e ∷ [])
  by_seat m place true same at =
      let there = subst (λ (k : ℕ). slice_get (set places n (length journal + 1)) k ≡ Some place) (eqb-true m n same) at in
      let is : place ≡ length journal + 1 = set_there places n (length journal + 1) place there in
      (omega (arith, is, grown), ap (own_of m) (drop_all place (journal ++ e ∷ []) (omega (arith, is, grown))))
  by_seat m place false other at =
      let old = last.each m place (sym (set_elsewhere places n m (length journal + 1) (eqb-false m n other)) ∙ at) in
      let none : own_of m (e ∷ []) ≡ [] = ap (λ (b : Bool). cond b (e ∷ []) []) (ne_eqb e.seat m (λ h. eqb-false m n other (sym h ∙ seat))) in (
        omega (arith, old.0, grown),
        ap (own_of m) (drop-append-le place journal (e ∷ []) old.0) ∙ own_of-append m (drop place journal) (e ∷ []) ∙ (λ i. old.1 i ++ none i),
      )

  pub lasts_push : AreLastPlaces seats (set places n (length journal + 1)) (journal ++ e ∷ [])
  lasts_push = record {
    all = length-set places n (length journal + 1) ∙ last.all;
    each = λ m place at. by_seat m place (eqb m n) refl at;
  }

behind_reply : (n place : ℕ) (before : List Entry) (e : Entry) (r : Option Reply) → own_of n (drop place (before ++ e ∷ [])) ≡ [] → own_of n (drop place (before ++ entry_with_reply e r ∷ [])) ≡ []
behind_reply n zero [] e r h = one (eqb e.seat n) h
  where
    one : (b : Bool) → cond b (e ∷ []) [] ≡ [] → cond b (entry_with_reply e r ∷ []) [] ≡ []
    one true h = absurd (cc h)
    one false h = refl
behind_reply n (suc place) [] e r h = ap (own_of n) (drop_all (suc place) (entry_with_reply e r ∷ []) (omega arith))
behind_reply n zero (x ∷ xs) e r h = by (eqb x.seat n) (λ h. behind_reply n zero xs e r h) h
  where
    by : (b : Bool) → (own_of n (xs ++ e ∷ []) ≡ [] → own_of n (xs ++ entry_with_reply e r ∷ []) ≡ []) → cond b (x ∷ own_of n (xs ++ e ∷ [])) (own_of n (xs ++ e ∷ [])) ≡ []
        → cond b (x ∷ own_of n (xs ++ entry_with_reply e r ∷ [])) (own_of n (xs ++ entry_with_reply e r ∷ [])) ≡ []
    by true f h = absurd (cc h)
    by false f h = f h
behind_reply n (suc place) (x ∷ xs) e r h = behind_reply n place xs e r h

-- with another reply to the last entry
pub lasts_reply : (seats : ℕ) (places : List ℕ) (before : List Entry) (e : Entry) (r : Option Reply) → AreLastPlaces seats places (before ++ e ∷ []) → AreLastPlaces seats places (before ++ entry_with_reply e r ∷ [])
lasts_reply seats places before e r last = record {
  all = last.all;
  each = λ n place at. let old = last.each n place at in
      let same : length (before ++ e ∷ []) ≡ length (before ++ entry_with_reply e r ∷ []) = length-append before (e ∷ []) ∙ sym (length-append before (entry_with_reply e r ∷ [])) in
      (omega (arith, old.0, same), behind_reply n place before e r old.1);
}

-- behind its last entry a seat has none
pub none_behind : (n from to : ℕ) (journal : List Entry) → to ≤ from → own_of n (drop to journal) ≡ [] → own_of n (drop from journal) ≡ []
none_behind n from to journal le none =
    let k = from - to in
    let at : to + k ≡ from = omega (arith, le) in
    let later : drop k (drop to journal) ≡ drop from journal = drop-drop k to journal ∙ ap (λ (i : ℕ). drop i journal) at in
    let parts : own_of n (take k (drop to journal)) ++ own_of n (drop k (drop to journal)) ≡ [] =
    sym (own_of-append n (take k (drop to journal)) (drop k (drop to journal))) ∙ ap (own_of n) (take-append-drop k (drop to journal)) ∙ none in
    ap (own_of n) (sym later) ∙ second (own_of n (take k (drop to journal))) (own_of n (drop k (drop to journal))) parts
  where
    second : (xs ys : List Entry) → xs ++ ys ≡ [] → ys ≡ []
    second [] ys h = h
    second (x ∷ xs) ys h = absurd (cc h)

-- up to it stand all that stand behind a place
pub up_to_last : (n from to : ℕ) (journal : List Entry) → from ≤ to → own_of n (drop to journal) ≡ [] → own_of n (drop from journal) ≡ own_of n (take (to - from) (drop from journal))
up_to_last n from to journal le none =
    let k = to - from in
    let at : from + k ≡ to = omega (arith, le) in
    let later : drop k (drop from journal) ≡ drop to journal = drop-drop k from journal ∙ ap (λ (i : ℕ). drop i journal) at in
    ap (own_of n) (sym (take-append-drop k (drop from journal)))
    ∙ own_of-append n (take k (drop from journal)) (drop k (drop from journal))
    ∙ ap (λ (l : List Entry). own_of n (take k (drop from journal)) ++ l) (ap (own_of n) later ∙ none)
    ∙ append-nil (own_of n (take k (drop from journal)))

pub none_owed : (n : ℕ) (owed : List Command) → length owed ≡ 0 → map (owed_entry n) owed ≡ []
none_owed n [] h = refl
none_owed n (c ∷ cs) h = absurd (omega (arith, h))
