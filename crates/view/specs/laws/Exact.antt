-- A view stays exact: at first, and after each publication that may follow.
use Rattle.std.proofs.Common.{◌≡◌, ℕ, ◌-◌, ◌<◌, Bool, true, false, if◌then◌else◌, List, [], ◌∷◌, ◌++◌, map, take, length, length-append, Option, Some, None, refl, sym, ap, ◌∙◌, subst, arith}
use Rattle.std.proofs.lemmas.List.{append-nil}
use mathlib.Core.List.{IsPrefix}
use Rattle.std.specs.Option.{option_to_list}
use Rattle.std.specs.FinMap as coin_map
use Rattle.logbook.specs.Pages.{Book}
use Rattle.block.specs.declared.block.Block.{Block}
use Rattle.signatures.specs.Triple.{Triples}
use Rattle.signatures.specs.Known.{Agrees, Verdicts, Under}
use Rattle.coins.specs.Changes.{after_changes}
use Rattle.coins.specs.laws.Changes.{laid-changes}
use Rattle.tree.specs.Branches.{height}
use Rattle.tree.specs.Limits.{max_blocks}
use Rattle.tree.specs.State.{State, opening}
use Rattle.tree.specs.Tips.{tip_of_id}
use Rattle.model.specs.declared.reply.Reply.{Reply}
use Rattle.model.specs.declared.entry.Entry.{Entry}
use Rattle.model.specs.History.{Answers, Stands, entry_of, state_after_entries}
use Rattle.model.specs.Learnt.{AreNews, IsNews, found_by, found_in, known_by, none_found}
use Rattle.model.specs.Regtest.{ledger, regtest}
use Rattle.model.specs.Replay.{coins, coins_at}
use Rattle.model.specs.Settle.{active}
use Rattle.model.specs.laws.Actives.{active_kept}
use Rattle.model.specs.laws.Coins.{coins-genesis}
use Rattle.model.specs.laws.History.{state_after-append, legal_push, legal_front, stands_within}
use Rattle.model.specs.laws.Learnt.{found_in-push, are_news-push, are_news-front, are_news-rest, found_from-append}
use Rattle.model.specs.laws.Steps.{opening_sound}
use Rattle.view.specs.declared.chain_info.ChainInfo.{ChainInfo}
use Rattle.view.specs.declared.publication.Publication.{Publication}
use Rattle.view.specs.Origin.{Origin, known_in, machine}
use Rattle.view.specs.ViewState.{ViewState, IsExact, IsInfo, IsLegal, IsLegalWith, IsStateWith, state_after, coins_after, but_last, after_publication, after_publications, opening_view}
use Rattle.view.specs.NextPublications.{IsNext, IsOwed, AllOwed, AllFollow}

-- genesis leaves no coins
opening_coins : (o : Origin) (valid : Triples) → coin_map.empty ≡ coins_after o valid []
opening_coins o valid =
    let r = regtest o.params valid in
    let sound = opening_sound r in
    let low = active_kept r opening sound.genesis in
    let at : 0 ≡ active r opening = omega (arith, low) in
    sym (coins-genesis r ledger []) ∙ ap (λ (p : ℕ). coins_at r ledger [] p) at

pub opening_legal : (o : Origin) → IsLegal o []
opening_legal o = record { news = tt; legal = λ valid agrees. tt }

pub opening_exact : (o : Origin) (info : ChainInfo) → Under (known_in o []) (λ valid. IsInfo o valid [] info) → info.height < max_blocks → IsExact (opening_view o info)
opening_exact o info h fits = record {
  whole = refl;
  legal = opening_legal o;
  state_is = λ valid agrees. record { coins_are = opening_coins o valid; info_is = h valid agrees };
  height_fits = fits;
}

-- what a publication leaves, from its book and whether it is one entry more
abbrev after_parts : ViewState → Publication → Book → Bool → ViewState
after_parts x p book new = record {
  origin = record x.origin { book = book };
  before = p.before.entries;
  last = Some p.entry;
  journal = (if new then x.journal else but_last x.journal) ++ p.entry ∷ [];
  coins = if new then after_changes x.coins p.changes else x.coins;
  info = p.info;
}

after_by : (x : ViewState) (p : Publication) (new : Bool) → p.is_new ≡ new → p.before.book ≡ x.origin.book → after_publication x p ≡ after_parts x p x.origin.book new
after_by x p new is book = ap (λ b. after_parts x p b p.is_new) book ∙ ap (λ v. after_parts x p x.origin.book v) is

-- one entry more
next_exact : (x : ViewState) (p : Publication) → IsExact x → IsNext x p → IsExact (after_publication x p)
next_exact x p exact h =
    subst IsExact (sym (after_by x p true h.is_new h.book_is)) (record {
      whole = ap (λ (es : List Entry). es ++ p.entry ∷ []) (sym h.before_is);
      legal = h.legal;
      state_is = λ valid agrees. let b = h.brings valid agrees in record {
        coins_are = laid-changes x.coins (coins_after x.origin valid (x.journal ++ p.entry ∷ [])) p.changes b.changes_are;
        info_is = b.info_is;
      };
      height_fits = h.height_fits;
    })

-- all but the last of a list with one more is the list
take_whole : (xs : List Entry) (e : Entry) → take (length xs) (xs ++ e ∷ []) ≡ xs
take_whole [] e = refl
take_whole (x ∷ xs) e = ap (λ (es : List Entry). x ∷ es) (take_whole xs e)

but_last-one : (xs : List Entry) (e : Entry) → but_last (xs ++ e ∷ []) ≡ xs
but_last-one xs e =
    let n : length (xs ++ e ∷ []) - 1 ≡ length xs = omega (arith, length-append xs (e ∷ [])) in
    ap (λ (k : ℕ). take k (xs ++ e ∷ [])) n ∙ take_whole xs e

-- a step's reply may be owed
owed_answers : {S : Type 0} (r : Option Reply) (o : Option (S × Reply)) → Answers r o → Answers None o
owed_answers r None h = h
owed_answers r (Some x) h = tt

-- what is known of signatures after an entry hangs on its command alone
pub found-push : (xs : List Entry) (d e : Entry) → d.command ≡ e.command → found_in (xs ++ d ∷ []) ≡ found_in (xs ++ e ∷ [])
found-push xs d e same = found_in-push xs d ∙ ap (found_by (found_in xs)) same ∙ sym (found_in-push xs e)

-- and so does whether it is news
pub news-push : (o : Origin) (xs : List Entry) (d e : Entry) → d.command ≡ e.command → AreNews o.table (xs ++ d ∷ []) → AreNews o.table (xs ++ e ∷ [])
news-push o xs d e same h =
    let last = (are_news-rest o.table none_found xs (d ∷ []) h).0 in
    are_news-push o.table none_found xs e (are_news-front o.table none_found xs (d ∷ []) h)
    (subst (λ c. IsNews (known_by o.table (found_in xs)) c) same last)

-- the last entry with its reply owed
module _ (o : Origin) (before : List Entry) (e : Entry) where
  abbrev owed_entry : Entry
  owed_entry = entry_of e.seat e.command None

  owed_found : found_in (before ++ e ∷ []) ≡ found_in (before ++ owed_entry ∷ [])
  owed_found = found-push before e owed_entry refl

  owed_state : (valid : Triples) → state_after o valid (before ++ e ∷ []) ≡ state_after o valid (before ++ owed_entry ∷ [])
  owed_state valid =
      let m = machine o valid in
      state_after-append m m.opening before (e ∷ []) ∙ sym (state_after-append m m.opening before (owed_entry ∷ []))

  owed_legal-with : (valid : Triples) → IsLegalWith o valid (before ++ e ∷ []) → IsLegalWith o valid (before ++ owed_entry ∷ [])
  owed_legal-with valid h =
      let m = machine o valid in
      let stands : Stands m o.seats (state_after_entries m m.opening before) e = stands_within m o.seats m.opening before [] e h in
      legal_push m o.seats m.opening before owed_entry (legal_front m o.seats m.opening before (e ∷ []) h) (record {
        seat_is = stands.seat_is;
        reply_is = owed_answers e.reply (m.step (state_after_entries m m.opening before) e.command) stands.reply_is;
      })

  owed_agrees : (valid : Triples) → Agrees (known_in o (before ++ owed_entry ∷ [])) valid → Agrees (known_in o (before ++ e ∷ [])) valid
  owed_agrees valid h = subst (λ (found : Verdicts). Agrees (known_by o.table found) valid) (sym owed_found) h

  owed_legal : IsLegal o (before ++ e ∷ []) → IsLegal o (before ++ owed_entry ∷ [])
  owed_legal h = record {
    news = news-push o before e owed_entry refl h.news;
    legal = λ valid agrees. owed_legal-with valid (h.legal valid (owed_agrees valid agrees));
  }

-- what stands after a history stands after one of the same state
same_info : (o : Origin) (valid : Triples) (xs ys : List Entry) (info : ChainInfo) → state_after o valid xs ≡ state_after o valid ys → IsInfo o valid xs info → IsInfo o valid ys info
same_info o valid xs ys info same h = record {
  best_is = h.best_is ∙ ap (λ (s : State Block). (machine o valid).best s) same;
  height_is = h.height_is ∙ ap (λ (s : State Block). height s.blocks (active (regtest o.params valid) s)) same;
  tips_are = h.tips_are ∙ ap (λ (s : State Block). map tip_of_id ((machine o valid).tips s)) same;
}

-- the last entry again
owed_exact : (x : ViewState) (p : Publication) → IsExact x → IsOwed x p → IsExact (after_publication x p)
owed_exact x p exact h =
    let o = x.origin in
    let e = h.entry_is.0 in
    let now : List Entry = x.before ++ owed_entry o x.before e ∷ [] in
    let was : x.journal ≡ x.before ++ e ∷ [] = exact.whole ∙ ap (λ (l : Option Entry). x.before ++ option_to_list l) h.entry_is.1 in
    let front : but_last x.journal ≡ x.before = ap but_last was ∙ but_last-one x.before e in
    let journal : but_last x.journal ++ p.entry ∷ [] ≡ now = ap (λ (es : List Entry). es ++ p.entry ∷ []) front ∙ ap (λ (y : Entry). x.before ++ y ∷ []) h.entry_is.2 in
    let found : found_in x.journal ≡ found_in (but_last x.journal ++ p.entry ∷ []) = ap found_in was ∙ owed_found o x.before e ∙ ap found_in (sym journal) in
    let state : (valid : Triples) → state_after o valid x.journal ≡ state_after o valid (but_last x.journal ++ p.entry ∷ []) =
    λ valid. ap (state_after o valid) was ∙ owed_state o x.before e valid ∙ ap (state_after o valid) (sym journal) in
    subst IsExact (sym (after_by x p false h.is_new h.book_is)) (record {
      whole = ap (λ (es : List Entry). es ++ p.entry ∷ []) (front ∙ sym h.before_is);
      legal = subst (λ (es : List Entry). IsLegal o es) (sym journal) (owed_legal o x.before e (subst (λ (es : List Entry). IsLegal o es) was exact.legal));
      state_is = λ valid agrees.
          let s = exact.state_is valid (subst (λ (found : Verdicts). Agrees (known_by o.table found) valid) (sym found) agrees) in
          record {
            coins_are = s.coins_are ∙ ap (λ (s : State Block). coins (regtest o.params valid) ledger s) (state valid);
            info_is = same_info o valid x.journal (but_last x.journal ++ p.entry ∷ []) p.info (state valid) (subst (λ (i : ChainInfo). IsInfo o valid x.journal i) (sym h.info_is) s.info_is);
          };
      height_fits = subst (λ (i : ChainInfo). i.height < max_blocks) (sym h.info_is) exact.height_fits;
    })

owed_exacts : (x : ViewState) (ps : List Publication) → IsExact x → AllOwed x ps → IsExact (after_publications x ps)
owed_exacts x [] exact h = exact
owed_exacts x (p ∷ ps) exact h = owed_exacts (after_publication x p) ps (owed_exact x p exact h.0) h.1

pub all_exact : (x : ViewState) (ps : List Publication) → IsExact x → AllFollow x ps → IsExact (after_publications x ps)
all_exact x [] exact h = exact
all_exact x (p ∷ ps) exact h = owed_exacts (after_publication x p) ps (next_exact x p exact h.0) h.1

-- it stays of its origin
owed_origin : (x : ViewState) (ps : List Publication) → AllOwed x ps → (after_publications x ps).origin ≡ x.origin
owed_origin x [] h = refl
owed_origin x (p ∷ ps) h = owed_origin (after_publication x p) ps h.1 ∙ ap (λ (b : Book). record x.origin { book = b }) h.0.book_is

pub same_origin : (x : ViewState) (ps : List Publication) → AllFollow x ps → (after_publications x ps).origin ≡ x.origin
same_origin x [] h = refl
same_origin x (p ∷ ps) h = owed_origin (after_publication x p) ps h.1 ∙ ap (λ (b : Book). record x.origin { book = b }) h.0.book_is

-- what was published begins what is published then
owed_before : (x : ViewState) (ps : List Publication) → AllOwed x ps → (after_publications x ps).before ≡ x.before
owed_before x [] h = refl
owed_before x (p ∷ ps) h = owed_before (after_publication x p) ps h.1 ∙ h.0.before_is

pub only_grows : (x : ViewState) (ps : List Publication) → IsExact x → AllFollow x ps → IsPrefix x.journal (after_publications x ps).journal
only_grows x [] exact h = ([], append-nil x.journal)
only_grows x (p ∷ ps) exact h =
    let y = after_publications x (p ∷ ps) in
    let before : y.before ≡ x.journal = owed_before (after_publication x p) ps h.1 ∙ h.0.before_is in
    let whole = (all_exact x (p ∷ ps) exact h).whole in
    (option_to_list y.last, sym (whole ∙ ap (λ (es : List Entry). es ++ option_to_list y.last) before))
