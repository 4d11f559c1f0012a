-- What waits to be published follows what readers see, and what they see once it is published.
use Rattle.std.proofs.Common.{◌≡◌, ◌-◌, ◌<◌, Bool, true, false, List, [], ◌∷◌, ◌++◌, length, length-append, Option, Some, None, refl, ap, sym, ◌∙◌, subst, arith}
use Rattle.std.proofs.lemmas.List.{same_from_push}
use Rattle.std.specs.Option.{option_to_list}
use Rattle.std.specs.Prelude.{slice_get, map, IfSome}
use Rattle.block.specs.declared.block.Block.{Block}
use Rattle.signatures.specs.Known.{Agrees, Under, Verdicts}
use Rattle.signatures.specs.Triple.{Triples}
use Rattle.coins.specs.Changes.{Changes, AreChanges}
use Rattle.tree.specs.Branches.{height}
use Rattle.tree.specs.Limits.{max_blocks}
use Rattle.tree.specs.State.{State}
use Rattle.tree.specs.Tips.{tip_of_id}
use Rattle.model.specs.declared.command.Command.{Command}
use Rattle.model.specs.declared.reply.Reply.{Reply}
use Rattle.model.specs.declared.entry.Entry.{Entry}
use Rattle.model.specs.History.{Answers, Stands, entry_of, state_after_entries}
use Rattle.model.specs.Regtest.{ledger, regtest}
use Rattle.model.specs.Replay.{coins}
use Rattle.model.specs.Settle.{active}
use Rattle.model.specs.laws.History.{state_after-append, legal_push, legal_front, stands_within}
use Rattle.model.specs.Learnt.{AreNews, found_in, known_by}
use Rattle.model.specs.laws.Learnt.{agreed_with_front, one_agrees}
use Rattle.view.specs.Origin.{Origin, known_in, machine}
use Rattle.view.specs.ViewState.{ViewState, IsExact, IsInfo, IsLegal, IsLegalWith, state_after, coins_after, after_publication, after_publications}
use Rattle.view.specs.NextPublications.{IsNext, IsOwed, AllOwed, AllFollow}
use Rattle.view.specs.declared.chain_info.ChainInfo.{ChainInfo}
use Rattle.view.specs.declared.publication.Publication.{Publication}
use Rattle.view.specs.laws.Exact.{all_exact, found-push, news-push, same_origin}
use Rattle.node.specs.declared.published_history.owed_step.Pending.{Pending}
use Rattle.node.specs.declared.published_history.owed_step.Pending.TheVariants as pending
use Rattle.node.specs.inside.PublishedState.{Shows, AreDue, changes_of, entry_with_reply, is_new, is_owed, owed_by}

-- the state after an entry is that after its command
pub state_of-push : (o : Origin) (valid : Triples) (xs : List Entry) (e d : Entry) → e.command ≡ d.command → state_after o valid (xs ++ e ∷ []) ≡ state_after o valid (xs ++ d ∷ [])
state_of-push o valid xs e d same =
    let m = machine o valid in
    let s : State Block = state_after_entries m m.opening xs in
    state_after-append m m.opening xs (e ∷ []) ∙ ap (λ (c : Command). state_after_entries m s (record e { command = c } ∷ [])) same ∙ sym (state_after-append m m.opening xs (d ∷ []))

-- and so are the sets that agree with what is known then
pub agrees-push : (o : Origin) (xs : List Entry) (e d : Entry) → e.command ≡ d.command → (valid : Triples) → Agrees (known_in o (xs ++ e ∷ [])) valid → Agrees (known_in o (xs ++ d ∷ [])) valid
agrees-push o xs e d same valid h = subst (λ (found : Verdicts). Agrees (known_by o.table found) valid) (found-push xs e d same) h

owed_answers : {S : Type 0} (r : Option Reply) (o : Option (S × Reply)) → Answers r o → Answers None o
owed_answers r None h = h
owed_answers r (Some x) h = tt

owed_legal-with : (o : Origin) (valid : Triples) (xs : List Entry) (e : Entry) → IsLegalWith o valid (xs ++ e ∷ []) → IsLegalWith o valid (xs ++ entry_with_reply e None ∷ [])
owed_legal-with o valid xs e h =
    let m = machine o valid in
    let stands : Stands m o.seats (state_after_entries m m.opening xs) e = stands_within m o.seats m.opening xs [] e h in
    legal_push m o.seats m.opening xs (entry_with_reply e None) (legal_front m o.seats m.opening xs (e ∷ []) h) (record {
      seat_is = stands.seat_is;
      reply_is = owed_answers e.reply (m.step (state_after_entries m m.opening xs) e.command) stands.reply_is;
    })

-- an entry whose reply is owed may stand where it stands
pub owed_legal : (o : Origin) (xs : List Entry) (e : Entry) → IsLegal o (xs ++ e ∷ []) → IsLegal o (xs ++ entry_with_reply e None ∷ [])
owed_legal o xs e h = record {
  news = news-push o xs e (entry_with_reply e None) refl h.news;
  legal = λ valid agrees. owed_legal-with o valid xs e (h.legal valid (agrees-push o xs (entry_with_reply e None) e refl valid agrees));
}

-- what stands after a state is one
one_info : (o : Origin) (valid : Triples) (xs ys : List Entry) (a b : ChainInfo) → state_after o valid xs ≡ state_after o valid ys → IsInfo o valid xs a → IsInfo o valid ys b → a ≡ b
one_info o valid xs ys a b same h k =
    let m = machine o valid in
    let best : a.best ≡ b.best = h.best_is ∙ ap (λ (s : State Block). m.best s) same ∙ sym k.best_is in
    let high : a.height ≡ b.height = h.height_is ∙ ap (λ (s : State Block). height s.blocks (active (regtest o.params valid) s)) same ∙ sym k.height_is in
    let tips : a.tips ≡ b.tips = h.tips_are ∙ ap (λ (s : State Block). map tip_of_id (m.tips s)) same ∙ sym k.tips_are in
    λ i. record { best = best i; height = high i; tips = tips i }

-- one publication more
pub one_more : (x : ViewState) (ps : List Publication) (p : Publication) → after_publications x (ps ++ p ∷ []) ≡ after_publication (after_publications x ps) p
one_more x [] p = refl
one_more x (q ∷ qs) p = one_more (after_publication x q) qs p

-- of publications that bring an entry again
owed_more : (x : ViewState) (ps : List Publication) (p : Publication) → AllOwed x ps → IsOwed (after_publications x ps) p → AllOwed x (ps ++ p ∷ [])
owed_more x [] p h o = (o, tt)
owed_more x (q ∷ qs) p h o = (h.0, owed_more (after_publication x q) qs p h.1 o)

owed_before : (x : ViewState) (ps : List Publication) → AllOwed x ps → (after_publications x ps).before ≡ x.before
owed_before x [] h = refl
owed_before x (p ∷ ps) h = owed_before (after_publication x p) ps h.1 ∙ h.0.before_is

owed_last : (x : ViewState) (e : Entry) (ps : List Publication) → x.last ≡ Some e → AllOwed x ps → (d : Entry) × ((after_publications x ps).last ≡ Some d) × (entry_with_reply d None ≡ entry_with_reply e None)
owed_last x e [] is h = (e, is, refl)
owed_last x e (p ∷ ps) is h =
    let t = owed_last (after_publication x p) p.entry ps refl h.1 in
    let at = h.0.entry_is in
    let same : at.0 ≡ e = cc (at.1, is) in
    (t.0, t.1, t.2 ∙ ap (λ (f : Entry). entry_with_reply f None) at.2 ∙ ap (λ (f : Entry). entry_with_reply f None) same)

-- the entry behind a history is one
pub same_last : (xs ys : List Entry) (d e : Entry) → xs ++ d ∷ [] ≡ ys ++ e ∷ [] → (xs ≡ ys) × (d ≡ e)
same_last xs ys d e h = let t = same_from_push xs ys d e h in t

-- a publication of the entry that is owed
pub record IsOfOwed (d : Pending) (o : Origin) (seen : List Entry) (e : Entry) (p : Publication) : Type 0 where
  pub new_is : p.is_new ≡ is_new d
  pub book_is : p.before.book ≡ o.book
  pub before_is : p.before.entries ≡ seen
  pub entry_is : entry_with_reply p.entry None ≡ entry_with_reply e None
  pub none : is_new d ≡ false → p.entry.reply ≡ None
  pub changes_are : p.changes ≡ changes_of d
  pub legal : IsLegal o (seen ++ p.entry ∷ [])
  pub info_is : Under (known_in o (seen ++ p.entry ∷ [])) (λ valid. IsInfo o valid (seen ++ p.entry ∷ []) p.info)
  pub height_fits : p.info.height < max_blocks

-- the entry of the last of them
again_owed : (x : ViewState) (o : Origin) (seen : List Entry) (e : Entry) (p q : Publication) (qs : List Publication) → Shows x o seen → IsOfOwed pending.Again o seen e p → AllFollow x (q ∷ qs)
    → entry_with_reply q.entry None ≡ entry_with_reply e None → IsOwed (after_publications x (q ∷ qs)) p
again_owed x o seen e p q qs shows of follow same =
    let z : ViewState = after_publications x (q ∷ qs) in
    let t = owed_last (after_publication x q) q.entry qs refl follow.1 in
    let origin : z.origin ≡ o = same_origin x (q ∷ qs) follow ∙ shows.origin_is in
    let before : z.before ≡ seen = owed_before (after_publication x q) qs follow.1 ∙ follow.0.before_is ∙ shows.journal_is in
    let exact : IsExact z = all_exact x (q ∷ qs) shows.exact follow in
    let journal : z.journal ≡ seen ++ t.0 ∷ [] = exact.whole ∙ ap (λ (es : List Entry). es ++ option_to_list z.last) before ∙ ap (λ (l : Option Entry). seen ++ option_to_list l) t.1 in
    let entry : entry_with_reply p.entry None ≡ entry_with_reply t.0 None = of.entry_is ∙ sym same ∙ sym t.2 in
    let some = one_agrees o.table (found_in (seen ++ p.entry ∷ [])) in
    let valid : Triples = some.0 in
    let same_command : p.entry.command ≡ t.0.command = ap (λ (f : Entry). f.command) entry in
    let there : Agrees (known_in z.origin z.journal) valid =
    subst (λ (k : Origin). Agrees (known_in k z.journal) valid) (sym origin) (subst (λ (es : List Entry). Agrees (known_in o es) valid) (sym journal) (agrees-push o seen p.entry t.0 same_command valid some.1)) in
    let info : IsInfo o valid (seen ++ t.0 ∷ []) z.info =
    subst (λ (es : List Entry). IsInfo o valid es z.info) journal (subst (λ (k : Origin). IsInfo k valid z.journal z.info) origin (exact.state_is valid there).info_is) in
    let none : p.entry ≡ entry_with_reply p.entry None = ap (λ (r : Option Reply). entry_of p.entry.seat p.entry.command r) (of.none refl) in
    record {
      is_new = of.new_is;
      book_is = of.book_is ∙ ap (λ (k : Origin). k.book) (sym origin);
      before_is = of.before_is ∙ sym before;
      entry_is = (t.0, t.1, none ∙ entry);
      info_is = one_info o valid (seen ++ p.entry ∷ []) (seen ++ t.0 ∷ []) p.info z.info (state_of-push o valid seen p.entry t.0 same_command) (of.info_is valid some.1) info;
    }

-- the coins that stand after an entry stand after it with another reply
changes_there : (x : ViewState) (o : Origin) (seen journal : List Entry) (e : Entry) (changes : Changes) (p : Publication) → Shows x o seen → journal ≡ seen ++ entry_with_reply e None ∷ [] → entry_with_reply p.entry None ≡ entry_with_reply e None → p.changes ≡ changes
    → Under (known_in x.origin journal) (λ valid. AreChanges x.coins (coins_after x.origin valid journal) changes)
    → Under (known_in x.origin (x.journal ++ p.entry ∷ [])) (λ valid. AreChanges x.coins (coins_after x.origin valid (x.journal ++ p.entry ∷ [])) p.changes)
changes_there x o seen journal e changes p shows is same eq h valid agrees =
    let k : Origin = x.origin in
    let command : e.command ≡ p.entry.command = ap (λ (f : Entry). f.command) (sym same) in
    let here : seen ++ p.entry ∷ [] ≡ x.journal ++ p.entry ∷ [] = ap (λ (es : List Entry). es ++ p.entry ∷ []) (sym shows.journal_is) in
    let state : state_after k valid journal ≡ state_after k valid (x.journal ++ p.entry ∷ []) =
    ap (state_after k valid) is ∙ state_of-push k valid seen (entry_with_reply e None) p.entry command ∙ ap (state_after k valid) here in
    let coins : coins_after k valid journal ≡ coins_after k valid (x.journal ++ p.entry ∷ []) = coins_same journal (x.journal ++ p.entry ∷ []) state in
    let there : Agrees (known_in k journal) valid =
    subst (λ (es : List Entry). Agrees (known_in k es) valid) (sym is)
    (agrees-push k seen p.entry (entry_with_reply e None) (sym command) valid (subst (λ (es : List Entry). Agrees (known_in k es) valid) (sym here) agrees)) in
    subst (λ (cs : Changes). AreChanges x.coins (coins_after k valid (x.journal ++ p.entry ∷ [])) cs) (sym eq) (subst (λ m. AreChanges x.coins m changes) coins (h valid there))
  where
    coins_same : (xs ys : List Entry) → state_after x.origin valid xs ≡ state_after x.origin valid ys → coins_after x.origin valid xs ≡ coins_after x.origin valid ys
    coins_same xs ys h = ap (λ (s : State Block). coins (regtest x.origin.params valid) ledger s) h

-- it follows what is pending
pub follows : (d : Pending) (x : ViewState) (queued : List Publication) (o : Origin) (seen journal : List Entry) (e : Entry) (p : Publication) → is_owed d ≡ true → Shows x o seen → AreDue d x queued journal
    → journal ≡ seen ++ entry_with_reply e None ∷ [] → IsOfOwed d o seen e p → AllFollow x (queued ++ p ∷ [])
follows pending.None x queued o seen journal e p owed shows due is of = absurd (cc owed)
follows (pending.New changes) x queued o seen journal e p owed shows due is of =
    let at : o ≡ x.origin = sym shows.origin_is in
    let es : seen ++ p.entry ∷ [] ≡ x.journal ++ p.entry ∷ [] = ap (λ (l : List Entry). l ++ p.entry ∷ []) (sym shows.journal_is) in
    let next : IsNext x p = record {
      is_new = of.new_is;
      book_is = of.book_is ∙ ap (λ (k : Origin). k.book) at;
      before_is = of.before_is ∙ sym shows.journal_is;
      legal = subst (λ (l : List Entry). IsLegal x.origin l) es (subst (λ (k : Origin). IsLegal k (seen ++ p.entry ∷ [])) at of.legal);
      brings = λ valid agrees. record {
        changes_are = changes_there x o seen journal e changes p shows is of.entry_is of.changes_are due.1 valid agrees;
        info_is =
            let there : Agrees (known_in o (seen ++ p.entry ∷ [])) valid =
            subst (λ (k : Origin). Agrees (known_in k (seen ++ p.entry ∷ [])) valid) (sym at) (subst (λ (l : List Entry). Agrees (known_in x.origin l) valid) (sym es) agrees) in
            subst (λ (l : List Entry). IsInfo x.origin valid l p.info) es (subst (λ (k : Origin). IsInfo k valid (seen ++ p.entry ∷ []) p.info) at (of.info_is valid there));
      };
      height_fits = of.height_fits;
    } in
    let follow : AllFollow x (p ∷ []) = (next, tt) in
    subst (λ (ps : List Publication). AllFollow x (ps ++ p ∷ [])) (sym due.0) follow
follows pending.Again x queued o seen journal e p owed shows due is of =
    let q : Publication = due.0 in
    let qs : List Publication = due.1 in
    let follow : AllFollow x (q ∷ qs) = due.3 in
    let at : x.journal ++ entry_with_reply q.entry None ∷ [] ≡ seen ++ entry_with_reply e None ∷ [] = sym due.4 ∙ is in
    let same : entry_with_reply q.entry None ≡ entry_with_reply e None = (same_last x.journal seen (entry_with_reply q.entry None) (entry_with_reply e None) at).1 in
    let all : AllFollow x (q ∷ (qs ++ p ∷ [])) = (follow.0, owed_more (after_publication x q) qs p follow.1 (again_owed x o seen e p q qs shows of follow same)) in
    subst (λ (ps : List Publication). AllFollow x (ps ++ p ∷ [])) (sym due.2) all

-- what readers see once it is published
pub shown_then : (x y : ViewState) (pending : List Publication) (p : Publication) → AllFollow x (pending ++ p ∷ []) → y ≡ after_publications x (pending ++ p ∷ []) → IsExact y
    → (y.origin ≡ x.origin) × (y.journal ≡ p.before.entries ++ p.entry ∷ [])
shown_then x y pending p follow is exact =
    let z : ViewState = after_publications x pending in
    let last : y ≡ after_publication z p = is ∙ one_more x pending p in (
      ap (λ (v : ViewState). v.origin) is ∙ same_origin x (pending ++ p ∷ []) follow,
      exact.whole ∙ ap (λ (v : ViewState). v.before ++ option_to_list v.last) last,
    )

-- what is due where it is pending too
pub due_then : (is_new : Bool) (x y : ViewState) (queued left : List Publication) (journal : List Entry) (changes : Changes) (p : Publication) → AreDue (owed_by is_new changes) x queued journal → AllFollow x (queued ++ p ∷ []) → p.before.entries ≡ x.journal
    → journal ≡ p.before.entries ++ entry_with_reply p.entry None ∷ [] → y ≡ x → left ≡ queued ++ p ∷ [] → AreDue pending.Again y left journal
due_then is_new x y queued left journal changes p due follow before is same grown =
    subst (λ (v : ViewState). AreDue pending.Again v left journal) (sym same) (subst (λ (ps : List Publication). AreDue pending.Again x ps journal) (sym grown) (by is_new due))
  where
    by : (b : Bool) → AreDue (owed_by b changes) x queued journal → AreDue pending.Again x (queued ++ p ∷ []) journal
    by true d = (
      p,
      [],
      ap (λ (ps : List Publication). ps ++ p ∷ []) d.0,
      subst (λ (ps : List Publication). AllFollow x (ps ++ p ∷ [])) d.0 follow,
      is ∙ ap (λ (es : List Entry). es ++ entry_with_reply p.entry None ∷ []) before,
    )
    by false d = (
      d.0,
      d.1 ++ p ∷ [],
      ap (λ (ps : List Publication). ps ++ p ∷ []) d.2,
      subst (λ (ps : List Publication). AllFollow x (ps ++ p ∷ [])) d.2 follow,
      d.4,
    )

-- a fact of what an option has, from another
pub if_some : {A : Type 0} (P Q : A → Type 0) (o : Option A) → ((x : A) → P x → Q x) → IfSome o P → IfSome o Q
if_some P Q (Some x) f h = f x h
if_some P Q None f h = h

got_last : (xs : List Entry) (e : Entry) → slice_get (xs ++ e ∷ []) (length xs) ≡ Some e
got_last [] e = refl
got_last (x ∷ xs) e = got_last xs e

-- the entry that a look at the last place finds
pub last_found : (xs journal : List Entry) (e f : Entry) → journal ≡ xs ++ e ∷ [] → slice_get journal (length journal - 1) ≡ Some f → f ≡ e
last_found xs journal e f all found =
    let n : length (xs ++ e ∷ []) - 1 ≡ length xs = omega (arith, length-append xs (e ∷ [])) in
    let here : slice_get journal (length journal - 1) ≡ Some e = ap (λ l. slice_get l (length l - 1)) all ∙ (ap (slice_get (xs ++ e ∷ [])) n ∙ got_last xs e) in
    cc (here, found)

pub both_some : {A : Type 0} (P Q R : A → Type 0) (o : Option A) → ((x : A) → P x → Q x → R x) → IfSome o P → IfSome o Q → IfSome o R
both_some P Q R (Some x) f h k = f x h k
both_some P Q R None f h k = h

-- what is due once a step is taken
pub due_taken : (d : Pending) (x : ViewState) (queued : List Publication) (o : Origin) (seen journal more : List Entry) (e : Entry) (changes : Changes) → Shows x o seen → is_owed d ≡ false → AreDue d x queued journal → journal ≡ seen
    → AreNews o.table (journal ++ e ∷ []) → more ≡ journal ++ e ∷ []
    → Under (known_in o more) (λ valid. AreChanges (coins_after o valid journal) (coins_after o valid more) changes) → AreDue (pending.New changes) x queued more
due_taken (pending.New was) x queued o seen journal more e changes shows shut none same news grown h = absurd (cc shut)
due_taken pending.Again x queued o seen journal more e changes shows shut none same news grown h = absurd (cc shut)
due_taken pending.None x queued o seen journal more e changes shows shut none same news grown h = (
  none,
  λ valid agrees.
      let wide : Agrees (known_in o more) valid = subst (λ (k : Origin). Agrees (known_in k more) valid) shows.origin_is agrees in
      let front : Agrees (known_in o journal) valid = agreed_with_front o.table journal (e ∷ []) valid news (subst (λ (l : List Entry). Agrees (known_in o l) valid) grown wide) in
      let seen_there : Agrees (known_in x.origin x.journal) valid =
      subst (λ (k : Origin). Agrees (known_in k x.journal) valid) (sym shows.origin_is) (subst (λ (l : List Entry). Agrees (known_in o l) valid) (same ∙ sym shows.journal_is) front) in
      let here : coins_after o valid journal ≡ x.coins = sym ((shows.exact.state_is valid seen_there).coins_are ∙ (λ i. coins_after (shows.origin_is i) valid ((shows.journal_is ∙ sym same) i))) in
      let after : coins_after o valid more ≡ coins_after x.origin valid more = ap (λ (k : Origin). coins_after k valid more) (sym shows.origin_is) in
      subst (λ m. AreChanges m (coins_after x.origin valid more) changes) here (subst (λ m. AreChanges (coins_after o valid journal) m changes) after (h valid wide)),
)

-- what is owed comes back as it was
pub owed_again : (d : Pending) → is_owed d ≡ true → owed_by (is_new d) (changes_of d) ≡ d
owed_again pending.None owed = absurd (cc owed)
owed_again (pending.New changes) owed = refl
owed_again pending.Again owed = refl

-- where none is owed nothing waits, whatever the journal is
pub due_shut : (d : Pending) (x : ViewState) (queued : List Publication) (journal other : List Entry) → is_owed d ≡ false → AreDue d x queued journal → AreDue d x queued other
due_shut pending.None x queued journal other shut due = due
due_shut (pending.New changes) x queued journal other shut due = absurd (cc shut)
due_shut pending.Again x queued journal other shut due = absurd (cc shut)

-- what is so of the last entry with a reply, by whatever it is the last
pub last_with : (P : List Entry → Type 0) (xs before : List Entry) (d e : Entry) (r : Option Reply) → before ++ e ∷ [] ≡ xs ++ d ∷ [] → P (xs ++ entry_with_reply d r ∷ []) → P (before ++ entry_with_reply e r ∷ [])
last_with P xs before d e r same here =
    let t = same_last before xs e d same in
    subst P (λ i. sym t.0 i ++ entry_with_reply (sym t.1 i) r ∷ []) here
