-- The core after a history, and what it tells.
use Rattle.std.proofs.Common.{◌≡◌, ℕ, ◌<◌, true, List, [], ◌∷◌, ◌++◌, map, Option, Some, None, refl, sym, ap, subst, ◌∙◌}
use Rattle.std.specs.FinMap as coin_map
use Rattle.std.specs.Option.{option_and_then}
use Rattle.hash.specs.declared.id.Id.{Id}
use Rattle.block.specs.declared.block.Block.{Block}
use Rattle.signatures.specs.Known.{Agrees, Under}
use Rattle.signatures.specs.Triple.{Triples}
use Rattle.rules.specs.declared.params.Params.{Params}
use Rattle.tree.specs.Branches.{height, place_of}
use Rattle.tree.specs.Limits.{max_blocks}
use Rattle.tree.specs.Names.{names}
use Rattle.tree.specs.State.{State}
use Rattle.tree.specs.Tips.{tip_of_id}
use Rattle.coins.specs.Coins.{Coins}
use Rattle.coins.specs.declared.coin.Coin.{Coin}
use Rattle.coins.specs.Changes.{Changes, AreChanges}
use Rattle.model.specs.declared.command.Command.{Command}
use Rattle.model.specs.declared.reply.Reply.{Reply}
use Rattle.model.specs.declared.entry.Entry.{Entry}
use Rattle.model.specs.History.{entry_of}
use Rattle.model.specs.Learnt.{IsNews, found_in}
use Rattle.model.specs.laws.Learnt.{agreed_with_front, one_agrees}
use Rattle.model.specs.Regtest.{regtest, ledger}
use Rattle.model.specs.Replay.{coins}
use Rattle.model.specs.Settle.{active, best, tips}
use Rattle.activate.specs.CoreState.{CoreState, Follows, opened_core}
use Rattle.activate.specs.CoreState as core_state
use Rattle.activate.specs.Lookups.{spent_at, spent_by}
use Rattle.view.specs.Origin.{Origin, known_in}
use Rattle.view.specs.ViewState.{ViewState, IsExact, IsInfo, IsLegal, coins_after, opening_view, state_after}
use Rattle.view.specs.declared.chain_info.ChainInfo.{ChainInfo}
use Rattle.view.specs.laws.Exact.{opening_exact}
use Rattle.node.specs.Told.{undo_in}
use Rattle.node.specs.inside.Brought.{IsInfoOfCore}
use Rattle.node.specs.inside.Kept.{IsReplyTo, IsUndecodable, is_step}
use Rattle.node.specs.inside.PublishedState.{IsCoreOf, IsCoreStep, with_its_coins, entry_with_reply}
use Rattle.node.proofs.Few.{height-few}
use Rattle.node.proofs.Kept.{Stepped, opens, taken_kept, taken_reply, taken_step}
use Rattle.node.proofs.Publications.{agrees-push, state_of-push, owed_legal}

-- the coins that a core stands on are those of its history
pub coins_are : (o : Origin) (valid : Triples) (core : CoreState) (journal : List Entry) → IsCoreOf o core journal → Agrees (known_in o journal) valid → core_state.coins_of core ≡ coins_after o valid journal
coins_are o valid core journal k agrees =
    let t = k.theirs valid agrees in
    ap (λ (a : ℕ). core_state.coins_after core.state.blocks a) t.is_chainstate.follows.active_is
    ∙ ap (λ (p : Params). coins (regtest p valid) ledger core.state) k.params_are
    ∙ ap (λ (s : State Block). coins (regtest o.params valid) ledger s) t.state_is

-- a view that has all of it lends these coins
pub lent_coins : (o : Origin) (x : ViewState) (core : CoreState) (journal : List Entry) → IsExact x → x.origin ≡ o → journal ≡ x.journal → IsCoreOf o core journal → x.coins ≡ core_state.coins_of core
lent_coins o x core journal exact origin same k =
    let some = one_agrees o.table (found_in journal) in
    let there : Agrees (known_in x.origin x.journal) some.0 =
    subst (λ (p : Origin). Agrees (known_in p x.journal) some.0) (sym origin) (subst (λ (l : List Entry). Agrees (known_in o l) some.0) same some.1) in
    (exact.state_is some.0 there).coins_are ∙ (λ i. coins_after (origin i) some.0 (sym same i)) ∙ sym (coins_are o some.0 core journal k some.1)

-- what the core tells stands after the history
pub tells : (o : Origin) (valid : Triples) (core : CoreState) (journal : List Entry) (x : ChainInfo) → IsCoreOf o core journal → Agrees (known_in o journal) valid → IsInfoOfCore valid core x → IsInfo o valid journal x
tells o valid core journal x k agrees told =
    let t = k.theirs valid agrees in
    record {
      best_is = told.best_is ∙ ap (λ (p : Params). best (regtest p valid) core.state) k.params_are ∙ ap (λ (s : State Block). best (regtest o.params valid) s) t.state_is;
      height_is = told.height_is ∙ ap (λ (p : Params). height core.state.blocks (active (regtest p valid) core.state)) k.params_are ∙ ap (λ (s : State Block). height s.blocks (active (regtest o.params valid) s)) t.state_is;
      tips_are = told.tips_are ∙ ap (λ (p : Params). map tip_of_id (tips (regtest p valid) core.state)) k.params_are ∙ ap (λ (s : State Block). map tip_of_id (tips (regtest o.params valid) s)) t.state_is;
    }

-- and its height is small
pub height_told : (o : Origin) (core : CoreState) (journal : List Entry) (x : ChainInfo) → IsCoreOf o core journal → ((valid : Triples) → Follows core valid → IsInfoOfCore valid core x) → x.height < max_blocks
height_told o core journal x k told =
    let some = one_agrees o.table (found_in journal) in
    let follows = (k.theirs some.0 some.1).is_chainstate.follows in
    subst (λ (n : ℕ). n < max_blocks) (sym (told some.0 follows).height_is) (height-few (regtest core.params some.0) core.state k.few follows.sound)

-- what a block spent by the core is what it spent after the history
pub spent_after : (o : Origin) (core : CoreState) (es : List Entry) (id : Id) (found : Option (List (List Coin))) → IsCoreOf o core es
    → found ≡ option_and_then (spent_at core.state.blocks core.active) (place_of names core.state.blocks id) → Under (known_in o es) (λ valid. found ≡ undo_in o id valid (state_after o valid es))
spent_after o core es id found k told = λ valid agrees.
    let t = k.theirs valid agrees in
    told
    ∙ ap (λ (a : ℕ). option_and_then (spent_at core.state.blocks a) (place_of names core.state.blocks id)) t.is_chainstate.follows.active_is
    ∙ ap (λ (p : Params). spent_by (regtest p valid) core.state id) k.params_are
    ∙ ap (λ (s : State Block). spent_by (regtest o.params valid) s id) t.state_is

-- an entry with another reply that it may have
pub with_reply : (o : Origin) (core : CoreState) (xs : List Entry) (e : Entry) (r : Option Reply) → IsLegal o (xs ++ entry_with_reply e r ∷ []) → IsCoreOf o core (xs ++ e ∷ []) → IsCoreOf o core (xs ++ entry_with_reply e r ∷ [])
with_reply o core xs e r legal k = record {
  legal = legal;
  params_are = k.params_are;
  theirs = λ valid agrees. let t = k.theirs valid (agrees-push o xs (entry_with_reply e r) e refl valid agrees) in record {
    state_is = t.state_is ∙ state_of-push o valid xs e (entry_with_reply e r) refl;
    is_chainstate = t.is_chainstate;
  };
  few = k.few;
}

-- what a command did to a core, its coins beside it
pub stepped : (valid : Triples) (old new : CoreState) (c : Command) (r : Reply) (changes : Changes) → IsCoreStep valid old new c r changes → Stepped valid (with_its_coins old) (with_its_coins new) c r
stepped valid old new c r changes step = record {
  outcome_is = step.outcome_is;
  params_are = step.params_are;
  is_chainstate = record { follows = step.follows; coins_are = refl };
}

-- after a step it stands last, and its reply may stand there too
module _ (o : Origin) (old new : CoreState) (journal : List Entry) (number : ℕ) (c : Command) (r : Reply) (changes : Changes) (kept : IsCoreOf o old journal)
    (did : Under (known_in o journal) (λ valid. IsCoreStep valid old new c r changes)) where
  all_stepped : Under (known_in o journal) (λ valid. Stepped valid (with_its_coins old) (with_its_coins new) c r)
  all_stepped valid agrees = stepped valid old new c r changes (did valid agrees)

  pub step_taken : ¬ IsUndecodable c → is_step r ≡ true
  step_taken decodable = taken_step o (with_its_coins old) (with_its_coins new) journal number c r kept all_stepped decodable

  module _ (step : is_step r ≡ true) where
    pub step_reply : IsReplyTo c r
    step_reply = taken_reply o (with_its_coins old) (with_its_coins new) journal number c r kept all_stepped step

    module _ (news : IsNews (known_in o journal) c) (seat : number < o.seats) where
      whole : IsCoreOf o new (journal ++ entry_of number c (Some r) ∷ [])
      whole = taken_kept o (with_its_coins old) (with_its_coins new) journal number c r kept all_stepped step news seat

      pub replied_legal : IsLegal o (journal ++ entry_of number c (Some r) ∷ [])
      replied_legal = whole.legal

      pub owed_core : IsCoreOf o new (journal ++ entry_of number c None ∷ [])
      owed_core = with_reply o new journal (entry_of number c (Some r)) None (owed_legal o journal (entry_of number c (Some r)) replied_legal) whole

      pub owed_changes : Under (known_in o (journal ++ entry_of number c None ∷ [])) (λ valid. AreChanges (coins_after o valid journal) (coins_after o valid (journal ++ entry_of number c None ∷ [])) changes)
      owed_changes valid agrees =
          let more : List Entry = journal ++ entry_of number c None ∷ [] in
          let before : Agrees (known_in o journal) valid = agreed_with_front o.table journal (entry_of number c None ∷ []) valid owed_core.legal.news agrees in
          subst (λ (m : Coins). AreChanges m (coins_after o valid more) changes) (coins_are o valid old journal kept before)
          (subst (λ (m : Coins). AreChanges (core_state.coins_of old) m changes) (coins_are o valid new more owed_core agrees) (did valid before).changes_are)

-- a new core is that of the empty history
pub opening_core : (o : Origin) (core : CoreState) (journal : List Entry) → core ≡ opened_core o.params → ((valid : Triples) → Follows core valid) → core_state.coins_of core ≡ coin_map.empty → journal ≡ [] → IsCoreOf o core journal
opening_core o core journal is follows none empty =
    opens o (with_its_coins core) journal (λ i. record { core = is i; coins = none i }) (λ valid. record { follows = follows valid; coins_are = refl }) empty

-- what is published at first
pub opening_shown : (o : Origin) (core : CoreState) (x : ChainInfo) → core ≡ opened_core o.params → ((valid : Triples) → Follows core valid) → core_state.coins_of core ≡ coin_map.empty → ((valid : Triples) → IsInfoOfCore valid core x) → IsExact (opening_view o x)
opening_shown o core x is follows none told =
    let k = opening_core o core [] is follows none refl in
    opening_exact o x (λ valid agrees. tells o valid core [] x k agrees (told valid)) (height_told o core [] x k (λ valid _. told valid))
