-- The history that is kept, and the chainstate after it: at first, and after a command.
use Rattle.std.proofs.Common.{◌≡◌, ℕ, ◌<◌, true, false, List, [], ◌∷◌, ◌++◌, Option, Some, ◌⊎◌, inl, inr, refl, sym, ap, subst, ◌∙◌, arith}
use Rattle.std.specs.FinMap as coin_map
use Rattle.block.specs.declared.block.Block.{Block}
use Rattle.signatures.specs.Known.{Agrees, Under}
use Rattle.signatures.specs.Triple.{Triples}
use Rattle.rules.specs.declared.params.Params.{Params}
use Rattle.tree.specs.State.{State}
use Rattle.model.specs.declared.command.Command.{Command}
use Rattle.model.specs.declared.reply.Reply.{Reply}
use Rattle.model.specs.declared.reply.Reply.TheVariants as reply
use Rattle.model.specs.declared.reply.SubmitReply.TheVariants.{DecodeFailed}
use Rattle.model.specs.declared.entry.Entry.{Entry}
use Rattle.model.specs.Submission.{Outcome, submit_says}
use Rattle.model.specs.Commands.{command_step, outcome}
use Rattle.model.specs.Regtest.{regtest}
use Rattle.model.specs.Machine.{Machine}
use Rattle.model.specs.History.{state_left, state_after_entries, Answers, entry_of}
use Rattle.activate.specs.CoreState.{WithCoins, IsChainstate, opened_core}
use Rattle.model.specs.Learnt.{AreNews, IsNews, found_in, none_found}
use Rattle.model.specs.laws.History.{state_after-append, legal_push}
use Rattle.model.specs.laws.Learnt.{agreed_with_front, are_news-push, one_agrees}
use Rattle.view.specs.Origin.{Origin, known_in, machine}
use Rattle.view.specs.ViewState.{IsLegal, IsLegalWith, state_after}
use Rattle.view.specs.laws.Exact.{opening_legal}
use Rattle.node.specs.inside.Kept.{KeepsHistory, IsReplyTo, IsUndecodable, is_step}
use Rattle.node.proofs.Comes.{comes}
use Rattle.node.proofs.Few.{AreFew, few-outcome}

-- genesis alone
pub opens : (o : Origin) (chain : WithCoins) (journal : List Entry) → chain ≡ record { core = opened_core o.params; coins = coin_map.empty } → ((valid : Triples) → IsChainstate chain valid) → journal ≡ [] → KeepsHistory o chain journal
opens o chain journal is sound none = record {
  legal = subst (λ (j : List Entry). IsLegal o j) (sym none) (opening_legal o);
  params_are = ap (λ (c : WithCoins). c.core.params) is;
  theirs = λ valid agrees. record { state_is = ap (λ (c : WithCoins). c.core.state) is ∙ ap (λ (j : List Entry). state_after o valid j) (sym none); is_chainstate = sound valid };
  few = subst (λ (c : WithCoins). AreFew c.core.state) (sym is) (omega arith);
}

-- what a command did to the chainstate of a history, where these signatures are valid
pub record Stepped (valid : Triples) (old new : WithCoins) (c : Command) (r : Reply) : Type 0 where
  pub outcome_is : (new.core.state, r) ≡ outcome (regtest old.core.params valid) old.core.state c
  pub params_are : new.core.params ≡ old.core.params
  pub is_chainstate : IsChainstate new valid

-- what a command comes to
abbrev Came : Origin → Triples → State Block → Command → Outcome Block → Type 0
Came o valid s c x = ((command_step (regtest o.params valid) s c ≡ Some x) × (is_step x.1 ≡ true) × IsReplyTo c x.1) ⊎ ((x ≡ submit_says s DecodeFailed) × IsUndecodable c)

module _ (o : Origin) (old new : WithCoins) (journal : List Entry) (number : ℕ) (c : Command) (r : Reply) (kept : KeepsHistory o old journal)
    (stepped : Under (known_in o journal) (λ valid. Stepped valid old new c r)) where
  abbrev s : State Block
  s = old.core.state

  -- some set agrees with what is known
  some : (valid : Triples) × Agrees (known_in o journal) valid
  some = one_agrees o.table (found_in journal)

  did : Stepped some.0 old new c r
  did = stepped some.0 some.1

  -- by the machine of the history
  says : (valid : Triples) → Agrees (known_in o journal) valid → (new.core.state, r) ≡ outcome (regtest o.params valid) s c
  says valid agrees = (stepped valid agrees).outcome_is ∙ ap (λ (p : Params). outcome (regtest p valid) s c) kept.params_are

  few-new : AreFew new.core.state
  few-new = subst (λ (x : Outcome Block). AreFew x.0) (sym (says some.0 some.1)) (few-outcome (regtest o.params some.0) s kept.few c)

  params-new : new.core.params ≡ o.params
  params-new = did.params_are ∙ kept.params_are

  -- it was a step, or its bytes are no block
  came : (valid : Triples) → Agrees (known_in o journal) valid → Came o valid s c (new.core.state, r)
  came valid agrees = subst (λ (x : Outcome Block). Came o valid s c x) (sym (says valid agrees)) (comes (regtest o.params valid) s c)

  -- it was a step
  pub taken_step : ¬ IsUndecodable c → is_step r ≡ true
  taken_step decodable = elim (came some.0 some.1) [
    | inl h ↦ h.1
    | inr h ↦ absurd (decodable h.1)
  ]

  -- after a step it stands last
  module _ (step : is_step r ≡ true) where
    taken : (valid : Triples) → Agrees (known_in o journal) valid → (command_step (regtest o.params valid) s c ≡ Some (new.core.state, r)) × IsReplyTo c r
    taken valid agrees = elim (came valid agrees) [
      | inl h ↦ (h.0, h.2)
      | inr h ↦ let e : true ≡ false = sym step ∙ ap (λ (x : Outcome Block). is_step x.1) h.0 in absurd (cc e)
    ]

    pub taken_reply : IsReplyTo c r
    taken_reply = (taken some.0 some.1).1

    -- where it tells no verdict that is known
    module _ (news : IsNews (known_in o journal) c) (seat : number < o.seats) where
      abbrev e : Entry
      e = entry_of number c (Some r)

      abbrev more : List Entry
      more = journal ++ e ∷ []

      news-more : AreNews o.table more
      news-more = are_news-push o.table none_found journal e kept.legal.news news

      agreed : (valid : Triples) → Agrees (known_in o more) valid → Agrees (known_in o journal) valid
      agreed valid agrees = agreed_with_front o.table journal (e ∷ []) valid news-more agrees

      stepped-now : (valid : Triples) → Agrees (known_in o journal) valid → let m : Machine = machine o valid in m.step (state_after_entries m m.opening journal) c ≡ Some (new.core.state, r)
      stepped-now valid agrees = subst (λ (x : State Block). (machine o valid).step x c ≡ Some (new.core.state, r)) (kept.theirs valid agrees).state_is (taken valid agrees).0

      legal-with : (valid : Triples) → Agrees (known_in o journal) valid → IsLegalWith o valid more
      legal-with valid agrees =
          let m : Machine = machine o valid in
          let right : Answers (Some r) (m.step (state_after_entries m m.opening journal) c) = subst (λ (x : Option (Outcome Block)). Answers (Some r) x) (sym (stepped-now valid agrees)) refl in
          legal_push m o.seats m.opening journal e (kept.legal.legal valid agrees) (record { seat_is = seat; reply_is = right })

      pub taken_kept : KeepsHistory o new more
      taken_kept = record {
        legal = record { news = news-more; legal = λ valid agrees. legal-with valid (agreed valid agrees) };
        params_are = params-new;
        theirs = λ valid agrees. let m : Machine = machine o valid in let before = agreed valid agrees in record {
          state_is = sym (state_after-append m m.opening journal (e ∷ []) ∙ ap (state_left (state_after_entries m m.opening journal)) (stepped-now valid before));
          is_chainstate = (stepped valid before).is_chainstate;
        };
        few = few-new;
      }
