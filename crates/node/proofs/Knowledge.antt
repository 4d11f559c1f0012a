-- What is known of signatures under the lock, and a verdict that is taken down there.
use Rattle.std.proofs.Common.{◌≡◌, Bool, List, [], ◌∷◌, ◌++◌, Option, None, refl, ap, sym, ◌∙◌, subst}
use Rattle.std.specs.List.{All}
use Rattle.std.specs.List.Sorted.{IsStrictlySortedBy}
use Rattle.rules.specs.declared.params.Params.{Params}
use Rattle.signatures.specs.Known.{Agrees, Known, verdict_in, with_verdict}
use Rattle.signatures.specs.Triple.{Triple, Triples}
use Rattle.queue.specs.Jobs.{Answered, IsEarly}
use Rattle.coins.specs.Coins.{Coins}
use Rattle.coins.specs.Changes.{AreChanges}
use Rattle.model.specs.declared.command.Command.{Command}
use Rattle.model.specs.declared.command.Command.TheVariants as command
use Rattle.model.specs.declared.reply.MarkReply.TheVariants.{Done}
use Rattle.model.specs.declared.reply.Reply.{Reply}
use Rattle.model.specs.declared.reply.Reply.TheVariants as reply
use Rattle.model.specs.declared.entry.Entry.{Entry}
use Rattle.model.specs.Learnt.{found_by, found_in, known_by}
use Rattle.model.specs.Regtest.{regtest}
use Rattle.model.specs.Settle.{active}
use Rattle.model.specs.laws.Learnt.{found_in-push}
use Rattle.model.specs.laws.Outcomes.{learns}
use Rattle.activate.specs.CoreState.{CoreState}
use Rattle.activate.specs.CoreState as core_state
use Rattle.activate.specs.Wants.{AreWantedByStep}
use Rattle.view.specs.HistoryPrefix.{Beginning}
use Rattle.view.specs.Origin.{Origin, known_in}
use Rattle.view.specs.laws.Exact.{found-push}
use Rattle.node.specs.declared.published_history.knowledge.Knowledge.{Knowledge}
use Rattle.node.specs.declared.published_history.knowledge.Knowledge.TheVariants.{Table, Found}
use Rattle.node.specs.inside.Knowledge.{IsKnowledge, known_behind, known_of}
use Rattle.node.specs.declared.published_history.refusal.Refusal.{Refusal}
use Rattle.node.specs.declared.published_history.refusal.Refusal.TheVariants as refusal
use Rattle.node.specs.inside.PublishedState.{AreCoreSteps, IsCoreOf, IsLockedAt, entry_with_reply}
use Rattle.node.specs.inside.Refusal.{IsWantOf, IsWantAfter}

-- it is what is known after the history
pub known_is : (o : Origin) (k : Knowledge) (es : List Entry) → IsKnowledge o k es → known_of k ≡ known_in o es
known_is o (Table table) es h = ap (λ t. known_by t (found_in es)) (sym h)
known_is o (Found found) es h = ap verdict_in h.1 ∙ ap (λ t. known_by t (found_in es)) (sym h.0)

-- behind an entry it is what is known then
pub knowledge-push : (o : Origin) (k : Knowledge) (es : List Entry) (e : Entry) (c : Command) → e.command ≡ c → IsKnowledge o k es → IsKnowledge o (known_behind k c) (es ++ e ∷ [])
knowledge-push o (Table table) es e (command.Submit bytes now) is h = h
knowledge-push o (Table table) es e (command.Invalidate id) is h = h
knowledge-push o (Table table) es e (command.Reconsider id) is h = h
knowledge-push o (Table table) es e (command.Precious id) is h = h
knowledge-push o (Table table) es e (command.Learn t valid) is h = h
knowledge-push o (Found found) es e (command.Submit bytes now) is h = (h.0, h.1 ∙ sym (found_in-push es e ∙ ap (found_by (found_in es)) is))
knowledge-push o (Found found) es e (command.Invalidate id) is h = (h.0, h.1 ∙ sym (found_in-push es e ∙ ap (found_by (found_in es)) is))
knowledge-push o (Found found) es e (command.Reconsider id) is h = (h.0, h.1 ∙ sym (found_in-push es e ∙ ap (found_by (found_in es)) is))
knowledge-push o (Found found) es e (command.Precious id) is h = (h.0, h.1 ∙ sym (found_in-push es e ∙ ap (found_by (found_in es)) is))
knowledge-push o (Found found) es e (command.Learn t valid) is h = (h.0, ap (λ f. with_verdict f t valid) h.1 ∙ sym (found_in-push es e ∙ ap (found_by (found_in es)) is))

-- with another reply too
pub knowledge-reply : (o : Origin) (k : Knowledge) (es : List Entry) (e : Entry) (r : Option Reply) → IsKnowledge o k (es ++ entry_with_reply e None ∷ []) → IsKnowledge o k (es ++ entry_with_reply e r ∷ [])
knowledge-reply o (Table table) es e r h = h
knowledge-reply o (Found found) es e r h = (h.0, h.1 ∙ found-push es (entry_with_reply e None) (entry_with_reply e r) refl)

-- verdicts by what is known after the history may be used with it
pub may_use : (o : Origin) (k : Knowledge) (es : List Entry) (early : List Answered) → IsKnowledge o k es → All (IsEarly (known_in o es)) early → All (IsEarly (known_of k)) early
may_use o k es early h by = subst (λ (known : Known). All (IsEarly known) early) (sym (known_is o k es h)) by

-- a set that agrees with it agrees with what is known after the history
pub agrees_there : (o : Origin) (k : Knowledge) (es : List Entry) (valid : Triples) → IsKnowledge o k es → Agrees (known_of k) valid → Agrees (known_in o es) valid
agrees_there o k es valid h agrees = subst (λ (known : Known). Agrees known valid) (known_is o k es h) agrees

-- and the other way round
pub agrees_here : (o : Origin) (k : Knowledge) (es : List Entry) (valid : Triples) → IsKnowledge o k es → Agrees (known_in o es) valid → Agrees (known_of k) valid
agrees_here o k es valid h agrees = subst (λ (known : Known). Agrees known valid) (sym (known_is o k es h)) agrees

-- the same coins differ nowhere
no_changes : (m : Coins) → AreChanges m m []
unfolding IsStrictlySortedBy
no_changes m = record { in_order = tt; differ = λ q w n. absurd (cc); others = λ q n. refl }

-- a verdict that is taken down leaves the core
pub learns_there : (o : Origin) (core : CoreState) (k : Knowledge) (note : Beginning) (t : Triple) (valid : Bool) → IsLockedAt o core k note → AreCoreSteps (known_of k) core core (command.Learn t valid) (reply.Mark Done) []
learns_there o core k note t valid at triples agrees =
    let theirs = at.core_is.theirs triples (agrees_there o k note.entries triples at.known_is agrees) in
    record {
      outcome_is = learns (regtest core.params triples) core.state t valid;
      changes_are = no_changes (core_state.coins_of core);
      params_are = refl;
      follows = theirs.is_chainstate.follows;
    }

-- what a core wants is wanted after its history
pub wanted_after : (o : Origin) (core : CoreState) (k : Knowledge) (es : List Entry) (c : Command) (r : Refusal) → IsCoreOf o core es → IsKnowledge o k es → IsWantOf core (known_of k) c r → IsWantAfter o es c r
wanted_after o core k es c refusal.Memory kept h want = tt
wanted_after o core k es c refusal.Closed kept h want = tt
wanted_after o core k es c (refusal.Unknown wants) kept h want = record {
  core = core;
  params_are = kept.params_are;
  core_is = λ valid agrees. let t = kept.theirs valid agrees in record {
    state_is = t.state_is;
    active_is = t.is_chainstate.follows.active_is ∙ ap (λ (p : Params). active (regtest p valid) core.state) kept.params_are;
  };
  wanted = subst (λ (known : Known). AreWantedByStep core c known wants.items) (known_is o k es h) want;
}
