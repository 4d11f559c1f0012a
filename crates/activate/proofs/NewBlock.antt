-- A new block on a kept one, in a chainstate that follows its commands.
use Rattle.std.proofs.Common.{◌≡◌, ℕ, suc, ◌≤◌, true, false, [], length, Option, None, sym, ap, subst, ◌∙◌}
use Rattle.std.specs.Option.{unwrap_or}
use Rattle.hash.specs.declared.id.Id.{Id}
use Rattle.block.specs.declared.block.Block.{Block}
use Rattle.signatures.specs.Triple.{Triples}
use Rattle.txn.specs.First.{first_broken}
use Rattle.rules.specs.Alone.{alone_rules}
use Rattle.tree.specs.Names.{names}
use Rattle.tree.specs.Nodes.{CanKeep}
use Rattle.tree.specs.Sound.{IsBest}
use Rattle.tree.specs.State.{beats, has_no_mark}
use Rattle.tree.specs.laws.AddedBlock.{place-bound}
use Rattle.activate.specs.declared.path.TryOutcome.{TryOutcome}
use Rattle.activate.specs.declared.plan.Prepared.{Prepared}
use Rattle.activate.specs.declared.plan.Settled.{Settled}
use Rattle.activate.specs.declared.plan.Edit.TheVariants.{Keep}
use Rattle.tree.specs.declared.new_block.NewBlock.{NewBlock}
use Rattle.activate.specs.declared.plan.Completion.{Completion}
use Rattle.activate.specs.declared.plan.Completion.TheVariants.{Nothing}
use Rattle.model.specs.declared.reply.SubmitReply.{SubmitReply}
use Rattle.model.specs.declared.reply.SubmitReply.TheVariants.{Inconclusive}
use Rattle.model.specs.declared.reply.Reply.{Reply}
use Rattle.model.specs.declared.reply.Reply.TheVariants as reply
use Rattle.model.specs.Faults.{IsNew}
use Rattle.model.specs.Regtest.{regtest}
use Rattle.model.specs.Rules.{Rules}
use Rattle.model.specs.Settle.{settle}
use Rattle.model.specs.Step.{Submit, step}
use Rattle.model.specs.Submission.{Outcome, answer_added, submit_says}
use Rattle.model.specs.laws.SettledState.{settle-blocks}
use Rattle.model.specs.laws.Steps.{faultless-alone, faultless-parent, step-added, step-beside}
use Rattle.activate.specs.CoreState.{CoreState, Follows, coins_of}
use Rattle.activate.specs.inside.Paths.{IsTryOutcome}
use Rattle.activate.specs.inside.Preparation.{CanTry, IsPreparationFor, IsSettledBy, IsTried, Settles, core_with_block, edited}
use Rattle.activate.proofs.Plans.{can-follows}
use Rattle.activate.proofs.PutInPlace.{best-added, can-added, coins-added, one-try-added, plan-settled, says-added, settles-beside}

module _ (triples : Triples) (a : CoreState) (follows : Follows a triples) (now : ℕ) (b : Block) (p : ℕ) (is : IsNew (regtest a.params triples) a.state now b p) where
  abbrev r : Rules Block Id
  r = regtest a.params triples

  abbrev n : ℕ
  n = suc (length a.state.blocks)

  abbrev grown : CoreState
  grown = core_with_block a b p

  can : CanTry r a
  can = can-follows r a follows.sound follows.kept follows.active_is

  pub alone_new : first_broken (alone_rules b) ≡ None
  alone_new = faultless-alone r a.state now b is.faultless

  pub below_new : p ≤ length a.state.blocks
  below_new = place-bound names a.state.blocks b.header.prev p is.parent

  -- with it there can be tried too
  pub can_new : CanTry r grown
  can_new = can-added r a follows.sound b p can alone_new below_new is.unknown is.parent

  -- the coins are the same
  pub coins_new : coins_of grown ≡ coins_of a
  coins_new = coins-added r a follows.sound b p can alone_new below_new is.unknown is.parent

  -- where it isn't better than the active one, it settles nothing
  pub settled_beside : beats grown.state n a.active ≡ false → (settled : Settled) → settled.rest ≡ Nothing → settled.changes ≡ [] → settled.said ≡ Inconclusive → IsSettledBy r grown n settled
  settled_beside low settled rest none said =
      let lower = subst (λ (q : ℕ). beats grown.state n q ≡ false) follows.active_is low in
      let told : ◌≡◌ {A = Outcome Block} (submit_says grown.state Inconclusive) (submit_says (settle r grown.state) (answer_added r (settle r grown.state) (length (settle r grown.state).blocks))) =
      sym (step-beside r a.state follows.sound now b p is lower) ∙ step-added r a.state now b p is in
      record {
        settles = subst (λ (x : Completion). Settles r grown x settled.changes) (sym rest)
            (settles-beside r a follows.sound b p can alone_new below_new is.unknown is.parent follows.active_is lower settled.changes none);
        said = said ∙ same_reply told ∙ ap (answer_added r (settle r grown.state)) (ap (λ (t : Rattle.tree.specs.Branches.Blocks Block). length t) (settle-blocks r grown.state));
      }
    where
      same_reply : {S : Type 0} {s t : S} {x y : SubmitReply} → ◌≡◌ {A = S × Reply} (s, reply.Submit x) (t, reply.Submit y) → x ≡ y
      same_reply {S} {s} {t} {x} {y} e = let f : reply.Submit x ≡ reply.Submit y = ap (λ (o : S × Reply). o.1) e in cc

  -- where it is, it is the best usable one
  pub best_new : beats grown.state n a.active ≡ true → IsBest grown.state (has_no_mark grown.state) (length grown.state.blocks) n
  best_new better =
      let from = faultless-parent r a.state now b is.faultless in
      let same : from.0 ≡ p = ap (λ (o : Option ℕ). unwrap_or o 0) (sym from.1 ∙ is.parent) in
      best-added r a follows.sound b p can alone_new below_new is.unknown is.parent follows.active_is (subst (λ (q : ℕ). has_no_mark a.state q ≡ true) same from.2) better

  -- and its one try settles the state
  pub tried_new : beats grown.state n a.active ≡ true → (attempt : TryOutcome) → IsTryOutcome r grown.state.blocks grown.active n attempt → IsTried r grown n attempt
  tried_new better attempt came = record {
    can = can_new;
    best = best_new better;
    one_try = one-try-added r a follows.sound b p can alone_new below_new is.unknown is.parent follows.active_is (best_new better);
    came = came;
  }

  -- what is prepared for it
  pub plan_new : (s : Settled) → IsSettledBy r grown n s → (new : NewBlock) → CanKeep a.state new → new.block ≡ b → new.parent ≡ p
      → IsPreparationFor r a (step r a.state (Submit now b)) (record { reply = reply.Submit s.said; edit = Keep new; rest = s.rest; changes = s.changes })
  plan_new s by new can_keep block_is parent_is =
      let prepared : Prepared = record { reply = reply.Submit s.said; edit = Keep new; rest = s.rest; changes = s.changes } in
      let same : edited a prepared.edit ≡ grown = ap (λ (x : Block). core_with_block a x new.parent) block_is ∙ ap (core_with_block a b) parent_is in
      plan-settled r a prepared can_keep (subst (λ (x : CoreState). Settles r x s.rest s.changes) (sym same) by.settles) (ap (λ (x : CoreState). has_no_mark x.state 0) same ∙ can_new.genesis)
      (step r a.state (Submit now b)) (ap coins_of same ∙ coins_new)
      (ap (λ (x : CoreState). (settle r x.state, prepared.reply)) same ∙ says-added r a follows.sound b p can alone_new below_new is.unknown is.parent s.said by.said ∙ sym (step-added r a.state now b p is))
