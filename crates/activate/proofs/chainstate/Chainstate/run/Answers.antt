use Rattle.std.proofs.Common.{◌≡◌, ◌+◌, List, [], ◌∷◌, ◌++◌, drop, get_or, Result, Ok, Err, OnErr, refl, sym, ap, ◌∙◌, append_assoc}
use Rattle.std.proofs.lemmas.List.{at_drop_more, at_drop_all, append-nil, take_all}
use Rattle.block.specs.declared.block.Block.{Block}
use Rattle.rules.specs.declared.params.Params.{Params}
use Rattle.tree.specs.State.{State}
use Rattle.model.specs.declared.command.Command.{Command}
use Rattle.model.specs.declared.reply.Reply.{Reply}
use Rattle.model.specs.Submission.{Outcome}
use Rattle.model.specs.Commands.{outcome, replies_of, state_after_commands}
use Rattle.model.specs.Regtest.{regtest}
use Rattle.signatures.specs.laws.Agreement.{table_agrees}
use Rattle.connect.specs.laws.AtTable.{at_table}
use Rattle.activate.specs.CoreState.{IsChainstate, WithCoins}
use Rattle.model.specs.laws.Outcomes.{state-more}
use Rattle.activate.proofs.chainstate.Chainstate.run.Goals as goal

on_err : {V E : Type 0} {P : Type 0} (o : Result V E) → P → OnErr o P
on_err (Ok x) p = tt
on_err (Err e) p = p

pub loop-index-init : goal.loop-index-init
loop-index-init g c =
    let r = regtest c.args.self.now.core.params c.args.env.now.signatures.now in
    record {
      replies = ap (λ (l : List Reply). l ++ replies_of r c.args.self.now.core.state c.args.commands.now) c.new-replies.ensures.items;
      state = refl;
      params = refl;
      is_chainstate = c.requires.is_chainstate;
    }

pub returns-in_err-reserve-clause-params : goal.returns-in_err-reserve-clause-params
returns-in_err-reserve-clause-params g c = c.loop-index.invariant.params

pub returns-in_err-reserve-clause-is_chainstate : goal.returns-in_err-reserve-clause-is_chainstate
returns-in_err-reserve-clause-is_chainstate g c = c.loop-index.invariant.is_chainstate

pub returns-in_err-reserve-clause-err : goal.returns-in_err-reserve-clause-err
returns-in_err-reserve-clause-err g c = on_err c.from_residual.result (c.loop-index.index, c.loop-index.auto.index-end, c.loop-index.invariant.state)

pub returns-in_err-command-clause-params : goal.returns-in_err-command-clause-params
returns-in_err-command-clause-params g c = c.loop-index.invariant.params

pub returns-in_err-command-clause-is_chainstate : goal.returns-in_err-command-clause-is_chainstate
returns-in_err-command-clause-is_chainstate g c = c.loop-index.invariant.is_chainstate

pub returns-in_err-command-clause-err : goal.returns-in_err-command-clause-err
returns-in_err-command-clause-err g c = on_err c.from_residual-in_err-command.result (c.loop-index.index, c.loop-index.auto.index-end, c.loop-index.invariant.state)

pub step-requires : goal.step-requires
step-requires g c = record { is_chainstate = at_table c.args.env.now.signatures.now (IsChainstate c.loop-index.self) c.loop-index.invariant.is_chainstate }

pub returns-in_err-reply-clause-is_chainstate : goal.returns-in_err-reply-clause-is_chainstate
returns-in_err-reply-clause-is_chainstate g c = c.in_err-reply.ensures.is_chainstate c.args.env.now.signatures.now (table_agrees c.args.env.now.signatures.now)

pub returns-in_err-reply-clause-params : goal.returns-in_err-reply-clause-params
returns-in_err-reply-clause-params g c = c.in_err-reply.ensures.params ∙ c.loop-index.invariant.params

pub returns-in_err-reply-clause-err : goal.returns-in_err-reply-clause-err
returns-in_err-reply-clause-err g c =
    on_err c.from_residual-in_err-reply.result (c.loop-index.index, c.loop-index.auto.index-end, ap (λ (x : WithCoins). x.core.state) c.in_err-reply.ensures.err ∙ c.loop-index.invariant.state)

pub loop-index-preserved : goal.loop-index-preserved
loop-index-preserved g c =
    let r = regtest c.args.self.now.core.params c.args.env.now.signatures.now in
    let s = c.loop-index.self.core.state in
    let u = c.step.new.self.core.state in
    let cs = c.args.commands.now in
    let i = c.loop-index.index in
    let done = c.loop-index.replies.items in
    let says : (u, c.in_ok-reply.reply) ≡ outcome r s (get_or cs i c.index-commands-index.result) =
    c.in_ok-reply.ensures.outcome c.args.env.now.signatures.now (table_agrees c.args.env.now.signatures.now)
    ∙ ap (λ (d : Command). outcome (regtest c.loop-index.self.core.params c.args.env.now.signatures.now) s d) c.in_ok-command.ensures
    ∙ ap (λ (q : Params). outcome (regtest q c.args.env.now.signatures.now) s c.index-commands-index.result) c.loop-index.invariant.params
    ∙ ap (λ (d : Command). outcome r s d) c.index-commands-index.is in
    let items : ◌≡◌ {A = List Reply} c.push_reserved.new.self.items (done ++ (c.in_ok-reply.reply ∷ [])) = c.push_reserved.ensures.items ∙ ap (λ (l : List Reply). l ++ (c.in_ok-reply.reply ∷ [])) c.in_ok-reserve.ensures.items in
    record {
      replies = ap (λ (l : List Reply). l ++ replies_of r u (drop (i + 1) cs)) items
          ∙ append_assoc done (c.in_ok-reply.reply ∷ []) (replies_of r u (drop (i + 1) cs))
          ∙ ap (λ (o : Outcome Block). done ++ (o.1 ∷ replies_of r o.0 (drop (i + 1) cs))) says
          ∙ ap (λ (l : List Reply). done ++ l) (sym (at_drop_more (λ (l : List Command). replies_of r s l) cs i c.index-commands-index.result c.loop-index-test.true))
          ∙ c.loop-index.invariant.replies;
      state = ap (λ (o : Outcome Block). o.0) says ∙ ap (λ (x : State Block). (outcome r x (get_or cs i c.index-commands-index.result)).0) c.loop-index.invariant.state
          ∙ sym (state-more r c.args.self.now.core.state cs i c.index-commands-index.result c.loop-index-test.true);
      params = c.in_ok-reply.ensures.params ∙ c.loop-index.invariant.params;
      is_chainstate = c.in_ok-reply.ensures.is_chainstate c.args.env.now.signatures.now (table_agrees c.args.env.now.signatures.now);
    }

pub returns-clause-replies : goal.returns-clause-replies
returns-clause-replies g c =
    let r = regtest c.args.self.now.core.params c.args.env.now.signatures.now in
    sym (append-nil c.loop-index.replies.items)
    ∙ ap (λ (l : List Reply). c.loop-index.replies.items ++ l) (sym (at_drop_all (λ (l : List Command). replies_of r c.loop-index.self.core.state l) c.args.commands.now c.loop-index.index c.loop-index-test.false))
    ∙ c.loop-index.invariant.replies

pub returns-clause-state : goal.returns-clause-state
returns-clause-state g c =
    let r = regtest c.args.self.now.core.params c.args.env.now.signatures.now in
    c.loop-index.invariant.state ∙ ap (state_after_commands r c.args.self.now.core.state) (take_all c.loop-index.index c.args.commands.now c.loop-index-test.false)

pub returns-clause-params : goal.returns-clause-params
returns-clause-params g c = c.loop-index.invariant.params

pub returns-clause-is_chainstate : goal.returns-clause-is_chainstate
returns-clause-is_chainstate g c = c.loop-index.invariant.is_chainstate
