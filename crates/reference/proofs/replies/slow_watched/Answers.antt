use Rattle.std.proofs.Common.{◌+◌, List, [], ◌∷◌, ◌++◌, drop, sym, ap, ◌∙◌, append_assoc}
use Rattle.std.proofs.lemmas.List.{at_drop_more, at_drop_all, append-nil}
use Rattle.tree.specs.State.{State}
use Rattle.block.specs.declared.block.Block.{Block}
use Rattle.model.specs.declared.command.Command.{Command}
use Rattle.model.specs.declared.reply.Reply.{Reply}
use Rattle.model.specs.Submission.{Outcome}
use Rattle.model.specs.Commands.{outcome, replies_of}
use Rattle.model.specs.Regtest.{regtest}
use Rattle.reference.specs.inside.Replay.{state_of_replayed}
use Rattle.reference.proofs.replies.slow_watched.Goals as goal

pub loop-index-init : goal.loop-index-init
loop-index-init g c =
    let r = regtest c.args.params.now c.args.table.now in
    record {
      right = c.in_ok-old.ensures.right c.args.params.now c.args.table.now;
      replies = ap (λ (l : List Reply). l ++ replies_of r (state_of_replayed c.in_ok-old.old) c.args.commands.now) c.new-replies.ensures.items
          ∙ ap (λ (s : State Block). replies_of r s c.args.commands.now) c.in_ok-old.ensures.state;
    }

pub loop-index-preserved : goal.loop-index-preserved
loop-index-preserved g c =
    let r = regtest c.args.params.now c.args.table.now in
    let s = state_of_replayed c.loop-index.old in
    let u = state_of_replayed c.step.new.old in
    let cs = c.args.commands.now in
    let i = c.loop-index.index in
    let done = c.loop-index.replies.items in
    record {
      right = c.in_ok-step.ensures.right;
      replies = ap (λ (l : List Reply). l ++ replies_of r u (drop (i + 1) cs)) c.in_ok-push.ensures.items
          ∙ append_assoc done (c.in_ok-step.field-0 ∷ []) (replies_of r u (drop (i + 1) cs))
          ∙ ap (λ (o : Outcome Block). done ++ (o.1 ∷ replies_of r o.0 (drop (i + 1) cs))) c.in_ok-step.ensures.state
          ∙ ap (λ (d : Command). done ++ ((outcome r s d).1 ∷ replies_of r (outcome r s d).0 (drop (i + 1) cs))) c.index-commands-index.is
          ∙ ap (λ (l : List Reply). done ++ l) (sym (at_drop_more (λ (l : List Command). replies_of r s l) cs i c.index-commands-index.result c.loop-index-test.true))
          ∙ c.loop-index.invariant.replies;
    }

pub returns : goal.returns
returns g c =
    let r = regtest c.args.params.now c.args.table.now in
    sym (append-nil c.loop-index.replies.items)
    ∙ ap (λ (l : List Reply). c.loop-index.replies.items ++ l) (sym (at_drop_all (λ (l : List Command). replies_of r (state_of_replayed c.loop-index.old) l) c.args.commands.now c.loop-index.index c.loop-index-test.false))
    ∙ c.loop-index.invariant.replies
