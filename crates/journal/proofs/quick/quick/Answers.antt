use Rattle.std.proofs.Common.{◌≡◌, ◌+◌, List, [], ◌∷◌, ◌++◌, drop, sym, ap, ◌∙◌, append_assoc}
use Rattle.std.proofs.lemmas.List.{at_drop_more, at_drop_all, append-nil}
use Rattle.block.specs.declared.block.Block.{Block}
use Rattle.rules.specs.declared.params.Params.{Params}
use Rattle.model.specs.declared.command.Command.{Command}
use Rattle.model.specs.declared.reply.Reply.{Reply}
use Rattle.model.specs.Submission.{Outcome}
use Rattle.model.specs.Commands.{outcome, replies_of}
use Rattle.model.specs.Regtest.{regtest}
use Rattle.activate.specs.CoreState.{IsChainstate, WithCoins}
use Rattle.signatures.specs.laws.Agreement.{table_agrees}
use Rattle.connect.specs.laws.AtTable.{at_table}
use Rattle.journal.proofs.quick.quick.Goals as goal

pub loop-index-init : goal.loop-index-init
loop-index-init g c =
    let r = regtest c.args.params.now c.args.table.now in
    record {
      replies = ap (λ (l : List Reply). l ++ replies_of r c.in_ok-chain.chain.core.state c.args.commands.now) c.new-replies.ensures.items
          ∙ ap (λ (x : WithCoins). replies_of r x.core.state c.args.commands.now) c.in_ok-chain.ensures.value;
      params = ap (λ (x : WithCoins). x.core.params) c.in_ok-chain.ensures.value;
      is_chainstate = c.in_ok-chain.ensures.is_chainstate c.args.table.now;
    }

pub loop-index-preserved : goal.loop-index-preserved
loop-index-preserved g c =
    let r = regtest c.args.params.now c.args.table.now in
    let s = c.loop-index.chain.core.state in
    let u = c.step.new.self.core.state in
    let cs = c.args.commands.now in
    let i = c.loop-index.index in
    let done = c.loop-index.replies.items in
    let says : (u, c.in_ok-step.field-0) ≡ outcome r s c.index-commands-index.result =
    c.in_ok-step.ensures.outcome c.args.table.now (table_agrees c.args.table.now)
    ∙ ap (λ (d : Command). outcome (regtest c.loop-index.chain.core.params c.args.table.now) s d) c.in_ok-command.ensures
    ∙ ap (λ (q : Params). outcome (regtest q c.args.table.now) s c.index-commands-index.result) c.loop-index.invariant.params in
    record {
      replies = ap (λ (l : List Reply). l ++ replies_of r u (drop (i + 1) cs)) c.in_ok-push.ensures.items
          ∙ append_assoc done (c.in_ok-step.field-0 ∷ []) (replies_of r u (drop (i + 1) cs))
          ∙ ap (λ (o : Outcome Block). done ++ (o.1 ∷ replies_of r o.0 (drop (i + 1) cs))) says
          ∙ ap (λ (d : Command). done ++ ((outcome r s d).1 ∷ replies_of r (outcome r s d).0 (drop (i + 1) cs))) c.index-commands-index.is
          ∙ ap (λ (l : List Reply). done ++ l) (sym (at_drop_more (λ (l : List Command). replies_of r s l) cs i c.index-commands-index.result c.loop-index-test.true))
          ∙ c.loop-index.invariant.replies;
      params = c.in_ok-step.ensures.params ∙ c.loop-index.invariant.params;
      is_chainstate = c.in_ok-step.ensures.is_chainstate c.args.table.now (table_agrees c.args.table.now);
    }

pub returns : goal.returns
returns g c =
    let r = regtest c.args.params.now c.args.table.now in
    sym (append-nil c.loop-index.replies.items)
    ∙ ap (λ (l : List Reply). c.loop-index.replies.items ++ l) (sym (at_drop_all (λ (l : List Command). replies_of r c.loop-index.chain.core.state l) c.args.commands.now c.loop-index.index c.loop-index-test.false))
    ∙ c.loop-index.invariant.replies

pub step-requires : goal.step-requires
step-requires g c = record { is_chainstate = at_table c.args.table.now (IsChainstate c.loop-index.chain) c.loop-index.invariant.is_chainstate }
