use Rattle.std.proofs.Common.{rules, ◌≡◌, ℕ, ◌<◌, List, length, get_or, sym, ap₂, subst, ◌∙◌}
use Rattle.txn.specs.Tx.{Tx}
use Rattle.sighash.specs.Midstates.{AreOf}
use Rattle.queue.specs.declared.early_jobs.Listed.{Listed}
use Rattle.interp.specs.Question.{question}
use Rattle.queue.specs.Jobs.{Batch, IsThere, tx_at}
use Rattle.queue.specs.inside.KnownAnswers.{spending_of}
use Rattle.queue.specs.laws.LentMidstates.{lent_of}
use Rattle.queue.proofs.ListOfJobs.{asked_next, asked_push, inputs_push, tx_lent}
use Rattle.queue.proofs.early_jobs.EarlyJobs.jobs.Goals as goal

pub invariant_of-push : goal.invariant_of-push
invariant_of-push c =
    let txs = c.self.inside.txs.now in
    let each : AreOf txs c.args.midstates.now = subst (λ (b : Batch). AreOf b.txs c.args.midstates.now) (sym c.self.view_is) c.requires in
    record { same_tx = lent_of txs c.args.midstates.now c.listed-item.result.place c.get.result c.index-self-listed.result each c.get.ensures.lookup }

pub loop-listed-preserved : goal.loop-listed-preserved
loop-listed-preserved c =
    let txs = c.self.inside.txs.now in
    let flags = c.self.inside.flags in
    let items : List Listed = c.self.inside.list.items in
    let k = c.loop-listed.listed-index in
    let listed : Listed = c.listed-item.result in
    let lt : k < length items = search rules in
    let is : listed ≡ get_or items k listed = search rules in
    let there : IsThere txs (spending_of listed) = subst (λ (l : Listed). IsThere txs (spending_of l)) (sym is) (c.self.invariant k listed lt) in
    let tx : tx_at txs listed.place ≡ get_or txs listed.place c.index-self-listed.result = tx_lent txs listed.place c.index-self-listed.result there.0 c.index-self-listed.is in
    let spent : c.as_slice.result.now ≡ listed.spent.items = c.as_slice.ensures.value in
    record {
      asked = asked_push _ _ _ _ _ c.in_ok-push.ensures.items c.loop-listed.invariant.asked (ap₂ (λ (t : Tx) (s : List ℕ). question t listed.input s flags) (sym tx) spent) ∙ sym (asked_next txs flags items k listed lt is);
      inputs = inputs_push _ _ _ c.in_ok-push.ensures.items c.loop-listed.invariant.inputs (subst (λ (t : Tx). listed.input < length t.inputs) tx there.1);
    }
