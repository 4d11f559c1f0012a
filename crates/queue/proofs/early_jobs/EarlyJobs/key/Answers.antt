use Rattle.std.proofs.Common.{rules, ◌≡◌, ◌<◌, Some, get_or, length, map, refl, sym, ap, ◌∙◌, subst, arith}
use Rattle.std.specs.Prelude.{slice_get, slice_index_or}
use Rattle.std.specs.Option.{option_map}
use Rattle.std.proofs.lemmas.List.{length-map}
use Rattle.std.proofs.lemmas.Option.{slice_get_read, slice_get-map}
use Rattle.txn.specs.declared.input.TxIn.{TxIn}
use Rattle.queue.specs.declared.early_jobs.Listed.{Listed}
use Rattle.queue.specs.declared.verdict_index.Key.{Key}
use Rattle.interp.specs.Question.{Question}
use Rattle.queue.specs.Jobs.{Batch, Spending, questions, tx_at}
use Rattle.queue.specs.inside.KnownAnswers.{first_outpoint, key_of, spending_of}
use Rattle.queue.proofs.Pairs.{asks, asked_at, batch_of, first_of, some_is, tx_read}
use Rattle.queue.proofs.early_jobs.EarlyJobs.key.Goals as goal

pub returns : goal.returns
returns c =
    let txs = c.self.inside.txs.now in
    let items = c.self.inside.list.items in
    let batch = batch_of txs c.self.inside.flags items in
    let at = c.args.at in
    let listed : Listed = c.index-listed.result.now in
    let size = ap (λ (b : Batch). length b.spendings) (sym c.self.view_is) ∙ length-map items spending_of in
    let within : at < length items = omega (arith, c.requires, size) in
    let same : listed ≡ get_or items at listed = search rules in
    let there : slice_get (map spending_of items) at ≡ Some (spending_of listed) = slice_get-map spending_of items at ∙ ap (option_map spending_of) (slice_get_read items (length items) at listed refl within same) in
    let own : tx_at txs listed.place ≡ c.index-self-listed.result = tx_read txs listed.place c.index-self-listed.result (search rules) c.index-self-listed.is in
    let inputs = c.as_slice.result.now in
    let input : TxIn = c.index-as_slice-0.result in
    let lent : inputs ≡ (tx_at txs listed.place).inputs = search rules in
    let first : (slice_index_or inputs 0 input).prev ≡ first_outpoint (tx_at txs listed.place).inputs = first_of inputs input (search rules) ∙ ap first_outpoint lent in
    let key : ◌≡◌ {A = Key} (record { outpoint = (slice_index_or inputs 0 input).prev; input = listed.input }) (key_of (asks batch (spending_of listed))) = ap (λ p. record { outpoint = p; input = listed.input }) first in
    subst (λ (b : Batch). (q : Question) → slice_get (questions b) at ≡ Some q → ◌≡◌ {A = Key} (record { outpoint = (slice_index_or inputs 0 input).prev; input = listed.input }) (key_of q)) c.self.view_is
    (λ q h.
    let a = asked_at batch at q h in
    key ∙ ap (λ (s : Spending). key_of (asks batch s)) (some_is (spending_of listed) a.0 (sym there ∙ a.1)) ∙ ap key_of a.2)
