use Rattle.std.proofs.Common.{rules, ◌≡◌, ◌<◌, true, Some, get_or, length, map, refl, sym, ap, ◌∙◌, subst}
use Rattle.std.specs.Prelude.{slice_get}
use Rattle.std.specs.Option.{option_map}
use Rattle.std.proofs.lemmas.Option.{slice_get_read, slice_get-map}
use Rattle.queue.specs.declared.early_jobs.Listed.{Listed}
use Rattle.queue.specs.Jobs.{Batch, tx_at}
use Rattle.queue.specs.inside.KnownAnswers.{spending_of}
use Rattle.queue.proofs.Pairs.{IsOf, batch_of, test_at, tx_read}
use Rattle.queue.proofs.early_jobs.EarlyJobs.is_of.Goals as goal

pub returns : goal.returns
returns c =
    let txs = c.self.inside.txs.now in
    let items = c.self.inside.list.items in
    let tx = c.args.tx.now in
    let at = c.args.at in
    let listed : Listed = c.in-Some.listed.now in
    let within : at < length items = search rules in
    let same : listed ≡ get_or items at listed = search rules in
    let there : slice_get (map spending_of items) at ≡ Some (spending_of listed) = slice_get-map spending_of items at ∙ ap (option_map spending_of) (slice_get_read items (length items) at listed refl within same) in
    let own : tx_at txs listed.place ≡ c.index-self-listed.result = tx_read txs listed.place c.index-self-listed.result (search rules) c.index-self-listed.is in
    let batch : Batch = batch_of txs c.self.inside.flags items in
    let both : (c.eq.result ≡ true → IsOf batch at tx) × (IsOf batch at tx → c.eq.result ≡ true) =
    test_at batch at (spending_of listed) (λ x. tx_at txs x.place ≡ tx) c.eq.result there
    (λ t. own ∙ (let e : c.index-self-listed.result ≡ tx = search rules in e))
    (λ h. let e : c.index-self-listed.result ≡ tx = sym own ∙ h in search rules) in
    subst (λ (b : Batch). (c.eq.result ≡ true → IsOf b at tx) × (IsOf b at tx → c.eq.result ≡ true)) c.self.view_is both
