use Rattle.std.proofs.Common.{rules, ◌≡◌, ◌<◌, true, false, Some, get_or, length, map, refl, sym, ap, ◌∙◌, subst}
use Rattle.std.specs.Prelude.{slice_get}
use Rattle.std.specs.Option.{option_map}
use Rattle.std.proofs.lemmas.Option.{slice_get_read, slice_get-map}
use Rattle.queue.specs.declared.early_jobs.Listed.{Listed}
use Rattle.queue.specs.Jobs.{Batch}
use Rattle.queue.specs.inside.KnownAnswers.{spending_of}
use Rattle.queue.proofs.Flags.{flags-same, flags-again}
use Rattle.queue.proofs.Pairs.{AsksButForTx, batch_of, test_at}
use Rattle.queue.proofs.early_jobs.EarlyJobs.asks_but_for_tx.Goals as goal

pub returns-then-asks : goal.returns-then-asks
returns-then-asks c =
    let items = c.self.inside.list.items in
    let flags = c.self.inside.flags in
    let job = c.args.job.now in
    let at = c.args.at in
    let listed : Listed = c.in-Some.listed.now in
    let within : at < length items = search rules in
    let same : listed ≡ get_or items at listed = search rules in
    let there : slice_get (map spending_of items) at ≡ Some (spending_of listed) = slice_get-map spending_of items at ∙ ap (option_map spending_of) (slice_get_read items (length items) at listed refl within same) in
    let fits : (listed.input ≡ job.input) × (listed.spent.items ≡ job.spent.now) = c.asks.ensures.0 c.if-asks.true in
    let batch : Batch = batch_of c.self.inside.txs.now flags items in
    let test = test_at batch at (spending_of listed) (λ x. (x.input ≡ job.input) × (x.spent ≡ job.spent.now) × (flags ≡ job.flags)) c.eq.result there
    (λ t. (fits.0, fits.1, flags-same flags job.flags (sym c.eq.ensures ∙ t)))
    (λ h. c.eq.ensures ∙ flags-again flags job.flags h.2) in
    let both : (c.eq.result ≡ true → AsksButForTx batch at job) × (AsksButForTx batch at job → c.eq.result ≡ true) =
    ((λ t. let h = test.0 t in (h.0, h.1, h.2.0, h.2.1, h.2.2)), λ k. test.1 (k.0, k.1, (k.2, k.3, k.4))) in
    subst (λ (b : Batch). (c.eq.result ≡ true → AsksButForTx b at job) × (AsksButForTx b at job → c.eq.result ≡ true)) c.self.view_is both

pub returns-else-asks : goal.returns-else-asks
returns-else-asks c =
    let items = c.self.inside.list.items in
    let flags = c.self.inside.flags in
    let job = c.args.job.now in
    let at = c.args.at in
    let listed : Listed = c.in-Some.listed.now in
    let within : at < length items = search rules in
    let same : listed ≡ get_or items at listed = search rules in
    let there : slice_get (map spending_of items) at ≡ Some (spending_of listed) = slice_get-map spending_of items at ∙ ap (option_map spending_of) (slice_get_read items (length items) at listed refl within same) in
    let no : c.asks.result ≡ false = c.if-asks.false in
    let batch : Batch = batch_of c.self.inside.txs.now flags items in
    let test = test_at batch at (spending_of listed) (λ x. (x.input ≡ job.input) × (x.spent ≡ job.spent.now) × (flags ≡ job.flags)) c.asks.result there
    (λ t. absurd cc)
    (λ h. c.asks.ensures.1 (h.0, h.1)) in
    let both : (c.asks.result ≡ true → AsksButForTx batch at job) × (AsksButForTx batch at job → c.asks.result ≡ true) =
    ((λ t. let h = test.0 t in (h.0, h.1, h.2.0, h.2.1, h.2.2)), λ k. test.1 (k.0, k.1, (k.2, k.3, k.4))) in
    subst (λ (b : Batch). (c.asks.result ≡ true → AsksButForTx b at job) × (AsksButForTx b at job → c.asks.result ≡ true)) c.self.view_is both
