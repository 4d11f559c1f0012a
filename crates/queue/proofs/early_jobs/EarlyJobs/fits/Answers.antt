use Rattle.std.proofs.Common.{◌≡◌, false}
use Rattle.queue.proofs.Pairs.{fits_from, fits_parts}
use Rattle.queue.proofs.early_jobs.EarlyJobs.fits.Goals as goal

pub returns-then-asks_but_for_tx : goal.returns-then-asks_but_for_tx
returns-then-asks_but_for_tx c =
    let batch = c.args.self.now in
    let job = c.args.job.now in (
      λ t. fits_from batch c.args.at job (c.asks_but_for_tx.ensures.0 c.if-asks_but_for_tx.true) (c.is_of.ensures.0 t),
      λ h. c.is_of.ensures.1 (fits_parts batch c.args.at job h).1,
    )

pub returns-else-asks_but_for_tx : goal.returns-else-asks_but_for_tx
returns-else-asks_but_for_tx c =
    let no : c.asks_but_for_tx.result ≡ false = c.if-asks_but_for_tx.false in (
      λ t. absurd cc,
      λ h. c.asks_but_for_tx.ensures.1 (fits_parts c.args.self.now c.args.at c.args.job.now h).0,
    )
