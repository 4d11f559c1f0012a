use Rattle.std.proofs.Common.{subst, sym}
use Rattle.coins.specs.declared.entry.CacheEntry.{CacheEntry}
use Rattle.coins.specs.Entries.{entry_at}
use Rattle.coins.specs.inside.Entries.{Written, merge_entry}
use Rattle.coins.proofs.LayersMerge.{written_same}
use Rattle.coins.proofs.entry.lay_one.Goals as goal

pub returns-in-Clean : goal.returns-in-Clean
returns-in-Clean c =
    let es = c.args.entries.now.entries in
    subst (λ (e : CacheEntry). Written es es c.args.at (merge_entry (entry_at es c.args.at) e)) (sym c.in-Clean.is) (written_same es c.args.at)
