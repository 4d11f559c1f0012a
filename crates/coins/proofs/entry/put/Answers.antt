use Rattle.std.proofs.Common.{rules, Some, ◌≡◌, sym, ap, ◌∙◌, None}
use Rattle.coins.specs.declared.entry.CacheEntry.TheVariants.{Fresh}
use Rattle.coins.specs.Entries.{entry_at}
use Rattle.coins.specs.inside.Entries.{added_entry}
use Rattle.coins.proofs.Layers.{placed}
use Rattle.coins.proofs.entry.put.Goals as goal

pub returns-in-Vacant-clause-ok : goal.returns-in-Vacant-clause-ok
returns-in-Vacant-clause-ok c =
    let es = c.args.entries.now.entries in
    let s = c.in_ok-place.ensures.same_map in
    let is = c.entries-in-Vacant-2-1.given.1 (search rules) in
    let none : entry_at es c.args.at ≡ None = search rules in
    placed es _ _ c.args.at (Some (Fresh c.args.coin)) _ (ap (λ m. m.entries) is ∙ search rules) (c.in_ok-place.ensures.update.0 (Fresh c.args.coin)).0 (sym (ap (λ o. Some (added_entry o c.args.coin)) none))

pub returns-in-Occupied-clause-ok : goal.returns-in-Occupied-clause-ok
returns-in-Occupied-clause-ok c =
    let es = c.args.entries.now.entries in
    let w = c.insert-in-Occupied.ensures.written in
    let s = c.in_ok-place.ensures.same_map in
    let is = c.entries-in-Occupied-1.given.1 (search rules) ∙ w.1 in
    let e : c.added-entry.result ≡ added_entry (entry_at es c.args.at) c.args.coin = search rules in
    placed es _ _ c.args.at (Some c.added-entry.result) _ (ap (λ m. m.entries) is ∙ search rules) (c.in_ok-place.ensures.update.0 c.added-entry.result).0 (ap (λ x. Some x) e)
