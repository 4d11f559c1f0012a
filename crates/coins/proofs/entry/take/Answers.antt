use Rattle.std.proofs.Common.{rules, true, Some, ◌≡◌, sym, ap, ◌∙◌, None}
use Rattle.std.specs.FinMap as map
use Rattle.coins.specs.declared.entry.CacheEntry.{CacheEntry}
use Rattle.coins.specs.declared.entry.CacheEntry.TheVariants.{Clean, Dirty}
use Rattle.coins.specs.Entries.{entry_at}
use Rattle.coins.specs.Lent.{lent}
use Rattle.coins.specs.inside.Entries.{entry_without_coin, is_fresh}
use Rattle.coins.proofs.Layers.{placed, kept, fresh_emptied, other_emptied}
use Rattle.coins.proofs.entry.take.Goals as goal

pub returns-in_default-clause-taken : goal.returns-in_default-clause-taken
returns-in_default-clause-taken g c =
    let es = c.args.entries.now.entries in
    let k = c.args.at.now in
    let s = c.in_ok-place.ensures.same_map in
    let same_entries : c.entries-in_default-1.given.0.entries ≡ es = search rules in
    let none : entry_at es k ≡ None = search rules in
    let below : map.get (g.B.Base.coins c.args.base.now) k ≡ None = search rules in
    kept es _ k _ same_entries (none ∙ (λ i. entry_without_coin (sym none i) (sym below i)))

pub returns-then-is_fresh-clause-taken : goal.returns-then-is_fresh-clause-taken
returns-then-is_fresh-clause-taken g c =
    let es = c.args.entries.now.entries in
    let k = c.args.at.now in
    let s = c.in_ok-place.ensures.same_map in
    let removed = c.remove.ensures.removed in
    let fresh : is_fresh (entry_at es k) ≡ true = search rules in
    placed es _ _ k None _ (search rules) c.in_ok-place.ensures.removal.0.0 (sym (fresh_emptied (entry_at es k) (map.get (g.B.Base.coins c.args.base.now) k) fresh))

pub returns-in_default-get-clause-taken : goal.returns-in_default-get-clause-taken
returns-in_default-get-clause-taken g c =
    let es = c.args.entries.now.entries in
    let k = c.args.at.now in
    let s = c.in_ok-place.ensures.same_map in
    let same_entries : c.entries-in_default-get-1.given.0.entries ≡ es = search rules in
    let clean : entry_at es k ≡ Some Clean = search rules in
    let below : map.get (g.B.Base.coins c.args.base.now) k ≡ None = search rules in
    kept es _ k _ same_entries (clean ∙ (λ i. entry_without_coin (sym clean i) (sym below i)))

pub returns-then-is_clean-clause-taken : goal.returns-then-is_clean-clause-taken
returns-then-is_clean-clause-taken g c =
    let es = c.args.entries.now.entries in
    let k = c.args.at.now in
    let w = c.insert-then-is_clean.ensures.written in
    let s = c.in_ok-place.ensures.same_map in
    let is = c.entries-then-is_clean-1.given.1 (search rules) ∙ w.1 in
    let clean : entry_at es k ≡ Some Clean = search rules in
    let below : map.get (g.B.Base.coins c.args.base.now) k ≡ Some (lent c.in-Some-get.coin) = search rules in
    placed es _ _ k (Some (Dirty None)) _ (ap (λ m. m.entries) is ∙ search rules) (c.in_ok-place.ensures.update.0 (Dirty None)).0 (λ i. entry_without_coin (sym clean i) (sym below i))

pub returns-in_ok-coin-in-Vacant-clause-taken : goal.returns-in_ok-coin-in-Vacant-clause-taken
returns-in_ok-coin-in-Vacant-clause-taken g c =
    let es = c.args.entries.now.entries in
    let k = c.args.at.now in
    let s = c.in_ok-place.ensures.same_map in
    let is = c.entries-in-Vacant-2-1.given.1 (search rules) in
    let none : entry_at es k ≡ None = search rules in
    let below : map.get (g.B.Base.coins c.args.base.now) k ≡ Some (lent c.in-Some.coin) = search rules in
    placed es _ _ k (Some (Dirty None)) _ (ap (λ m. m.entries) is ∙ search rules) (c.in_ok-place.ensures.update.0 (Dirty None)).0 (λ i. entry_without_coin (sym none i) (sym below i))

pub returns-else-is_clean-clause-taken : goal.returns-else-is_clean-clause-taken
returns-else-is_clean-clause-taken g c =
    let es = c.args.entries.now.entries in
    let k = c.args.at.now in
    let w = c.insert-in-Occupied.ensures.written in
    let s = c.in_ok-place.ensures.same_map in
    let is = c.entries-in-Occupied-1.given.1 (search rules) ∙ w.1 in
    let e : CacheEntry = c.get-in-Occupied.result.now in
    let there : entry_at es k ≡ Some e = search rules in
    let below = map.get (g.B.Base.coins c.args.base.now) k in
    let left : entry_without_coin (Some e) below ≡ Some (Dirty None) = other_emptied e below (search rules) (search rules) in
    placed es _ _ k (Some (Dirty None)) _ (ap (λ m. m.entries) is ∙ search rules) (c.in_ok-place.ensures.update.0 (Dirty None)).0 (sym left ∙ ap (λ o. entry_without_coin o below) (sym there))
