use Rattle.std.proofs.Common.{sym, ap, subst, ◌∙◌}
use Rattle.std.proofs.lemmas.Slice.Zip.{AllZip-long}
use Rattle.std.specs.FinMap as map
use Rattle.coins.specs.Coins.{Coins}
use Rattle.coins.specs.inside.Shards.{AreOfBytes}
use Rattle.coins.proofs.MapCopies.{same_gathered, same_own}
use Rattle.coins.proofs.shards.Shards.copy.Goals as goal

pub invariant_of-result : goal.invariant_of-result
invariant_of-result c =
    let old = c.self.inside.maps.items in
    let new = c.in_ok-maps.maps.items in
    let copies = c.in_ok-maps.ensures.cases.0 in
    let own = c.self.invariant.0 in (
      record { count = AllZip-long _ old new copies ∙ own.count; own = same_own 0 old new copies own.own },
      subst (λ (m : Coins). AreOfBytes m) (sym (ap map.from_entries (same_gathered old new copies))) c.self.invariant.1,
    )

pub returns : goal.returns
returns c = ap map.from_entries (same_gathered c.self.inside.maps.items c.in_ok-maps.maps.items c.in_ok-maps.ensures.cases.0) ∙ c.self.view_is
