use Rattle.std.proofs.Common.{◌≡◌, ◌∷◌, [], ◌∙◌, ◌<◌, ◌≤◌, ℕ, List, length, get_or, ap, sym, refl, arith}
use lib.Pointwise.{bytes_decides}
use Rattle.hash.specs.declared.id.Id.{Id}
use Rattle.block.proofs.stored_block.is_only_id.Goals as goal

the_only : (ids : List Id) (d : Id) → length ids < 2 → 1 ≤ length ids → ids ≡ get_or ids 0 d ∷ []
the_only [] d lt ge = absurd (omega (arith, ge))
the_only (x ∷ []) d lt ge = refl
the_only (x ∷ y ∷ ids) d lt ge = absurd (omega (arith, lt))

same : (a b : Id) → a.0 ≡ b.0 → a ≡ b
same a b e = ap {A = List ℕ} {B = Id} (λ (bytes : List ℕ). record { 0 = bytes }) e

pub returns-in-len1 : goal.returns-in-len1
returns-in-len1 c = λ is.
    let one = the_only c.args.ids.now _ c.in-len1.len_below c.in-len1.len_at_least in
    one ∙ ap (λ (x : Id). x ∷ []) (same _ _ ((bytes_decides _ _).0 (sym c.eq.ensures ∙ is)))
