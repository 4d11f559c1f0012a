use Rattle.std.specs.Prelude.{IfSome}
use Rattle.std.proofs.Common.{◌≡◌, ℕ, ◌≤◌, Option, None, Some, length, sym, refl, ◌∙◌}
use Rattle.tree.specs.laws.AddedBlock.{place-bound}
use Rattle.tree.specs.Names.{names}
use Rattle.activate.proofs.lookups.place_of.Goals as goal

if_some : (o : Option ℕ) (P : ℕ → Type 0) → ((x : ℕ) → o ≡ Some x → P x) → IfSome o P
if_some None P h = tt
if_some (Some x) P h = h x refl

pub returns-clause-kept : goal.returns-clause-kept
returns-clause-kept c =
    let t = c.args.tree.now.blocks in
    if_some c.find.result (λ p. p ≤ length t) (λ p e. place-bound names t c.args.id.now p (sym c.find.ensures ∙ e))
