-- What is shown of a kept block, and that of another one nothing is.
use Rattle.std.proofs.Common.{◌≡◌, ℕ, List, Option, None, Some, refl, sym, ap, ◌∙◌}
use Rattle.std.specs.Option.{option_map, unwrap_or}
use Rattle.hash.specs.declared.id.Id.{Id}
use Rattle.block.specs.Grammar.{header}
use Rattle.tree.specs.Branches.{block_at, height}
use Rattle.tree.specs.Names.{names}
use Rattle.activate.specs.Lookups.{confirmations}
use Rattle.ffi.specs.declared.answers.ShownHeader.{ShownHeader}
use Rattle.ffi.specs.Lookups.{IsHeaderShown, confirmations_number}
use Rattle.ffi.specs.SessionState.{SessionState, rules_of, tree_of}

some_none : {A : Type 0} (x : A) → ◌≡◌ {A = Option A} (Some x) None → ⊥
some_none x e = cc

same_some : {A : Type 0} {x y : A} → ◌≡◌ {A = Option A} (Some x) (Some y) → x ≡ y
same_some {A} {x} e = ap (λ (o : Option A). unwrap_or o x) e

pub none_shown : {A : Type 0} (s : SessionState) (id : Id) (o : Option ℕ) (f : ℕ → A) (before : ShownHeader) → option_map f o ≡ None → IsHeaderShown s id o before before 4
none_shown s id None f before e = (refl, refl)
none_shown s id (Some p) f before e = absurd (some_none (f p) e)

pub all_shown : (s : SessionState) (id : Id) (o : Option ℕ) (before shown : ShownHeader) (bytes : List ℕ) (high : ℕ)
    → option_map (λ p. header.spell (block_at names (tree_of s).blocks p).header) o ≡ Some bytes → option_map (height (tree_of s).blocks) o ≡ Some high
    → shown.header ≡ bytes → shown.height ≡ high → shown.confirmations ≡ confirmations_number (confirmations (rules_of s) (tree_of s) id)
    → IsHeaderShown s id o before shown 0
all_shown s id None before shown bytes high e f a b d = absurd (some_none bytes (sym e))
all_shown s id (Some p) before shown bytes high e f a b d = (refl, record { header_is = a ∙ sym (same_some e); height_is = b ∙ sym (same_some f); confirmations_are = d })
