-- What is in a slot that isn't full.
use Rattle.std.proofs.Common.{◌≡◌, Bool, true, false, Option, None, Some, refl, sym, true≢false}
use Rattle.std.specs.Prelude.{is_some}

pub empty : {A : Type 0} (v : Option A) → is_some v ≡ false → v ≡ None
empty None h = refl
empty (Some x) h = absurd (true≢false h)
