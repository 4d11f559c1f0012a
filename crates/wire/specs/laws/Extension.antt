-- Bytes to which a call has only added.
use Rattle.std.proofs.Common.{Bool, true, false, Result, Ok, Err, ◌≡◌, ℕ, List, [], ◌++◌, length, take, refl, sym, ◌∙◌, ap, append_assoc}
use Rattle.std.specs.Prelude.{if◌then◌else◌, OnOk, OnErr}
use Rattle.std.proofs.lemmas.List.{append-nil, take_at}

-- the old bytes are at the front of the new
unfoldable pub Extends : List ℕ → List ℕ → Type 0
Extends old new = (more : List ℕ) × (new ≡ old ++ more)

pub extends-same : (old new : List ℕ) → new ≡ old → Extends old new
unfolding Extends
extends-same old new e = ([], e ∙ sym (append-nil old))

pub extends-append : (old new more : List ℕ) → new ≡ old ++ more → Extends old new
unfolding Extends
extends-append old new more e = (more, e)

-- a call that adds all or nothing
pub extends-if : (old new more : List ℕ) (done : Bool) → new ≡ (if done then old ++ more else old) → Extends old new
extends-if old new more true e = extends-append old new more e
extends-if old new more false e = extends-same old new e

pub extends-either : {A E : Type 0} (old new more : List ℕ) (result : Result A E) → OnOk result (new ≡ old ++ more) → OnErr result (new ≡ old) → Extends old new
extends-either old new more (Ok x) written kept = extends-append old new more written
extends-either old new more (Err e) written kept = extends-same old new kept

pub extends-trans : (old middle new : List ℕ) → Extends old middle → Extends middle new → Extends old new
unfolding Extends
extends-trans old middle new a b = (a.0 ++ b.0, b.1 ∙ ap (λ (t : List ℕ). t ++ b.0) a.1 ∙ append_assoc old a.0 b.0)

pub take-extends : (old new : List ℕ) → Extends old new → take (length old) new ≡ old
unfolding Extends
take-extends old new h = ap (take (length old)) h.1 ∙ take_at old h.0 (length old) refl

pub ruleset extending = (extends-same, extends-append, take-extends)
