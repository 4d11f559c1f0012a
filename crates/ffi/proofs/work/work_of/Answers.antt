-- Nothing is divided where the target is 0 or has a fault.
use Rattle.std.proofs.Common.{◌≡◌, ℕ, ◌+◌, ◌/◌, ◌^◌, ◌==◌, Bool, true, false, ◌||◌, if◌then◌else◌, refl, ap, sym, ◌∙◌}
use Rattle.ffi.specs.Bits.{is_negative, overflows, target}
use Rattle.ffi.specs.Work.{work}
use Rattle.ffi.proofs.work.work_of.Goals as goal
use Rattle.ffi.proofs.work.work_of.Goals.{then-target-via-then-target, then-target-via-else-target+then-target-2, then-target-via-else-target+else-target-2+then-is_zero}

work_by : (bits : ℕ) (n o z : Bool) → is_negative bits ≡ n → overflows bits ≡ o → (target bits == 0) ≡ z
    → work bits ≡ (if n || o || z then 0 else 2 ^ 256 / (target bits + 1))
unfolding work
work_by bits n o z e f g = rw (e, f, g) refl

pub returns-then-target : goal.returns-then-target
returns-then-target c =
    let bits = c.args.bits in
    let told = c.target_of-target.ensures in
    let n = c.of_bytes-value.ensures ∙ told.value in
    elim c.then-target.branch [
      | then-target-via-then-target w ↦ sym (work_by bits true (overflows bits) (target bits == 0) (sym told.negative ∙ w.if-target.true) refl refl)
      | then-target-via-else-target+then-target-2 w ↦
          sym (work_by bits false true (target bits == 0) (sym told.negative ∙ w.if-target.false) (sym told.overflow ∙ w.if-target-2.true) refl)
      | then-target-via-else-target+else-target-2+then-is_zero w ↦
          sym (work_by bits false false true (sym told.negative ∙ w.if-target.false) (sym told.overflow ∙ w.if-target-2.false)
          (ap (λ (x : ℕ). x == 0) (sym n) ∙ sym w.is_zero.ensures ∙ w.if-is_zero.true))
    ]

pub returns : goal.returns
returns c =
    let bits = c.args.bits in
    let told = c.target_of-target.ensures in
    let n = c.of_bytes-value.ensures ∙ told.value in
    c.bytes.ensures ∙ c.share.ensures ∙ ap (λ (x : ℕ). 2 ^ 256 / (x + 1)) n
    ∙ sym (work_by bits false false false (sym told.negative ∙ c.if-target.false) (sym told.overflow ∙ c.if-target-2.false)
    (ap (λ (x : ℕ). x == 0) (sym n) ∙ sym c.is_zero.ensures ∙ c.if-is_zero.false))
