-- A byte that isn't 0 is the highest so far, and the bytes before it have room below it.
use Rattle.std.proofs.Common.{◌≡◌, ℕ, ◌+◌, ◌*◌, ◌/◌, ◌^◌, ◌<◌, take, get_or, sym, ap, ◌∙◌, arith}
use Rattle.ffi.specs.Bits.{front, number}
use Rattle.ffi.proofs.Digits.{front_more, front_none, front_within, number_take, pow_le, size_more, size_none}
use Rattle.ffi.proofs.bits.leading_of.Goals as goal
use Rattle.ffi.proofs.bits.leading_of.Goals.{then-bytes-place-ne0, else-bytes-place-ne0}

pub loop-place-init : goal.loop-place-init
loop-place-init c = record { within = omega arith; size = size_none; word = sym front_none; window = sym front_none }

pub moved-window-requires : goal.moved-window-requires
moved-window-requires c =
    let i = c.loop-place.invariant in
    omega (arith, i.window, front_within _ c.loop-place.found.size c.loop-place.place i.size i.within)

pub loop-place-preserved : goal.loop-place-preserved
loop-place-preserved c =
    let e = number_take c.args.bytes.now c.loop-place.place (omega arith) in
    let i = c.loop-place.invariant in
    let n = number (take c.loop-place.place c.args.bytes.now) in
    let b = get_or c.args.bytes.now c.loop-place.place 0 in
    let window : c.moved-window.result ≡ front (c.loop-place.place + 1) (n + b * 256 ^ c.loop-place.place) =
    c.moved-window.ensures ∙ ap (λ (x : ℕ). (x + b * 2 ^ 24) / 256) i.window ∙ sym (front_more n c.loop-place.place b) in
    let below : n < 256 ^ c.loop-place.place = omega (arith, i.size.fits, pow_le c.loop-place.found.size c.loop-place.place i.within) in
    elim c.if-bytes-place-ne0.branch [
      | then-bytes-place-ne0 w ↦ rw (w.found-is, e) (record {
        within = omega arith;
        size = size_more n c.loop-place.place b below (omega arith) (omega (arith, c.fits-bytes c.loop-place.place));
        word = window;
        window = window;
      })
      | else-bytes-place-ne0 w ↦
          let same : n + b * 256 ^ c.loop-place.place ≡ n = rw w.if-bytes-place-ne0.false (omega arith) in
          rw w.found-is (record {
            within = omega arith;
            size = rw (e, same) i.size;
            word = rw (e, same) i.word;
            window = rw e window;
          })
    ]

pub returns-clause-below : goal.returns-clause-below
returns-clause-below c =
    let i = c.loop-place.invariant in
    omega (arith, i.word, front_within _ c.loop-place.found.size c.loop-place.found.size i.size (omega arith))
