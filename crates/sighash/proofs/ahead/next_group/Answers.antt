use Rattle.std.proofs.Common.{◌*◌, ◌/◌, take, length, refl, ap, arith}
use Rattle.sighash.specs.inside.MessageFront.{beginning}
use Rattle.sighash.proofs.Splices.{taken}
use Rattle.sighash.proofs.ahead.next_group.Goals as goal

pub eight-requires-clause-midstate : goal.eight-requires-clause-midstate
eight-requires-clause-midstate c =
    let flat = c.args.flat.now in
    let fed = c.args.begun.now.fed in
    let from = length (beginning flat.tx.now c.args.first) / 64 * 64 in
    let held = c.feed.ensures (take fed flat.bytes.items) c.requires.begun.1 in
    taken c.feed.new.self flat.bytes.items c.deref.result.now fed from _ (rw c.place.ensures.place at held) c.deref.ensures.value c.requires.begun.0 c.requires.before refl

pub returns-in_default-clause-begun : goal.returns-in_default-clause-begun
returns-in_default-clause-begun c =
    let flat = c.args.flat.now in
    let fed = c.args.begun.now.fed in
    let held = c.feed.ensures (take fed flat.bytes.items) c.requires.begun.1 in (
      omega arith,
      taken c.feed.new.self flat.bytes.items c.deref.result.now fed _ (length (beginning flat.tx.now c.args.first)) held c.deref.ensures.value c.requires.begun.0 c.requires.before
          (ap (λ n. n / 64 * 64) c.place.ensures.place),
    )

pub returns-clause-begun : goal.returns-clause-begun
returns-clause-begun c =
    let flat = c.args.flat.now in
    let fed = c.args.begun.now.fed in
    let held = c.feed.ensures (take fed flat.bytes.items) c.requires.begun.1 in (
      omega arith,
      taken c.feed.new.self flat.bytes.items c.deref.result.now fed _ (length (beginning flat.tx.now c.args.first)) held c.deref.ensures.value c.requires.begun.0 c.requires.before
          (ap (λ n. n / 64 * 64) c.place.ensures.place),
    )
