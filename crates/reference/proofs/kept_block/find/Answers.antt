use Rattle.std.proofs.Common.{◌≡◌, ℕ, suc, length, Bool, true, false, is_eq, sym, ap, ◌∙◌, arith}
use Rattle.hash.specs.declared.id.Id.{Id}
use Rattle.tree.specs.Branches.{id_at}
use Rattle.tree.specs.Names.{names}
use Rattle.reference.specs.inside.Replay.{blocks_of}
use Rattle.reference.proofs.KeptBlocks.{length-blocks, last_below, place-last, last_more}
use Rattle.reference.proofs.kept_block.find.Goals.{then-is_eq, else-is_eq}
use Rattle.reference.proofs.kept_block.find.Goals as goal

pub loop-place-preserved : goal.loop-place-preserved
loop-place-preserved c =
    let t = blocks_of c.args.held.now in
    let p = c.loop-place.place in
    let f : ℕ → Bool = λ q. names.same_id (id_at names t q) c.args.id.now in
    let own : f p ≡ c.is_eq.result =
    ap (λ (j : Id). names.same_id j c.args.id.now) (sym (c.requires.held p c.index-held-place.result c.loop-place-test.true).id)
    ∙ sym (c.is_eq.ensures ∙ ap is_eq c.cmp.ensures) in
    elim c.if-is_eq.branch [
      | then-is_eq w ↦ w.found-is ∙ sym (last_more f p true (own ∙ w.if-is_eq.true))
      | else-is_eq w ↦ w.found-is ∙ c.loop-place.invariant ∙ sym (last_more f p false (own ∙ w.if-is_eq.false))
    ]

pub returns : goal.returns
returns c =
    let t = blocks_of c.args.held.now in
    let l = length-blocks c.args.held.now c.requires.some in
    let a = c.loop-place.auto.place-end in
    let b = c.loop-place-test.false in
    let n : c.loop-place.place ≡ suc (length t) = omega arith in
    c.loop-place.invariant
    ∙ ap (λ (k : ℕ). last_below (λ q. names.same_id (id_at names t q) c.args.id.now) k) n
    ∙ sym (place-last t c.args.id.now)
