use Rattle.std.proofs.Common.{◌≡◌, ℕ, Bool, true, false, ◌&&◌, ◌||◌, List, length, get_or, sym, refl, ap, ◌∙◌, arith}
use Rattle.std.proofs.lemmas.List.{length-replicate}
use Rattle.tree.specs.Branches.{branch, has, on}
use Rattle.reference.specs.inside.Replay.{is_flagged, any_below, is_near, blocks_of}
use Rattle.reference.proofs.KeptBlocks.{length-blocks, branch_kept}
use Rattle.reference.proofs.Flags.{flag_none, any-more}
use Rattle.reference.proofs.settlement.near.Goals.{then-is_near+in_ok-branch, else-is_near}
use Rattle.reference.proofs.settlement.near.Goals as goal

pub loop-place-init : goal.loop-place-init
unfolding any_below
loop-place-init c = record {
  same = ap (λ (l : List Bool). length l) c.in_ok-near.ensures ∙ length-replicate (length c.args.held.now) false;
  near = λ x h. ap (λ (l : List Bool). is_flagged l x) c.in_ok-near.ensures ∙ flag_none (length c.args.held.now) x;
}

pub add_all-requires : goal.add_all-requires
add_all-requires c = λ i h.
    let t = blocks_of c.args.held.now in
    let p = c.loop-place.place in
    let l = length-blocks c.args.held.now (let z = c.requires.active in omega arith) in
    let e : ◌≡◌ {A = List ℕ} c.deref.result.now (branch t p) = c.deref.ensures.value ∙ c.in_ok-branch.ensures in
    let n = ap (λ (k : List ℕ). length k) e in
    let x = ap (λ (k : List ℕ). get_or k i 0) e in
    let s = c.loop-place.invariant.same in
    let v = c.loop-place-test.true in
    let b = branch_kept t p (omega arith) i (omega arith) in
    omega arith

or_swap : (a b : Bool) → (a || b) ≡ (b || a)
or_swap true true = refl
or_swap true false = refl
or_swap false true = refl
or_swap false false = refl

pub loop-place-preserved : goal.loop-place-preserved
unfolding on
loop-place-preserved c =
    let t = blocks_of c.args.held.now in
    let p = c.loop-place.place in
    let f : ℕ → ℕ → Bool = λ x q. is_near c.args.judged.now c.args.active q && on t q x in
    let s = c.loop-place.invariant.same in
    elim c.if-is_near.branch [
      | then-is_near+in_ok-branch w ↦
          let e : ◌≡◌ {A = List ℕ} w.deref.result.now (branch t p) = w.deref.ensures.value ∙ w.in_ok-branch.ensures in
          record {
            same = ap (λ v. length v.items) w.near-is ∙ w.add_all.ensures.same ∙ s;
            near = λ x h. ap (λ v. is_flagged v.items x) w.near-is ∙ w.add_all.ensures.added x (omega arith) ∙ ap (λ (k : List ℕ). is_flagged c.loop-place.near.items x || has k x) e
                ∙ ap (λ v. v || has (branch t p) x) (c.loop-place.invariant.near x h) ∙ or_swap (any_below (f x) p) (has (branch t p) x)
                ∙ ap (λ v. (v && on t p x) || any_below (f x) p) (sym (sym c.is_near.ensures ∙ w.if-is_near.true)) ∙ sym (any-more (f x) p);
          }
      | else-is_near w ↦ record {
        same = ap (λ v. length v.items) w.near-is ∙ s;
        near = λ x h. ap (λ v. is_flagged v.items x) w.near-is ∙ c.loop-place.invariant.near x h
            ∙ ap (λ v. (v && on t p x) || any_below (f x) p) (sym (sym c.is_near.ensures ∙ w.if-is_near.false)) ∙ sym (any-more (f x) p);
      }
    ]
