use Rattle.std.proofs.Common.{◌≡◌, ℕ, ◌<◌, Bool, not, ◌&&◌, [], length, sym, refl, ap, ◌∙◌, inl, inr, arith, get_or}
use Rattle.std.proofs.Math.ListN.{set}
use Rattle.std.proofs.lemmas.Bool.{cases_eq}
use Rattle.std.proofs.lemmas.List.{length-set, get_or_default}
use Rattle.tree.specs.Branches.{parent_at}
use Rattle.tree.specs.State.{has_no_mark}
use Rattle.tree.specs.Nodes.{blank, blocks_of, mark_at, state_of}
use Rattle.tree.proofs.Changes.{parent_before, set_here, set_there, set_kept, usable_step}
use Rattle.tree.proofs.marks.spoil.Goals as goal

pub loop-place-init : goal.loop-place-init
loop-place-init c = (c.requires.same, λ p. record { bad = refl; seen = refl; rank = refl }, c.requires.before)

pub is_usable-usable-requires-clause-parent : goal.is_usable-usable-requires-clause-parent
is_usable-usable-requires-clause-parent c =
    let z = c.requires.start in
    let f = c.loop-place.auto.place in
    let i = c.loop-place.invariant.0 in
    let t = c.loop-place-test.true in
    let b = parent_before c.args.nodes.now c.loop-place.place c.index-nodes-place.result c.requires.nodes (omega arith) t c.index-nodes-place.is in
    let l = b.1 in
    let e = ap (λ n. n.parent) c.index-nodes-place.is in
    omega arith

pub loop-place-preserved : goal.loop-place-preserved
loop-place-preserved c =
    let ns = c.args.nodes.now in
    let ms = c.loop-place.marks in
    let old = c.args.marks.now in
    let p = c.loop-place.place in
    let i = c.loop-place.invariant in
    let t = c.loop-place-test.true in
    let z = c.requires.start in
    let f = c.loop-place.auto.place in
    let l = i.0 in
    let b = parent_before ns p c.index-nodes-place.result c.requires.nodes (omega arith) t c.index-nodes-place.is in
    let up = b.1 in
    let same = c.requires.same in
    let m = mark_at ms p in
    let new = record m { usable = c.is_usable-usable.result } in
    let is : m ≡ get_or ms p m = get_or_default ms p blank m (omega arith) in
    let h : p < length ms = omega arith in
    let own : c.is_usable-usable.result ≡ has_no_mark (state_of ns old []) p =
    c.is_usable-usable.ensures
    ∙ ap (λ (q : ℕ). not (mark_at ms p).bad && (mark_at ms q).usable) (ap (λ x. x.parent) (sym c.index-nodes-place.is) ∙ b.0)
    ∙ ap (λ (v : Bool). not (mark_at ms p).bad && v) (i.2 (parent_at (blocks_of ns) p) (let e = b.0 in omega arith))
    ∙ ap (λ (v : Bool). not v && has_no_mark (state_of ns old []) (parent_at (blocks_of ns) p)) (i.1 p).bad
    ∙ sym (usable_step ns old old (omega arith) same same p (omega arith) t)
    in (
      length-set ms p new ∙ l,
      λ q. record {
        bad = set_kept ms p m new h is (λ x. x.bad) refl q ∙ (i.1 q).bad;
        seen = set_kept ms p m new h is (λ x. x.seen) refl q ∙ (i.1 q).seen;
        rank = set_kept ms p m new h is (λ x. x.rank) refl q ∙ (i.1 q).rank;
      },
      λ q k. elim (cases_eq q p) [
        | inl w ↦ ap (λ (x : ℕ). (mark_at (set ms p new) x).usable) w ∙ ap (λ x. x.usable) (set_here ms p m new h is) ∙ own ∙ ap (has_no_mark (state_of ns old [])) (sym w)
        | inr w ↦ ap (λ x. x.usable) (set_there ms p m new h is q w) ∙ i.2 q (omega arith)
      ],
    )

pub returns-clause-flags : goal.returns-clause-flags
returns-clause-flags c = c.loop-place.invariant.1

pub returns-clause-usable : goal.returns-clause-usable
returns-clause-usable c = λ p h. c.loop-place.invariant.2 p (let t = c.loop-place-test.false in omega arith)
