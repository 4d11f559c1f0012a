use Rattle.std.proofs.Common.{◌≡◌, ℕ, ◌<◌, true, List, length, get_or, refl, sym, ap, ◌∙◌, arith}
use Rattle.std.proofs.Math.ListN.{set}
use Rattle.std.proofs.lemmas.List.{length-set, get_or_default}
use Rattle.tree.specs.declared.block_index.Mark.{Mark}
use Rattle.tree.specs.Nodes.{blank, mark_at}
use Rattle.tree.proofs.Changes.{set_there, set_kept, set_joined, usable_marked}
use Rattle.tree.proofs.marks.mark_block.Goals as goal

own : (ms : List Mark) (p : ℕ) → p < length ms → mark_at ms p ≡ get_or ms p (mark_at ms p)
own ms p h = get_or_default ms p blank (mark_at ms p) h

-- below the block nothing changes
pub spoil-requires-clause-before : goal.spoil-requires-clause-before
spoil-requires-clause-before c = λ q k.
    let ns = c.args.nodes.now in
    let ms = c.args.marks.now in
    let p = c.args.place in
    let n : Mark = record (mark_at ms p) { bad = true } in
    let l = c.requires.count in
    let t = c.requires.kept in
    let h : p < length ms = omega arith in
    let e = own ms p h in
    set_kept ms p (mark_at ms p) n h e (λ x. x.usable) refl q ∙ c.requires.usable q (omega arith)
    ∙ sym (usable_marked ns ms (set ms p n) (omega arith) l (length-set ms p n ∙ l) q (λ x a b. ap (λ (y : Mark). y.bad) (set_there ms p (mark_at ms p) n h e x (omega arith))))

pub returns : goal.returns
returns c =
    let ns = c.args.nodes.now in
    let ms = c.args.marks.now in
    let p = c.args.place in
    let n : Mark = record (mark_at ms p) { bad = true } in
    let l = c.requires.count in
    let t = c.requires.kept in
    let h : p < length ms = omega arith in
    let e = own ms p h in
    let flags = c.spoil.ensures.flags in record {
      count = c.spoil.ensures.same;
      bad_are = λ q g. (flags q).bad ∙ set_joined ms p (mark_at ms p) n h e (λ x. x.bad) refl q;
      seen_are = λ q g. (flags q).seen ∙ set_kept ms p (mark_at ms p) n h e (λ x. x.seen) refl q;
      ranks_are = λ q g. (flags q).rank ∙ set_kept ms p (mark_at ms p) n h e (λ x. x.rank) refl q;
      usable_are = λ q g. c.spoil.ensures.usable q g
          ∙ sym (usable_marked ns (set ms p n) c.spoil.new.marks (omega arith) (length-set ms p n ∙ l) c.spoil.ensures.same q (λ x a b. (flags x).bad));
    }
