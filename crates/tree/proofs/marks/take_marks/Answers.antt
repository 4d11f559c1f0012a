use Rattle.std.proofs.Common.{◌≡◌, ℕ, false, not, ◌&&◌, [], get_or, sym, ap, ◌∙◌, arith}
use Rattle.tree.specs.declared.block_index.Mark.{Mark}
use Rattle.tree.specs.State.{has_no_mark}
use Rattle.tree.specs.Nodes.{mark_at, state_of}
use Rattle.tree.proofs.Changes.{usable_zero, usable_marked}
use Rattle.tree.proofs.marks.take_marks.Goals as goal

pub spoil-requires-clause-before : goal.spoil-requires-clause-before
spoil-requires-clause-before c = λ p h.
    let ns = c.args.nodes.now in
    let s = c.requires.some in
    let l = c.requires.count in
    let u = c.unmark.ensures.len in
    let z : p ≡ 0 = omega arith in
    let at = c.unmark.ensures.marks 0 (omega arith) in
    ap (λ (q : ℕ). (mark_at c.unmark.new.marks q).usable) z ∙ ap (λ (m : Mark). m.usable) at ∙ c.requires.usable 0 s ∙ usable_zero ns c.args.marks.now (omega arith) c.requires.genesis
    ∙ sym (usable_zero ns c.unmark.new.marks (omega arith) (ap (λ (m : Mark). m.bad) at ∙ ap (λ b. b && not (get_or c.args.related.now 0 false)) c.requires.genesis))
    ∙ ap (has_no_mark (state_of ns c.unmark.new.marks [])) (sym z)

pub returns : goal.returns
returns c =
    let l = c.requires.count in
    let flags = c.spoil.ensures.flags in
    let was = c.unmark.ensures.marks in record {
      count = c.spoil.ensures.same;
      bad_are = λ p h. (flags p).bad ∙ ap (λ (m : Mark). m.bad) (was p (omega arith));
      seen_are = λ p h. (flags p).seen ∙ ap (λ (m : Mark). m.seen) (was p (omega arith));
      ranks_are = λ p h. (flags p).rank ∙ ap (λ (m : Mark). m.rank) (was p (omega arith));
      usable_are = λ p h. c.spoil.ensures.usable p h
          ∙ sym (usable_marked c.args.nodes.now c.unmark.new.marks c.spoil.new.marks c.requires.some (c.unmark.ensures.len ∙ l) c.spoil.ensures.same p (λ x a b. (flags x).bad));
    }
