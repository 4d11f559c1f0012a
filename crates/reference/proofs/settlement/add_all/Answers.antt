use Rattle.std.proofs.Common.{◌≡◌, ℕ, Bool, true, false, eqb, ◌||◌, List, [], ◌∷◌, take, get_or, sym, refl, ap, ◌∙◌, arith}
use Rattle.std.proofs.lemmas.List.{length-set, take_more}
use Rattle.tree.specs.Branches.{has}
use Rattle.reference.specs.inside.Replay.{is_flagged}
use Rattle.reference.proofs.Flags.{flag_set, has-append}
use Rattle.reference.proofs.settlement.add_all.Goals as goal

pub index_mut-requires : goal.index_mut-requires
index_mut-requires c =
    let t = c.loop-index-test.true in
    let s = c.loop-index.invariant.same in
    let w = c.loop-index.flags.ok in
    let k = c.requires c.loop-index.index t in
    omega arith

or_three : (a b d : Bool) → ((a || b) || d) ≡ (a || (b || (d || false)))
or_three true b d = refl
or_three false true d = refl
or_three false false true = refl
or_three false false false = refl

pub loop-index-preserved : goal.loop-index-preserved
loop-index-preserved c =
    let l = c.args.places.now in
    let i = c.loop-index.index in
    let p = get_or l i 0 in
    let fs = c.loop-index.flags.items in
    let t = c.loop-index-test.true in
    let s = c.loop-index.invariant.same in
    let k = c.requires i t in
    record {
      same = length-set fs p true ∙ s;
      added = λ x h.
          flag_set fs p x (omega arith) ∙ ap (λ v. v || eqb p x) (c.loop-index.invariant.added x h)
          ∙ or_three (is_flagged c.args.flags.now.items x) (has (take i l) x) (eqb p x)
          ∙ ap (λ v. is_flagged c.args.flags.now.items x || v) (sym (ap (λ (m : List ℕ). has m x) (take_more l i 0 t) ∙ has-append (take i l) (p ∷ []) x));
    }
