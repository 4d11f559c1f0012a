use Rattle.std.proofs.Common.{◌≡◌, ℕ, ◌+◌, ◌*◌, ◌≤◌, List, [], ◌∷◌, ◌++◌, Option, IfSome, length, subst, sym, ap, ◌∙◌, arith}
use Rattle.std.proofs.lemmas.List.{length_push}
use Rattle.lanes.specs.Midstate.{part}
use Rattle.txn.specs.Tx.{Tx}
use Rattle.sighash.specs.declared.ahead.Group.{Group}
use Rattle.sighash.specs.inside.Ahead.{AreDigests, AreGroups}
use Rattle.sighash.specs.inside.MessageFront.{beginning}
use Rattle.sighash.proofs.Splices.{groups_push}
use Rattle.sighash.proofs.ahead.groups.Goals as goal

pub loop-number-preserved : goal.loop-number-preserved
loop-number-preserved g c =
    let t : Tx = c.args.tx.now in
    let flat = c.in_ok-flat.flat in
    let k : ℕ = c.loop-number.number in
    let before : List (Option Group) = c.loop-number.groups.items in
    let found : Option Group = c.in_ok-group.group in
    let same : flat.tx.now ≡ t = c.in_ok-flat.ensures in
    let items : c.push.new.self.items ≡ before ++ found ∷ [] = c.in_ok-push.ensures.items in
    let right : IfSome found (λ (group : Group). AreDigests t (8 * length before) (part group.codes.items) group.digests) =
    subst (λ (n : ℕ). IfSome found (λ (group : Group). AreDigests t (8 * n) (part group.codes.items) group.digests)) (sym c.loop-number.invariant.count)
    (subst (λ (x : Tx). IfSome found (λ (group : Group). AreDigests x (8 * k) (part group.codes.items) group.digests)) same c.in_ok-group.ensures.group) in
    let room : 8 * (k + 1) ≤ length flat.tx.now.inputs = omega (arith, ap (λ (x : Tx). length x.inputs) same, ap (λ (x : Tx). length x.inputs) c.tx.view_is, c.loop-number-test.true, c.len-count.ensures) in
    record {
      groups = subst (AreGroups t) (sym items) (groups_push t before found c.loop-number.invariant.groups right);
      count = ap length items ∙ length_push before found ∙ ap (λ (n : ℕ). n + 1) c.loop-number.invariant.count;
      begun = c.in_ok-group.ensures.begun;
      before = subst (λ (x : Tx). c.next_group.new.begun.fed ≤ length (beginning x (8 * (k + 1)))) same
          (omega (arith, c.in_ok-group.ensures.before, flat.is.1 (8 * k) (omega (arith, room)), flat.is.1 (8 * (k + 1)) room));
    }
