use Rattle.std.proofs.Common.{rules, ◌≡◌, ℕ, ◌+◌, ◌-◌, ◌*◌, ◌/◌, ◌%◌, ◌<◌, List, Option, Some, slice_get, get_or, length, take, drop, refl, sym, ap, ◌∙◌, arith}
use Rattle.std.specs.List.{concat}
use Rattle.std.proofs.lemmas.Option.{slice_get_read}
use Rattle.lanes.specs.Midstate.{part}
use Rattle.script.specs.Removal.{bytes_of}
use Rattle.sighash.specs.Digest.{digest_of}
use Rattle.sighash.specs.declared.ahead.Group.{Group}
use Rattle.sighash.proofs.midstates.Midstates.found_ahead.Goals as goal

part_taken : (codes lent : List ℕ) (n l : ℕ) → n ≡ length codes → lent ≡ codes → take (l * (n / 8) + n / 8 - l * (n / 8)) (drop (l * (n / 8)) lent) ≡ part codes l
part_taken codes lent n l long same =
    let width : l * (n / 8) + n / 8 - l * (n / 8) ≡ n / 8 = omega arith in
    (λ i. take (width i) (drop (l * (n / 8)) (same i))) ∙ ap (λ (m : ℕ). take (m / 8) (drop (l * (m / 8)) codes)) long

pub returns : goal.returns
returns c =
    let t = c.args.self.now.tx.now in
    let input : ℕ = c.args.input in
    let lane : ℕ = input % 8 in
    let groups : List (Option Group) = c.args.self.now.groups.items in
    let entry : Option Group = c.in_ok-found.found.now in
    let group : Group = c.in_ok-group.group.now in
    let codes : List ℕ = group.codes.items in
    let within : input / 8 < length groups = search rules in
    let read : entry ≡ get_or groups (input / 8) entry = search rules in
    let is : entry ≡ Some group = search rules in
    let at : slice_get groups (input / 8) ≡ Some (Some group) = slice_get_read groups (length groups) (input / 8) entry refl within read ∙ ap (λ (e : Option Group). Some e) is in
    let there : 8 * (input / 8) + lane ≡ input = omega arith in
    let asked : concat (bytes_of c.args.code.now) ≡ part codes lane = c.if-not-are_code.ensures.0 (search rules) ∙ part_taken codes _ _ lane (ap length c.as_slice-codes.ensures.value) c.as_slice-codes.ensures.value in
    let kind : 1 ≡ c.args.kind = sym c.if-kind-ne-ALL.false in
    c.args.self.now.found (input / 8) group at lane (omega arith) _ ∙ (λ i. digest_of t (there i) (sym asked i) (kind i))
