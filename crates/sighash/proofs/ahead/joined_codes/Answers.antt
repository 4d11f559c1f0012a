use Rattle.std.proofs.Common.{◌≡◌, ℕ, ◌*◌, ◌/◌, ◌<◌, List, [], ◌++◌, Bor, length, take, drop, get_or, refl, sym, ap, ◌∙◌, arith}
use Rattle.std.proofs.lemmas.List.{get_or-map, length-append}
use Rattle.sighash.specs.inside.Ahead.{code_at}
use Rattle.sighash.proofs.Splices.{part_more}
use Rattle.sighash.proofs.ahead.joined_codes.Goals as goal

pub loop-lane-preserved : goal.loop-lane-preserved
loop-lane-preserved c =
    let codes : List (Bor (List ℕ)) = c.args.codes.now in
    let joined : List ℕ = c.loop-lane.joined.items in
    let k : ℕ = c.loop-lane.lane in
    let width : ℕ = length (code_at codes 0) in
    let lt : k < 8 = omega (arith, c.loop-lane-test.true) in
    let own : (get_or codes k (record { ref_ptr = (0, 0); now = [] })).now ≡ code_at codes k = sym (get_or-map (λ (b : Bor (List ℕ)). b.now) codes k (record { ref_ptr = (0, 0); now = [] }) [] (omega (arith, lt, c.told-codes))) in
    let grown : c.extend_from_slice.new.self.items ≡ joined ++ code_at codes k = c.in_ok-extend_from_slice.ensures.items ∙ ap (λ (b : List ℕ). joined ++ b) own in
    let long : length (code_at codes k) ≡ width = c.requires.1 k lt in
    record {
      len = ap length grown ∙ length-append joined (code_at codes k) ∙ omega (arith, c.loop-lane.invariant.len, long);
      parts = λ j less. ap (λ (o : List ℕ). take width (drop (j * width) o)) grown ∙ part_more joined (code_at codes k) width k (code_at codes) c.loop-lane.invariant.len long refl c.loop-lane.invariant.parts j less;
    }

pub returns : goal.returns
returns c = λ l lt.
    let codes : List (Bor (List ℕ)) = c.args.codes.now in
    let joined : List ℕ = c.loop-lane.joined.items in
    let width : ℕ = length (code_at codes 0) in
    let all : c.loop-lane.lane ≡ 8 = omega (arith, c.loop-lane-test.false, c.loop-lane.auto.lane-end) in
    let eighth : length joined / 8 ≡ width = omega (arith, c.loop-lane.invariant.len ∙ ap (λ (n : ℕ). n * width) all) in
    (λ i. take (eighth i) (drop (l * eighth i) joined)) ∙ c.loop-lane.invariant.parts l (omega (arith, lt, all))
