use Rattle.std.proofs.Common.{◌≡◌, ℕ, ◌+◌, ◌-◌, ◌*◌, ◌/◌, ◌<◌, ◌≤◌, List, [], ◌++◌, Bor, length, take, drop, get_or, refl, sym, ap, ◌∙◌, arith}
use Rattle.std.proofs.lemmas.List.{get_or-map, length-append, length-drop, take_all}
use Rattle.hash.specs.Double.{double_sha}
use Rattle.hash.specs.declared.id.Id.{Id}
use Rattle.lanes.specs.Midstate.{part}
use Rattle.script.specs.Removal.{bytes_of}
use Rattle.sighash.specs.inside.MessageFront.{beginning}
use Rattle.sighash.specs.inside.Flat.{with_script}
use Rattle.sighash.proofs.Splices.{length-piece, own_digest, part_more, within_eight}
use Rattle.sighash.proofs.ahead.eight.Goals as goal

code_at : (codes : List (Bor (List ℕ))) (k : ℕ) (d : Bor (List ℕ)) → length codes ≡ 8 → k < 8 → (get_or codes k d).now ≡ get_or (bytes_of codes) k []
code_at codes k d eight lt = sym (get_or-map (λ (b : Bor (List ℕ)). b.now) codes k d [] (omega (arith, eight, lt)))

pub loop-lane-preserved : goal.loop-lane-preserved
loop-lane-preserved c =
    let t = c.args.flat.now.tx.now in
    let flat : List ℕ = c.args.flat.now.bytes.items in
    let codes : List (Bor (List ℕ)) = c.args.codes.now in
    let own : List ℕ = c.loop-lane.own.items in
    let k : ℕ = c.loop-lane.lane in
    let first : ℕ = c.args.first in
    let from : ℕ = c.place.result / 64 * 64 in
    let end : ℕ = c.place-end.result in
    let len : ℕ = length (get_or codes 0 (record { ref_ptr = (0, 0); now = [] })).now in
    let script : ℕ = length c.as_slice.result.now + len in
    let to : ℕ = end + (c.div_ceil.result * 64 - (end - 1 - from + script)) in
    let width : ℕ = to + script - 1 - from in
    let code : ℕ → List ℕ = λ (j : ℕ). get_or (bytes_of codes) j [] in
    let empty : ℕ → ℕ = λ (j : ℕ). length (beginning t (first + j)) + 36 in
    let piece : ℕ → List ℕ = λ (j : ℕ). with_script flat from (empty j) to (code j) in
    let lt : k < 8 = omega (arith, c.loop-lane-test.true) in
    let room : to ≤ length flat = omega (arith, c.if-to-len.false, c.len.ensures) in
    let between = within_eight t flat c.args.flat.now.first first k end c.args.flat.now.is c.requires.inputs lt c.place-end.ensures.place in
    let below : from ≤ empty k = omega (arith, between.0, c.place.ensures.place) in
    let above : empty k < to = omega (arith, between.1) in
    let alike : length (code k) ≡ len = c.requires.codes.1 k lt ∙ ap length (sym (code_at codes 0 _ c.told-codes (omega arith))) in
    let long : length (piece k) ≡ width = length-piece flat (code k) from (empty k) to script len below above room alike (ap (λ (n : ℕ). n + len) (ap length (c.as_slice.ensures ∙ c.of.ensures))) in
    let grown : c.put_with_script.new.out.items ≡ own ++ piece k =
    c.in_ok-put_with_script.ensures
    ∙ (λ i. own ++ with_script (c.as_slice-in-loop-lane.ensures.value i) from (c.place-empty.ensures.place i + 36) to (code_at codes k (record { ref_ptr = (0, 0); now = [] }) c.told-codes lt i)) in
    record {
      len = ap length grown ∙ length-append own (piece k) ∙ omega (arith, c.loop-lane.invariant.len, long);
      parts = λ j less. ap (λ (o : List ℕ). take width (drop (j * width) o)) grown ∙ part_more own (piece k) width k piece c.loop-lane.invariant.len long refl c.loop-lane.invariant.parts j less;
    }

pub returns : goal.returns
returns c = λ l lt d.
    let t = c.args.flat.now.tx.now in
    let flat : List ℕ = c.args.flat.now.bytes.items in
    let codes : List (Bor (List ℕ)) = c.args.codes.now in
    let own : List ℕ = c.loop-lane.own.items in
    let first : ℕ = c.args.first in
    let from : ℕ = c.place.result / 64 * 64 in
    let end : ℕ = c.place-end.result in
    let script : ℕ = length c.as_slice.result.now + length (get_or codes 0 (record { ref_ptr = (0, 0); now = [] })).now in
    let to : ℕ = end + (c.div_ceil.result * 64 - (end - 1 - from + script)) in
    let width : ℕ = to + script - 1 - from in
    let all : c.loop-lane.lane ≡ 8 = omega (arith, c.loop-lane-test.false, c.loop-lane.auto.lane-end) in
    let len : length own ≡ 8 * width = c.loop-lane.invariant.len ∙ ap (λ (n : ℕ). n * width) all in
    let eighth : length own / 8 ≡ width = omega (arith, len) in
    let code : List ℕ = get_or (bytes_of codes) l [] in
    let piece : List ℕ = with_script flat from (length (beginning t (first + l)) + 36) to code in
    let mine : part own l ≡ piece = (λ i. take (eighth i) (drop (l * eighth i) own)) ∙ c.loop-lane.invariant.parts l (omega (arith, lt, all)) in
    let room : to ≤ length flat = omega (arith, c.if-to-len.false, c.len.ensures) in
    let between = within_eight t flat c.args.flat.now.first first l end c.args.flat.now.is c.requires.inputs lt c.place-end.ensures.place in
    let back : take (length c.deref.result.now - to) (drop to c.deref.result.now) ≡ drop to flat =
    ap (λ (f : List ℕ). take (length f - to) (drop to f)) c.deref.ensures.value ∙ take_all (length flat - to) (drop to flat) (omega (arith, length-drop to flat)) in
    let hashed = ap (λ (id : Id). id.0) (c.double_shas.ensures _ c.requires.midstate l lt d) in
    hashed
    ∙ ap double_sha (λ i. (take (sym c.place.ensures.place i / 64 * 64) flat ++ (ap (λ (o : List ℕ). part o l) c.as_slice-2.ensures.value ∙ mine) i) ++ back i)
    ∙ own_digest t flat c.args.flat.now.first from to (first + l) code c.args.flat.now.is (omega (arith, lt, c.requires.inputs)) (omega (arith, between.0, c.place.ensures.place)) (omega (arith, between.1)) room
