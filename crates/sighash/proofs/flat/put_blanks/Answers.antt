use Rattle.std.proofs.Common.{◌≡◌, ◌+◌, ℕ, inl, inr, List, [], ◌++◌, length, map, take, ap, sym, ◌∙◌, arith}
use Rattle.std.specs.List.{flat_map}
use Rattle.std.proofs.lemmas.Bool.{cases_lt}
use Rattle.std.proofs.lemmas.List.{length-append}
use Rattle.txn.specs.declared.input.TxIn.{TxIn}
use Rattle.txn.specs.Grammar.{input}
use Rattle.sighash.specs.Digest.{other_input}
use Rattle.sighash.proofs.Lists.{flat-next}
use Rattle.sighash.proofs.flat.put_blanks.Goals as goal

pub loop-input-preserved : goal.loop-input-preserved
loop-input-preserved c =
    let k = c.loop-input.input-index in
    let inputs : List TxIn = c.args.inputs.now in
    let x : TxIn = c.input-item.result in
    let blank : List ℕ = input.spell (other_input 1 x) in
    let next = λ (fed : List ℕ). flat-next input.spell (other_input 1) fed inputs k x c.loop-input-test.true c.input-item.is in
    let front : ℕ → List ℕ = λ (n : ℕ). flat_map input.spell (map (other_input 1) (take n inputs)) in
    record {
      written = c.in_ok-put_blank.ensures.written ∙ ap (λ (b : List ℕ). b ++ blank) c.loop-input.invariant.written ∙ next c.args.out.now.items;
      places = λ n le. elim (cases_lt k n) [
        | inl more ↦
            let last : n ≡ k + 1 = omega (arith, le, more) in
            let grown : length (front (k + 1)) ≡ length (front k) + length blank = sym (ap length (next [])) ∙ length-append (front k) blank in
            ap (λ (m : ℕ). length (front m)) last ∙ omega (arith, last, grown, c.put_blank.ensures.len, c.loop-input.invariant.places k (omega arith))
        | inr fewer ↦ c.loop-input.invariant.places n fewer
      ];
    }
