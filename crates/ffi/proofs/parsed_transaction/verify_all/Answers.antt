-- There is a script for each input, and both tables can be read, or one can't.
use Rattle.std.proofs.Common.{◌≡◌, inl, inr, refl, sym, ap, subst, ◌∙◌, length, map, List, ℕ, arith}
use Rattle.std.specs.List.{flat_map}
use Rattle.std.proofs.lemmas.List.{length-map}
use Rattle.sighash.specs.declared.precomputed_tx.PrecomputedTx.{PrecomputedTx}
use Rattle.ffi.proofs.parsed_transaction.verify_all.Goals as goal

pub returns : goal.returns
returns c =
    let there = rw c.in-Ok-Some.field-0-is at c.in-Ok-Some.ensures.found in
    let scripts = c.as_slice.result.now in
    let sizes = subst (λ (l : List (List ℕ)). map (λ script. length script) l ≡ c.args.all.now.sizes.now) (sym c.as_slice.ensures.value) there.0 in
    let bytes = subst (λ (l : List (List ℕ)). flat_map (λ script. script) l ≡ c.args.all.now.scripts.now) (sym c.as_slice.ensures.value) there.1 in
    inl (
      scripts,
      omega (arith, length-map scripts (λ (script : List ℕ). length script), ap length sizes, ap (λ (k : PrecomputedTx). length k.tx.inputs) c.kept.view_is),
      sizes,
      bytes,
      inl (c.in-Ok.known, c.in-Ok.ensures.found, c.tell_refused.ensures.line ∙ c.in-Ok.ensures.kept, c.tell_refused.ensures.answer _ c.first_refused-found.ensures),
    )

pub returns-in-Err-known_of : goal.returns-in-Err-known_of
returns-in-Err-known_of c =
    let there = rw c.in-Ok-Some.field-0-is at c.in-Ok-Some.ensures.found in
    let scripts = c.in-Ok-Some.scripts.items in
    inl (
      scripts,
      omega (arith, length-map scripts (λ (script : List ℕ). length script), ap length there.0, ap (λ (k : PrecomputedTx). length k.tx.inputs) c.kept.view_is),
      there.0,
      there.1,
      inr (c.in-Err-known_of.ensures.refused, (refl, refl, refl)),
    )
