-- The outputs of the signed copy, and the bytes that are fed for them.
use Rattle.std.proofs.Common.{◌≡◌, ℕ, ◌+◌, ◌<◌, List, [], ◌∷◌, ◌++◌, length, map, take, get_or, refl, sym, ap, ◌∙◌}
use Rattle.std.specs.List.{flat_map}
use Rattle.txn.specs.declared.output.TxOut.{TxOut}
use Rattle.wire.specs.Numbers.{compact_size}
use Rattle.txn.specs.Grammar.{output}
use Rattle.sighash.specs.Digest.{blank_output}
use Rattle.sighash.proofs.Lists.{flat-next}

blank_bytes : output.spell blank_output ≡ 255 ∷ 255 ∷ 255 ∷ 255 ∷ 255 ∷ 255 ∷ 255 ∷ 255 ∷ 0 ∷ []
unfolding compact_size
blank_bytes = refl

pub blank-next : (fed : List ℕ) (xs : List TxOut) (k : ℕ) (x : TxOut) → k < length xs → x ≡ get_or xs k x
    → (fed ++ flat_map output.spell (map (λ _. blank_output) (take k xs))) ++ (255 ∷ 255 ∷ 255 ∷ 255 ∷ 255 ∷ 255 ∷ 255 ∷ 255 ∷ 0 ∷ []) ≡ fed ++ flat_map output.spell (map (λ _. blank_output) (take (k + 1) xs))
blank-next fed xs k x lt is =
    let blanked : TxOut → TxOut = λ _. blank_output in
    let before : List ℕ = fed ++ flat_map output.spell (map blanked (take k xs)) in
    ap (λ (t : List ℕ). before ++ t) (sym blank_bytes) ∙ flat-next output.spell blanked fed xs k x lt is
