use Rattle.std.proofs.Common.{◌≡◌, ℕ, ◌==◌, ◌<◌, suc, List, [], ◌∷◌, ◌++◌, ◌&&◌, IsTrue, length, take, drop, get_or, slice_index, sym, ap, ◌∙◌, length-append, length-drop, drop-cons, eq-eqb, arith}
use Rattle.std.proofs.lemmas.Bool.{and_parts, and_from}
use Rattle.std.proofs.lemmas.List.{take-append-drop, nil_from_length}
use Rattle.std.proofs.Math.Seq.{get_or-append_seam}
use borrow.Author.Tests.{eqb-true}
use Rattle.script.specs.laws.Ops.{length_taken}
use Rattle.script.specs.Kinds.{is_p2sh}
use Rattle.script.specs.laws.Grammar.{IsP2sh}

-- twenty bytes and one
last_one : (xs : List ℕ) → length xs ≡ 21 → xs ≡ take 20 xs ++ get_or xs 20 0 ∷ []
last_one xs h =
    let one : 20 < length xs = omega arith in
    let back : drop 20 xs ≡ get_or xs 20 0 ∷ [] = drop-cons xs 20 0 one ∙ ap (λ t. get_or xs 20 0 ∷ t) (nil_from_length (drop 21 xs) (omega (arith, length-drop 21 xs))) in
    sym (take-append-drop 20 xs) ∙ ap (λ t. take 20 xs ++ t) back

shaped-by : (script : List ℕ) → length script ≡ 23 → get_or script 0 0 ≡ 169 → get_or script 1 0 ≡ 20 → get_or script 22 0 ≡ 135 → IsP2sh script
shaped-by [] h a b c = absurd (omega arith)
shaped-by (x ∷ []) h a b c = absurd (omega arith)
shaped-by (x ∷ y ∷ more) h a b c =
    let long : length more ≡ 21 = omega arith in
    (take 20 more, length_taken 20 more (omega arith), ap (λ t. t ∷ y ∷ more) a ∙ ap (λ t. 169 ∷ t ∷ more) b ∙ ap (λ t. 169 ∷ 20 ∷ t) (last_one more long ∙ ap (λ t. take 20 more ++ t ∷ []) c))

pub p2sh-shaped : (script : List ℕ) → IsTrue (is_p2sh script) → IsP2sh script
unfolding is_p2sh
p2sh-shaped script h =
    let last = and_parts ((length script == 23) && (slice_index script 0 == 0xa9) && (slice_index script 1 == 20)) (slice_index script 22 == 0x87) h in
    let push = and_parts ((length script == 23) && (slice_index script 0 == 0xa9)) (slice_index script 1 == 20) last.0 in
    let first = and_parts (length script == 23) (slice_index script 0 == 0xa9) push.0 in
    shaped-by script (eqb-true _ _ first.0) (eqb-true _ _ first.1) (eqb-true _ _ push.1) (eqb-true _ _ last.1)

pub shaped-p2sh : (script : List ℕ) → IsP2sh script → IsTrue (is_p2sh script)
unfolding is_p2sh
shaped-p2sh script h =
    let long : length (h.0 ++ 0x87 ∷ []) ≡ 21 = omega (arith, h.1, length-append h.0 (0x87 ∷ [])) in
    let many : length script ≡ 23 = ap length h.2 ∙ ap (λ n. suc (suc n)) long in
    and_from _ _ (and_from _ _ (and_from _ _ (eq-eqb _ _ many) (eq-eqb _ _ (ap (λ s. get_or s 0 0) h.2))) (eq-eqb _ _ (ap (λ s. get_or s 1 0) h.2)))
    (eq-eqb _ _ (ap (λ s. get_or s 22 0) h.2 ∙ ap (λ n. get_or (h.0 ++ 0x87 ∷ []) n 0) (sym h.1) ∙ get_or-append_seam h.0 0x87 [] 0))
