-- The triples that a text's lines spell.
use Rattle.std.specs.Prelude.{◌⊎◌, Bool, IsTrue, MatchOption, Option, None, Some, Ok, slice_get}
use Rattle.std.proofs.Common.{◌≡◌, ◌∙◌, ℕ, List, [], ◌∷◌, ◌++◌, refl, ap, sym, subst, inl, inr, arith}
use Rattle.std.proofs.lemmas.Option.{slice_get_past}
use Rattle.signatures.specs.Lines.{IsReadable, Spells, is_skipped, words}
use Rattle.signatures.specs.Triple.{Triple}
use Rattle.signatures.proofs.Tables.{is_skipped-spells}
use Rattle.node.specs.Pass.{Pass}
use Rattle.node.specs.Runs.{IsLearnAllAnswer}
use Rattle.server.specs.inside.Verdicts.{AreLearnt, AreSpelled, IsSpelled}

-- what a line that can be read spells
pub read_spells : (line : List ℕ) (found : Option Triple) → MatchOption found (IsTrue (is_skipped (words line))) (Spells (words line)) → IsSpelled line found
read_spells line None skipped = λ t spells. is_skipped-spells (words line) t skipped spells
read_spells line (Some t) spells = spells

-- one that can't be read spells nothing
pub unread_spells : (line : List ℕ) → ¬ IsReadable line → IsSpelled line None
unread_spells line bad = λ t spells. bad (inr (t, spells))

-- a line more, that spells nothing
pub spelled_skips : (ls : List (List ℕ)) (line : List ℕ) (ts : List Triple) → AreSpelled ls ts → IsSpelled line None → AreSpelled (ls ++ line ∷ []) ts
spelled_skips [] line ts are is = inl (is, are)
spelled_skips (l ∷ ls) line ts (inl are) is = inl (are.0, spelled_skips ls line ts are.1 is)
spelled_skips (l ∷ ls) line ts (inr are) is = inr (are.0, are.1, are.2, spelled_skips ls line are.1 are.3 is, are.4)

-- a line more, with its triple
pub spelled_adds : (ls : List (List ℕ)) (line : List ℕ) (ts : List Triple) (t : Triple) → AreSpelled ls ts → IsSpelled line (Some t) → AreSpelled (ls ++ line ∷ []) (ts ++ t ∷ [])
spelled_adds [] line ts t are is = inr (t, [], is, refl, ap (λ l. l ++ t ∷ []) are)
spelled_adds (l ∷ ls) line ts t (inl are) is = inl (are.0, spelled_adds ls line ts t are.1 is)
spelled_adds (l ∷ ls) line ts t (inr are) is = inr (are.0, are.1 ++ t ∷ [], are.2, spelled_adds ls line are.1 t are.3 is, ap (λ l. l ++ t ∷ []) are.4)

-- what came of verdicts, by what the node answered
pub learnt_so : (p q : Pass) (ls : List (List ℕ)) (ts : List Triple) (valid : Bool) (at n : ℕ) → AreSpelled ls ts → IsLearnAllAnswer p q ts valid at n
    → AreLearnt p q ls valid (Ok (slice_get ts n))
learnt_so p q ls ts valid at n are (inl all) = subst (λ o. AreLearnt p q ls valid (Ok o)) (sym (slice_get_past ts n (omega (arith, all.0)))) (ts, are, all.1)
learnt_so p q ls ts valid at n are (inr some) =
    subst (λ o. AreLearnt p q ls valid (Ok o)) (sym some.1) (ts, are, (n, at, some.1, some))
