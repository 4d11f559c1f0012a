-- Pieces that are joined one after the other.
use Rattle.std.proofs.Common.{◌≡◌, ℕ, ◌+◌, ◌<◌, List, [], ◌∷◌, ◌++◌, length, take, drop, get_or, Bor, sym, ap, ◌∙◌, append_assoc}
use Rattle.std.specs.List.{concat}
use Rattle.std.proofs.lemmas.Grind.{take_at_read}
use Rattle.std.proofs.lemmas.List.{append-nil, length-append, map-append, take-append-drop}
use Rattle.std.proofs.lemmas.List.Folds.{concat-append}
use Rattle.script.specs.Removal.{bytes_of}

pub joined-next : (ps : List (Bor (List ℕ))) (k : ℕ) (d : Bor (List ℕ)) → k < length ps → concat (bytes_of (take (k + 1) ps)) ≡ concat (bytes_of (take k ps)) ++ (get_or ps k d).now
joined-next ps k d lt =
    let last : Bor (List ℕ) = get_or ps k d in
    ap (λ (l : List (Bor (List ℕ))). concat (bytes_of l)) (take_at_read ps k d lt).1
    ∙ ap concat (map-append (λ (b : Bor (List ℕ)). b.now) (take k ps) (last ∷ []))
    ∙ concat-append (bytes_of (take k ps)) (last.now ∷ [])
    ∙ ap (λ (t : List ℕ). concat (bytes_of (take k ps)) ++ t) (append-nil last.now)

pub fed-next : (fed : List ℕ) (ps : List (Bor (List ℕ))) (k : ℕ) (d : Bor (List ℕ)) → k < length ps → (fed ++ concat (bytes_of (take k ps))) ++ (get_or ps k d).now ≡ fed ++ concat (bytes_of (take (k + 1) ps))
fed-next fed ps k d lt = append_assoc fed (concat (bytes_of (take k ps))) (get_or ps k d).now ∙ ap (λ (t : List ℕ). fed ++ t) (sym (joined-next ps k d lt))

pub length-next : (ps : List (Bor (List ℕ))) (k : ℕ) (d : Bor (List ℕ)) → k < length ps → length (concat (bytes_of (take (k + 1) ps))) ≡ length (concat (bytes_of (take k ps))) + length (get_or ps k d).now
length-next ps k d lt = ap length (joined-next ps k d lt) ∙ length-append (concat (bytes_of (take k ps))) (get_or ps k d).now

-- all of them, by those before one, it, and those after it
pub joined-all : (ps : List (Bor (List ℕ))) (k : ℕ) (d : Bor (List ℕ)) → k < length ps → concat (bytes_of ps) ≡ concat (bytes_of (take k ps)) ++ ((get_or ps k d).now ++ concat (bytes_of (drop (k + 1) ps)))
joined-all ps k d lt =
    ap (λ (l : List (Bor (List ℕ))). concat (bytes_of l)) (sym (take-append-drop (k + 1) ps))
    ∙ ap concat (map-append (λ (b : Bor (List ℕ)). b.now) (take (k + 1) ps) (drop (k + 1) ps))
    ∙ concat-append (bytes_of (take (k + 1) ps)) (bytes_of (drop (k + 1) ps))
    ∙ ap (λ (t : List ℕ). t ++ concat (bytes_of (drop (k + 1) ps))) (joined-next ps k d lt)
    ∙ append_assoc (concat (bytes_of (take k ps))) (get_or ps k d).now (concat (bytes_of (drop (k + 1) ps)))
