-- A list that is fed element by element.
use Rattle.std.proofs.Common.{◌≡◌, ℕ, ◌+◌, ◌<◌, List, [], ◌∷◌, ◌++◌, length, map, take, get_or, sym, ap, ◌∙◌, append_assoc}
use Rattle.std.specs.List.{flat_map}
use Rattle.std.proofs.lemmas.Grind.{take_at_read, flat_map-append}
use Rattle.std.proofs.lemmas.List.{append-nil, map-append}

take-next : {X : Type 0} (xs : List X) (k : ℕ) (x : X) → k < length xs → x ≡ get_or xs k x → take (k + 1) xs ≡ take k xs ++ x ∷ []
take-next {X = X} xs k x lt is = (take_at_read xs k x lt).1 ∙ ap (λ (y : X). take k xs ++ y ∷ []) (sym is)

pub flat-next : {X Y : Type 0} (f : Y → List ℕ) (g : X → Y) (fed : List ℕ) (xs : List X) (k : ℕ) (x : X) → k < length xs → x ≡ get_or xs k x
    → (fed ++ flat_map f (map g (take k xs))) ++ f (g x) ≡ fed ++ flat_map f (map g (take (k + 1) xs))
flat-next {X = X} {Y = Y} f g fed xs k x lt is =
    let front : List Y = map g (take k xs) in
    let next : flat_map f (map g (take (k + 1) xs)) ≡ flat_map f front ++ f (g x) =
    ap (λ (l : List X). flat_map f (map g l)) (take-next xs k x lt is)
    ∙ ap (flat_map f) (map-append g (take k xs) (x ∷ []))
    ∙ flat_map-append f front (g x ∷ [])
    ∙ ap (λ (t : List ℕ). flat_map f front ++ t) (append-nil (f (g x))) in
    append_assoc fed (flat_map f front) (f (g x)) ∙ ap (λ (t : List ℕ). fed ++ t) (sym next)
