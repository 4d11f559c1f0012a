use Rattle.std.proofs.Common.{◌≡◌, ◌∙◌, List, [], ◌∷◌, Bool, ◌||◌, map, refl, ap, rules, tests}
use Rattle.std.specs.List.{list_any}
use Rattle.std.specs.Str.{bytes_eq}
use Rattle.std.proofs.lemmas.Iterator.{YieldsList-from_slice}
use Rattle.std.proofs.lemmas.Iterator.Search.{any_from_yields_List}
use Rattle.script.specs.Removal.{is_among}
use Rattle.script.proofs.removal.is_among.Goals as goal

list_any-map : {A B : Type 0} (p : B → Bool) (f : A → B) (xs : List A) → list_any (λ x. p (f x)) xs ≡ list_any p (map f xs)
list_any-map p f [] = refl
list_any-map p f (x ∷ xs) = ap (λ b. p (f x) || b) (list_any-map p f xs)

pub returns : goal.returns
unfolding is_among
returns c =
    any_from_yields_List (λ piece. bytes_eq piece.now c.args.op.now) _ _ _ c.any.ensures.ran (YieldsList-from_slice c.args.pieces.now cc) (λ x b q k. search (rules, tests))
    ∙ list_any-map (λ piece. bytes_eq piece c.args.op.now) (λ piece. piece.now) c.args.pieces.now
