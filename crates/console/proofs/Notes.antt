-- What a host has noted, as a clause sees it.
use Rattle.std.proofs.Common.{◌≡◌, ℕ, Bool, List, [], ◌∷◌, ◌++◌, map, Vec, Global, refl, sym, ◌∙◌, ap}
use Rattle.std.proofs.lemmas.List.{map-append}
use Rattle.durable.specs.declared.host.Call.{Call}
use Rattle.durable.specs.declared.host.Asked.{Asked}
use Rattle.durable.specs.Crash.{Event}

abbrev Noted : Type 0
Noted = Call × Vec ℕ Global

abbrev seen : List Noted → List Event
seen notes = map (λ (noted : Noted). (noted.0, noted.1.items)) notes

-- one call more
pub noted : (old new : List Noted) (asked : Asked) (done was : Bool) (bytes : Vec ℕ Global) (text : List ℕ)
    → new ≡ old ++ (record { asked = asked; is_done = done }, bytes) ∷ [] → done ≡ was → bytes.items ≡ text
    → seen new ≡ seen old ++ (record { asked = asked; is_done = was }, text) ∷ []
noted old new asked done was bytes text is same texts =
    ap seen is ∙ map-append (λ (noted : Noted). (noted.0, noted.1.items)) old ((record { asked = asked; is_done = done }, bytes) ∷ [])
    ∙ ap (λ (b : Bool). seen old ++ (record { asked = asked; is_done = b }, bytes.items) ∷ []) same
    ∙ ap (λ (t : List ℕ). seen old ++ (record { asked = asked; is_done = was }, t) ∷ []) texts
