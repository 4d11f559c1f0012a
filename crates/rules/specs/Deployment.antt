-- Soft forks by name (Bitcoin Core's `Consensus::BuriedDeployment` and `-testactivationheight`).
use Rattle.std.specs.Prelude.{ℕ, List, [], ◌∷◌, codes, Option, Some, None, if◌then◌else◌}
use Rattle.std.specs.Str.{bytes_eq}
use Rattle.rules.specs.declared.deployment.Deployment.{Deployment}
use Rattle.rules.specs.declared.deployment.Deployment.TheVariants.{Bip34, Bip65, Bip66, Csv, NullDummy}

abbrev pub name_of : Deployment → List ℕ
name_of Bip34 = codes "bip34"
name_of Bip65 = codes "bip65"
name_of Bip66 = codes "bip66"
name_of Csv = codes "csv"
name_of NullDummy = codes "nulldummy"

-- all names: ours, Core's, and a BIP's number
abbrev pub names : List (List ℕ × Deployment)
names =
    (codes "bip34", Bip34)
    ∷ (codes "bip65", Bip65) ∷ (codes "cltv", Bip65)
    ∷ (codes "bip66", Bip66) ∷ (codes "dersig", Bip66)
    ∷ (codes "csv", Csv)
    ∷ (codes "nulldummy", NullDummy) ∷ (codes "bip147", NullDummy)
    ∷ []

abbrev pub named_among : List (List ℕ × Deployment) → List ℕ → Option Deployment
named_among [] name = None
named_among (row ∷ others) name = if bytes_eq name row.0 then Some row.1 else named_among others name

abbrev pub deployment_named : List ℕ → Option Deployment
deployment_named name = named_among names name
