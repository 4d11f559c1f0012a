-- The heights of soft forks, as a word of the command line spells them.
use Rattle.std.specs.Prelude.{◌≡◌, ℕ, ◌<◌, ◌^◌, List, [], ◌∷◌, ◌++◌, Some}
use Rattle.std.specs.List.{join_with_byte}
use Rattle.std.specs.Str.Parse.{IsNumeral, digits_value}
use Rattle.rules.specs.declared.deployment.Deployment.{Deployment}
use Rattle.rules.specs.declared.params.Params.{Params}
use Rattle.rules.specs.Deployment.{deployment_named}
use Rattle.rules.specs.Params.{of_heights, with_height}

-- these are decimal digits, one at least, and spell a number of 32 bits
abbrev pub IsNumber : List ℕ → ℕ → Type 0
IsNumber digits n = IsNumeral 10 digits × (digits_value 10 digits ≡ n) × (n < 2 ^ 32)

-- a soft fork by one of its names, `@`, and its height
pub record IsNamed (text : List ℕ) (deployment : Deployment) (height : ℕ) : Type 0 where
  pub name : List ℕ
  pub digits : List ℕ
  pub text_is : text ≡ name ++ 0x40 ∷ digits
  pub is_named : deployment_named name ≡ Some deployment
  pub height_is : IsNumber digits height

-- each text sets the height of its soft fork, one after the other
abbrev pub Sets : List (List ℕ) → Params → Params → Type 0
Sets [] before after = before ≡ after
Sets (text ∷ texts) before after =
    (deployment : Deployment) × (height : ℕ) × IsNamed text deployment height × Sets texts (with_height before deployment height) after

-- parted by commas: four numbers, the heights of BIP 34, 65 and 66, and of BIPs 68, 112 and 113; and then further soft forks
-- by name. One that isn't named is never in force.
pub record IsSpelling (word : List ℕ) (heights : Params) : Type 0 where
  pub first : List ℕ
  pub second : List ℕ
  pub third : List ℕ
  pub fourth : List ℕ
  pub others : List (List ℕ)
  pub word_is : word ≡ join_with_byte 0x2c (first ∷ second ∷ third ∷ fourth ∷ others)
  pub bip34 : ℕ
  pub bip65 : ℕ
  pub bip66 : ℕ
  pub csv : ℕ
  pub first_is : IsNumber first bip34
  pub second_is : IsNumber second bip65
  pub third_is : IsNumber third bip66
  pub fourth_is : IsNumber fourth csv
  pub sets : Sets others (of_heights bip34 bip65 bip66 csv) heights
