-- Kinds of parts that the spelling with witnesses has, beside those of `wire`.
use Rattle.std.specs.Prelude.{◌≡◌, ◌⊎◌, ℕ, List, ◌++◌, Bool, true, false}
use Rattle.wire.specs.declared.fault.WireFault.{WireFault}
use Rattle.wire.specs.Grammar.{Grammar, Follows}

-- a whole lawful part that fails a test
pub record Fails {A : Type 0} (part : Grammar A) (test : A → Bool) (bytes : List ℕ) : Type 0 where
  pub value : A
  pub rest : List ℕ
  pub lawful : part.Lawful value
  pub fails : test value ≡ false
  pub parts : bytes ≡ part.spell value ++ rest

-- a part that passes a test; where it doesn't, this is its fault
abbrev pub only : {A : Type 0} → WireFault → (A → Bool) → Grammar A → Grammar A
only fault test part = record {
  spell = part.spell;
  Lawful = λ x. part.Lawful x × (test x ≡ true);
  Faulty = λ found bytes. part.Faulty found bytes ⊎ ((found ≡ fault) × Fails part test bytes);
}

-- one part and then another, whose grammar is by what the first is
abbrev pub pair_by : {A B : Type 0} → Grammar A → (A → Grammar B) → Grammar (A × B)
pair_by first next = record {
  spell = λ x. first.spell x.0 ++ (next x.0).spell x.1;
  Lawful = λ x. first.Lawful x.0 × (next x.0).Lawful x.1;
  Faulty = λ fault bytes. first.Faulty fault bytes ⊎ Follows first (λ a. (next a).Faulty) fault bytes;
}
