-- The coinbase of a block that a scenario defines.
use Rattle.std.specs.Prelude.{ℕ, pos, List, [], ◌∷◌, ◌++◌, length, Option, Some, None}
use Rattle.txn.specs.Tx.{Tx}
use Rattle.txn.specs.Coinbase.{null}
use Rattle.block.specs.Reward.{subsidy_of}
use Rattle.rules.specs.Context.{height_push}
use Rattle.scenario.specs.declared.recipe.CoinbaseRecipe.{CoinbaseRecipe}

-- what a line says, or else the default
abbrev pub said_or : {A : Type 0} → A → Option A → A
said_or default None = default
said_or default (Some said) = said

-- the push of the height (BIP 34), then the push of the name's bytes
abbrev pub script_of : List ℕ → ℕ → List ℕ
script_of name height = height_push height ++ length name ∷ name

-- by default it pays the subsidy to anyone (OP_1)
abbrev pub coinbase_of : CoinbaseRecipe → List ℕ → ℕ → Tx
coinbase_of recipe name height =
    let script = said_or (script_of name height) recipe.script in
    let value = said_or (pos (subsidy_of height)) recipe.reward in
    let pay = said_or (0x51 ∷ []) recipe.pay in
    record {
      version = pos 1;
      inputs = record { prev = null; script = script; sequence = 0xffffffff } ∷ [];
      outputs = record { value = value; script = pay } ∷ [];
      lock_time = 0;
      witnesses = [];
    }
