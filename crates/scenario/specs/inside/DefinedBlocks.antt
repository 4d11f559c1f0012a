-- The blocks that a scenario defines.
use Rattle.std.specs.Prelude.{◌≡◌, ℕ, ◌+◌, ◌<◌, ◌^◌, pos, Bool, if◌then◌else◌, List, ◌∷◌, Option, Some, None, IfSome, option_map, string_bytes}
use Rattle.txn.specs.Tx.{Tx}
use Rattle.txn.specs.Identity as txn
use Rattle.block.specs.declared.header.Header.{Header}
use Rattle.block.specs.declared.block.Block.{Block}
use Rattle.block.specs.Grammar.{block}
use Rattle.block.specs.Identity.{id_of}
use Rattle.block.specs.Merkle.{root}
use Rattle.block.specs.Target.{MeetsTarget}
use Rattle.rules.specs.Context.{regtest_bits}
use Rattle.scenario.specs.declared.recipe.HeaderRecipe.{HeaderRecipe}
use Rattle.scenario.specs.declared.recipe.CoinbaseRecipe.{CoinbaseRecipe}
use Rattle.scenario.specs.declared.recipe.Recipe.{Recipe}
use Rattle.scenario.specs.inside.Coinbase.{said_or, coinbase_of}
use Rattle.scenario.specs.declared.defined_blocks.Named.{Named}

-- the header with another nonce
abbrev pub with_nonce : Header → ℕ → Header
with_nonce h n = record h { nonce = n }

-- the header with the lowest nonce that meets the target
abbrev pub IsMined : Header → Header → Type 0
IsMined h mined =
    (mined ≡ with_nonce h mined.nonce) × MeetsTarget (id_of mined)
    × ((n : ℕ) → n < mined.nonce → ¬ MeetsTarget (id_of (with_nonce h n)))

-- no nonce meets the target
abbrev pub IsBarren : Header → Type 0
IsBarren h = (n : ℕ) → n < 2 ^ 32 → ¬ MeetsTarget (id_of (with_nonce h n))

-- the header with the nonce that the line says, by default the lowest that meets the target
abbrev pub IsSealed : Option ℕ → Header → Header → Type 0
IsSealed None h made = IsMined h made
IsSealed (Some nonce) h made = made ≡ with_nonce h nonce

-- the header of these transactions on a parent, before its nonce: by default one second younger, with the
-- true root
abbrev pub header_to_seal : HeaderRecipe → Named → List Tx → Header
header_to_seal recipe parent txs = record {
  version = said_or (pos 4) recipe.version;
  prev = parent.id;
  root = said_or (root (txn.ids_of txs)) recipe.root;
  time = said_or (parent.time + 1) recipe.time;
  bits = said_or regtest_bits recipe.bits;
  nonce = 0;
}

-- the coinbase, unless the line says that there is none
abbrev pub coinbase_said : Bool → CoinbaseRecipe → List ℕ → ℕ → Option Tx
coinbase_said has_coinbase recipe name height =
    if has_coinbase then Some (coinbase_of recipe name height) else None

-- with this transaction before them, if there is one
abbrev pub with_first : Option Tx → List Tx → List Tx
with_first None txs = txs
with_first (Some tx) txs = tx ∷ txs

-- the coinbase and the transactions that the line names
abbrev pub txs_of : Recipe → List ℕ → ℕ → List Tx
txs_of recipe name height =
    let first = coinbase_said recipe.has_coinbase recipe.coinbase name height in
    with_first first recipe.transactions.items

-- the block that a line says, on a parent: its transactions and header, then what is kept of it
pub record IsMade (recipe : Recipe) (name : List ℕ) (parent made : Named) : Type 0 where
  pub whole : Block
  pub txs : whole.txs ≡ txs_of recipe name (parent.height + 1)
  pub header : IsSealed recipe.header.nonce (header_to_seal recipe.header parent whole.txs) whole.header
  pub named : string_bytes made.name ≡ name
  pub id : made.id ≡ id_of whole.header
  pub height : made.height ≡ parent.height + 1
  pub time : made.time ≡ whole.header.time
  pub bytes : made.bytes.items ≡ block.spell whole
  pub coinbase : let said = coinbase_said recipe.has_coinbase recipe.coinbase name (parent.height + 1) in
      option_map (λ known. known.tx) made.coinbase ≡ said
  pub coinbase_id : IfSome made.coinbase (λ known. known.id ≡ txn.id_of known.tx)
