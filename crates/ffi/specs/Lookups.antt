-- What is reported about a session's blocks: ids, headers with their places, and what a block spent. What isn't reported stays as it was.
use Rattle.std.specs.Prelude.{◌≡◌, ℕ, ℤ, pos, negsuc, ◌⊎◌, ◌<◌, List, length, map, Option, None, Some}
use Rattle.std.specs.List.{flat_map}
use Rattle.hash.specs.declared.id.Id.{Id}
use Rattle.block.specs.Grammar.{header}
use Rattle.coins.specs.declared.coin.Coin.{Coin}
use Rattle.tree.specs.Branches.{block_at, height, place_of}
use Rattle.tree.specs.Names.{names}
use Rattle.activate.specs.Lookups.{confirmations, spent_by}
use Rattle.ffi.specs.declared.answers.Name.{Name}
use Rattle.ffi.specs.declared.answers.ShownCoin.{ShownCoin}
use Rattle.ffi.specs.declared.answers.ShownHeader.{ShownHeader}
use Rattle.ffi.specs.declared.answers.ShownSpent.{ShownSpent}
use Rattle.ffi.specs.Answers.{coin_row, id_of}
use Rattle.ffi.specs.Room.{IsAtFront}
use Rattle.ffi.specs.SessionState.{SessionState, rules_of, tree_of}

-- ---- ids

-- the id is reported, or none is found
abbrev pub IsIdShown : Option Id → Name → Name → ℕ → Type 0
IsIdShown None before told result = (result ≡ 4) × (told ≡ before)
IsIdShown (Some id) before told result = (result ≡ 0) × (id_of told ≡ id)

-- what is asked of a session
abbrev pub IsIdTold : Option SessionState → (SessionState → Option Id) → Name → Name → ℕ → Type 0
IsIdTold None asked before told result = (result ≡ 2) × (told ≡ before)
IsIdTold (Some s) asked before told result = IsIdShown (asked s) before told result

-- ---- headers

-- -1 of a block that isn't active
abbrev pub confirmations_number : Option ℕ → ℤ
confirmations_number None = negsuc 0
confirmations_number (Some n) = pos n

-- of the block with this id, at this place: the spelling of its header, its height and its confirmations
pub record ShowsHeader (s : SessionState) (id : Id) (place : ℕ) (shown : ShownHeader) : Type 0 where
  pub header_is : shown.header ≡ header.spell (block_at names (tree_of s).blocks place).header
  pub height_is : shown.height ≡ height (tree_of s).blocks place
  pub confirmations_are : shown.confirmations ≡ confirmations_number (confirmations (rules_of s) (tree_of s) id)

abbrev pub IsHeaderShown : SessionState → Id → Option ℕ → ShownHeader → ShownHeader → ℕ → Type 0
IsHeaderShown s id None before shown result = (result ≡ 4) × (shown ≡ before)
IsHeaderShown s id (Some place) before shown result = (result ≡ 0) × ShowsHeader s id place shown

abbrev pub IsHeaderTold : Option SessionState → Id → ShownHeader → ShownHeader → ℕ → Type 0
IsHeaderTold None id before shown result = (result ≡ 2) × (shown ≡ before)
IsHeaderTold (Some s) id before shown result = IsHeaderShown s id (place_of names (tree_of s).blocks id) before shown result

-- ---- what a block spent

-- the coins of all its transactions, one after the other, without their scripts
abbrev pub coin_rows : List (List Coin) → List ShownCoin
coin_rows undo = flat_map (λ coins. map coin_row coins) undo

-- and their scripts
abbrev pub coin_scripts : List (List Coin) → List ℕ
coin_scripts undo = flat_map (λ coins. flat_map (λ coin. coin.script) coins) undo

-- what C has for them: room for the coins without their scripts, room for these, and how many there are
pub record SpentRoom : Type 0 where
  pub coins : List ShownCoin
  pub scripts : List ℕ
  pub size : ShownSpent

-- they are there, or there is no room for them; how many there are is reported in both cases
abbrev pub AreCoinsShown : List (List Coin) → SpentRoom → SpentRoom → ℕ → Type 0
AreCoinsShown undo before after result =
    (after.size ≡ record { coins = length (coin_rows undo); scripts = length (coin_scripts undo) })
    × (((result ≡ 0) × IsAtFront (coin_rows undo) before.coins after.coins × IsAtFront (coin_scripts undo) before.scripts after.scripts)
    ⊎ ((result ≡ 5) × ((length before.coins < length (coin_rows undo)) ⊎ (length before.scripts < length (coin_scripts undo)))
    × (after.coins ≡ before.coins) × (after.scripts ≡ before.scripts)))

-- of a block that isn't active nothing is; or there was no memory
abbrev pub IsSpentShown : Option (List (List Coin)) → SpentRoom → SpentRoom → ℕ → Type 0
IsSpentShown None before after result = ((result ≡ 4) ⊎ (result ≡ 1)) × (after ≡ before)
IsSpentShown (Some undo) before after result =
    AreCoinsShown undo before after result ⊎ ((result ≡ 1) × (after ≡ before))

abbrev pub IsSpentTold : Option SessionState → Id → SpentRoom → SpentRoom → ℕ → Type 0
IsSpentTold None id before after result = (result ≡ 2) × (after ≡ before)
IsSpentTold (Some s) id before after result = IsSpentShown (spent_by (rules_of s) (tree_of s) id) before after result
