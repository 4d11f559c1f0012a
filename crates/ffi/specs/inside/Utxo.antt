-- How a set of coins is kept.
use Rattle.std.specs.Prelude.{◌≡◌, Option, None, Some}
use Rattle.std.specs.Option.{option_map}
use Rattle.coins.specs.Coins.{Coins}
use Rattle.connect.specs.BlockContext.{Setting}
use Rattle.connect.specs.ConnectedBlock.{IsConnected}
use Rattle.ffi.specs.UtxoState.{Connected}
use Rattle.ffi.specs.declared.utxo.Done.{Done}

abbrev pub connected_of : Done → Connected
connected_of done = record { block = done.block; spent = done.undo }

-- connecting it left these coins
abbrev pub IsLast : Coins → Option Connected → Type 0
IsLast n None = Unit {0}
IsLast n (Some c) = (s : Setting) × (m : Coins) × IsConnected s m c.block n c.spent
