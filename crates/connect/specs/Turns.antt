-- The transactions of a block, one after the other.
use Rattle.std.specs.Prelude.{ℕ, ◌+◌, List, [], ◌∷◌, map, drop, fold, sum_by}
use Rattle.std.specs.List.{zip}
use Rattle.txn.specs.Tx.{Tx}
use Rattle.txn.specs.Identity.{id_of}
use Rattle.script.specs.Signatures.{p2sh_sigops}
use Rattle.coins.specs.declared.coin.Coin.{Coin}
use Rattle.coins.specs.Coins.{Coins}
use Rattle.undo.specs.Effect.{after, spent_coins}
use Rattle.rules.specs.Alone.{tx_sigops}

-- BIP 16: the signature operations of the inner scripts, by the coins that a transaction spends, so none of a coinbase
-- (`GetP2SHSigOpCount`)
unfoldable pub inner_sigops : List Coin → Tx → ℕ
inner_sigops coins tx = sum_by (λ p. p2sh_sigops p.0.script p.1.script) (zip tx.inputs coins)

-- a transaction with the coins that it finds, and the signature operations of those before it
pub record Turn : Type 0 where
  pub tx : Tx
  pub coins : Coins
  pub counted : ℕ

-- the coins that it spends, in the order of its inputs
abbrev pub spent_in : Turn → List Coin
spent_in turn = spent_coins turn.coins turn.tx

-- the signature operations of its scripts and of those before it, without and with those of inner scripts
abbrev pub plain_count : Turn → ℕ
plain_count turn = turn.counted + tx_sigops turn.tx

abbrev pub full_count : Turn → ℕ
full_count turn = plain_count turn + inner_sigops (spent_in turn) turn.tx

-- the coins after it, in a block of this height
abbrev pub left_by : ℕ → Turn → Coins
left_by height turn = after turn.coins turn.tx (id_of turn.tx) height

abbrev pub turn : Tx → Coins → ℕ → Turn
turn tx coins counted = record { tx = tx; coins = coins; counted = counted }

-- each transaction in turn, from these coins and this count on
unfoldable pub turns : ℕ → Coins → ℕ → List Tx → List Turn
turns height m n [] = []
turns height m n (tx ∷ txs) = turn tx m n ∷ turns height (left_by height (turn tx m n)) (full_count (turn tx m n)) txs

-- the coins after the transactions of a block of this height
unfoldable pub effect : ℕ → Coins → List Tx → Coins
effect height m txs = fold (λ n tx. after n tx (id_of tx) height) m txs

-- the coins that each transaction but the first spends
unfoldable pub undo_of : ℕ → Coins → List Tx → List (List Coin)
undo_of height m txs = map spent_in (drop 1 (turns height m 0 txs))
