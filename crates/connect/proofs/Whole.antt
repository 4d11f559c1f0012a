-- A block's transactions but the first, with what they spend.
use Rattle.std.proofs.Common.{◌≡◌, ℕ, ◌+◌, ◌-◌, ◌≤◌, Bool, true, false, cond, List, [], ◌∷◌, ◌++◌, length, map, take, drop, sum_by, Option, Some, None, refl, sym, ap, ap₂, subst, ◌∙◌, arith}
use Rattle.std.specs.Option.{option_to_list}
use Rattle.std.specs.List.{AllZip, flat_map, enumerate_from}
use Rattle.std.specs.FinMap as coin_map
use Rattle.std.proofs.lemmas.List.{length-append, length-map}
use Rattle.std.proofs.lemmas.List.Sums.{sum_by-cons}
use Rattle.txn.specs.declared.outpoint.OutPoint.{OutPoint}
use Rattle.txn.specs.declared.input.TxIn.{TxIn}
use Rattle.txn.specs.Tx.{Tx}
use Rattle.txn.specs.declared.reason.Reason.{Reason}
use Rattle.txn.specs.First.{first_broken}
use Rattle.block.specs.declared.block.Block.{Block}
use Rattle.signatures.specs.Triple.{Triples}
use Rattle.rules.specs.Alone.{begins_with_coinbase}
use Rattle.txn.specs.Check.{is_coinbase, prevs}
use Rattle.interp.specs.declared.flags.Flags.{Flags}
use Rattle.coins.specs.declared.coin.Coin.{Coin}
use Rattle.coins.specs.Coins.{Coins}
use Rattle.undo.specs.Effect.{spends, coins_at, spent_coins}
use Rattle.rules.specs.declared.in_force.InForce.{InForce}
use Rattle.connect.specs.BlockContext.{Setting}
use Rattle.connect.specs.Turns.{Turn, turn, turns, spent_in, undo_of, left_by, full_count}
use Rattle.connect.specs.Faults.{connect_rules}
use Rattle.connect.specs.Scripts.{Check, flags_of, input_checks, script_checks, IsFirstRefused, IsBefore, IsConnectFault}
use Rattle.connect.specs.inside.ScriptLists.{checks_from}
use Rattle.connect.specs.laws.Alone.{inputs_of, IsLawfulBlock}
use Rattle.connect.proofs.Steps.{tail_of}
use Rattle.connect.proofs.Blocks.{turns_none, turns_next, later_turns, undo_is}
use Rattle.connect.proofs.Checks.{listed_next, listed_none}

-- ---- how many coins a transaction spends

one_at_most : (o : Option Coin) → length (option_to_list o) ≤ 1
one_at_most None = omega arith
one_at_most (Some c) = omega arith

coins_at_most : (m : Coins) (ps : List OutPoint) → length (coins_at m ps) ≤ length ps
coins_at_most m [] = omega arith
coins_at_most m (p ∷ ps) = omega (arith, one_at_most (coin_map.get m p), coins_at_most m ps, length-append (option_to_list (coin_map.get m p)) (coins_at m ps))

spends_at_most : (b : Bool) (inputs : List TxIn) → length (cond b [] (prevs inputs)) ≤ length inputs
spends_at_most true inputs = omega arith
spends_at_most false inputs = omega (arith, length-map inputs (λ (i : TxIn). i.prev))

abbrev pub Fits : Tx → List Coin → Type 0
Fits tx coins = length coins ≤ length tx.inputs

pub fits : (m : Coins) (tx : Tx) (n : ℕ) → length (spent_in (turn tx m n)) ≤ length tx.inputs
unfolding spent_coins
fits m tx n = omega (arith, coins_at_most m (spends tx), spends_at_most (is_coinbase tx) tx.inputs)

pub all_fit : (h : ℕ) (m : Coins) (n : ℕ) (txs : List Tx) → AllZip Fits txs (map spent_in (turns h m n txs))
all_fit h m n [] = subst (λ (l : List Turn). AllZip Fits [] (map spent_in l)) (sym (turns_none h m n)) tt
all_fit h m n (tx ∷ txs) =
    let t = turn tx m n in
    subst (λ (l : List Turn). AllZip Fits (tx ∷ txs) (map spent_in l)) (sym (turns_next h m n tx txs)) (fits m tx n, all_fit h (left_by h t) (full_count t) txs)

pub few_spent : (h : ℕ) (m : Coins) (n : ℕ) (txs : List Tx) → sum_by (λ (coins : List Coin). length coins) (map spent_in (turns h m n txs)) ≤ inputs_of txs
few_spent h m n [] = omega (arith, ap (λ (l : List Turn). sum_by (λ (coins : List Coin). length coins) (map spent_in l)) (turns_none h m n))
few_spent h m n (tx ∷ txs) =
    let t = turn tx m n in
    let later = turns h (left_by h t) (full_count t) txs in
    omega (
      arith,
      ap (λ (l : List Turn). sum_by (λ (coins : List Coin). length coins) (map spent_in l)) (turns_next h m n tx txs),
      sum_by-cons (λ (coins : List Coin). length coins) (spent_in t) (map spent_in later),
      sum_by-cons (λ (x : Tx). length x.inputs) tx txs,
      fits m tx n,
      few_spent h (left_by h t) (full_count t) txs,
    )

-- ---- the list of checks is the block's

abbrev checks_of : Flags → ℕ × Turn → List Check
checks_of flags t = input_checks flags t.0 t.1.tx (spent_in t.1)

listed_turns : (flags : Flags) (place h : ℕ) (m : Coins) (n : ℕ) (txs : List Tx) → checks_from flags place txs (map spent_in (turns h m n txs)) ≡ flat_map (checks_of flags) (enumerate_from place (turns h m n txs))
listed_turns flags place h m n [] =
    listed_none flags place (map spent_in (turns h m n []))
    ∙ sym (ap (λ (l : List Turn). flat_map (checks_of flags) (enumerate_from place l)) (turns_none h m n))
listed_turns flags place h m n (tx ∷ txs) =
    let t = turn tx m n in
    let later = turns h (left_by h t) (full_count t) txs in
    ap (λ (l : List Turn). checks_from flags place (tx ∷ txs) (map spent_in l)) (turns_next h m n tx txs)
    ∙ listed_next flags place tx txs (spent_in t) (map spent_in later)
    ∙ ap (λ (l : List Check). input_checks flags place tx (spent_in t) ++ l) (listed_turns flags (place + 1) h (left_by h t) (full_count t) txs)
    ∙ sym (ap (λ (l : List Turn). flat_map (checks_of flags) (enumerate_from place l)) (turns_next h m n tx txs))

coinbase_spends : (m : Coins) (tx : Tx) (n : ℕ) → is_coinbase tx ≡ true → spent_in (turn tx m n) ≡ []
unfolding spent_coins
coinbase_spends m tx n h = ap (λ b. coins_at m (cond b [] (prevs tx.inputs))) h

pub listed_is : (s : Setting) (m : Coins) (x : Tx) (rest : List Tx) → is_coinbase x ≡ true → checks_from (flags_of s.rules) 1 rest (undo_of s.height m (x ∷ rest)) ≡ script_checks s m (x ∷ rest)
listed_is s m x rest first =
    let flags = flags_of s.rules in
    let t = turn x m 0 in
    let later = later_turns s m x rest in
    ap (checks_from flags 1 rest) (undo_is s m x rest)
    ∙ listed_turns flags 1 s.height (left_by s.height t) (full_count t) rest
    ∙ ap (λ (coins : List Coin). input_checks flags 0 x coins ++ flat_map (checks_of flags) (enumerate_from 1 later)) (sym (coinbase_spends m x 0 first))
    ∙ sym (ap (λ (l : List Turn). flat_map (checks_of flags) (enumerate_from 0 l)) (turns_next s.height m 0 x rest))

-- ---- a block that begins with a coinbase

pub record CoinbaseFirst (txs : List Tx) : Type 0 where
  pub first : Tx
  pub is : is_coinbase first ≡ true
  pub parts : txs ≡ first ∷ drop 1 txs

coinbase_first : (txs : List Tx) → 1 ≤ length txs → begins_with_coinbase txs ≡ true → CoinbaseFirst txs
coinbase_first [] some h = absurd (omega arith)
coinbase_first (tx ∷ txs) some h = record { first = tx; is = h; parts = refl }

pub lawful_coinbase_first : (b : Block) → IsLawfulBlock b → CoinbaseFirst b.txs
lawful_coinbase_first b h = coinbase_first b.txs h.some h.first

pub block_fits : (s : Setting) (m : Coins) (txs : List Tx) → CoinbaseFirst txs → AllZip Fits (drop 1 txs) (undo_of s.height m txs)
block_fits s m txs h =
    let t = turn h.first m 0 in
    subst (λ (l : List (List Coin)). AllZip Fits (drop 1 txs) l) (sym (ap (undo_of s.height m) h.parts ∙ undo_is s m h.first (drop 1 txs)))
    (all_fit s.height (left_by s.height t) (full_count t) (drop 1 txs))

pub block_few : (s : Setting) (m : Coins) (txs : List Tx) → CoinbaseFirst txs → sum_by (λ (coins : List Coin). length coins) (undo_of s.height m txs) ≤ inputs_of txs
block_few s m txs h =
    let t = turn h.first m 0 in
    omega (
      arith,
      ap (λ (l : List (List Coin)). sum_by (λ (coins : List Coin). length coins) l) (ap (undo_of s.height m) h.parts ∙ undo_is s m h.first (drop 1 txs)),
      few_spent s.height (left_by s.height t) (full_count t) (drop 1 txs),
      ap inputs_of h.parts,
      sum_by-cons (λ (x : Tx). length x.inputs) h.first (drop 1 txs),
    )

pub block_checks : (s : Setting) (m : Coins) (txs : List Tx) → CoinbaseFirst txs → checks_from (flags_of s.rules) 1 (drop 1 txs) (undo_of s.height m txs) ≡ script_checks s m txs
block_checks s m txs h =
    ap (λ (l : List Tx). checks_from (flags_of s.rules) 1 (drop 1 txs) (undo_of s.height m l)) h.parts
    ∙ listed_is s m h.first (drop 1 txs) h.is
    ∙ ap (script_checks s m) (sym h.parts)

pub fault_is : (s : Setting) (m : Coins) (txs : List Tx) (triples : Triples) (found : Option Reason) → first_broken (connect_rules s m txs) ≡ None → IsFirstRefused triples (script_checks s m txs) found → IsConnectFault s m txs triples found
fault_is s m txs triples found none h = subst (λ o. IsBefore o (IsFirstRefused triples (script_checks s m txs)) found) (sym none) h

-- ---- what is listed for the queue, where the slice behind the coinbase and the coins spent are the block's

pub record Listed (s : Setting) (m : Coins) (txs slice : List Tx) (undo : List (List Coin)) : Type 0 where
  pub fits : AllZip Fits (take (length slice - 1) (drop 1 slice)) undo
  pub few : sum_by (λ (coins : List Coin). length coins) undo ≤ inputs_of txs
  pub checks : (rules : InForce) → rules ≡ s.rules → checks_from (flags_of rules) 1 (take (length slice - 1) (drop 1 slice)) undo ≡ script_checks s m txs

pub listed : (s : Setting) (m : Coins) (b : Block) (slice : List Tx) (undo : List (List Coin)) → IsLawfulBlock b → slice ≡ b.txs → undo ≡ undo_of s.height m b.txs → Listed s m b.txs slice undo
listed s m b slice undo lawful same spent =
    let coinbase : CoinbaseFirst b.txs = lawful_coinbase_first b lawful in
    let others : take (length slice - 1) (drop 1 slice) ≡ drop 1 b.txs = tail_of slice ∙ ap (drop 1) same in
    record {
      fits = subst (λ (l : List Tx). AllZip Fits l undo) (sym others) (subst (λ (l : List (List Coin)). AllZip Fits (drop 1 b.txs) l) (sym spent) (block_fits s m b.txs coinbase));
      few = omega (arith, ap (λ (l : List (List Coin)). sum_by (λ (coins : List Coin). length coins) l) spent, block_few s m b.txs coinbase);
      checks = λ rules is. ap (λ (r : InForce). checks_from (flags_of r) 1 (take (length slice - 1) (drop 1 slice)) undo) is
          ∙ ap₂ (λ (l : List Tx) (k : List (List Coin)). checks_from (flags_of s.rules) 1 l k) others spent
          ∙ block_checks s m b.txs coinbase;
    }
