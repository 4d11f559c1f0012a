-- The pass of a seat: what it has seen of the history, and what of it is its own.
use Rattle.std.specs.Prelude.{◌≡◌, ◌⊎◌, ◌&&◌, ℕ, zero, suc, Bool, true, is_none, if◌then◌else◌}
use Rattle.std.specs.Prelude.{List, [], ◌∷◌, ◌++◌, length, take, drop, Option, Some, None}
use mathlib.Core.List.{IsPrefix}
use Rattle.txn.specs.declared.outpoint.OutPoint.{OutPoint}
use Rattle.signatures.specs.Known.{Under}
use Rattle.signatures.specs.Triple.{Triple, Triples}
use Rattle.coins.specs.declared.coin.Coin.{Coin}
use Rattle.model.specs.declared.command.Command.{Command}
use Rattle.model.specs.declared.reply.Reply.{Reply}
use Rattle.model.specs.declared.entry.Entry.{Entry}
use Rattle.model.specs.History.{state_at, own_of, entry_of}
use Rattle.view.specs.Origin.{Origin, known_in, machine}
use Rattle.view.specs.ViewState.{IsLegal}
use Rattle.node.specs.Told.{AreNext, coins_in}

-- the seat's number, which history it sits at and what that is of, the beginning of it that the seat has seen, the seat's
-- own entries in order, and the signatures that its last call wants, of those that may want some
pub record Pass : Type 0 where
  pub number : ℕ
  pub origin : Origin
  pub seen : List Entry
  pub mine : List Entry
  pub wants : List Triple

-- a beginning of a history, as one seat gives it to another
pub record Heard : Type 0 where
  pub origin : Origin
  pub seen : List Entry

-- a seat that has seen and done nothing
abbrev pub opening_pass : Origin → ℕ → Pass
opening_pass o number = record { number = number; origin = o; seen = []; mine = []; wants = [] }

-- the same, where nothing is wanted any more
abbrev pub settled : Pass → Pass
settled p = record p { wants = [] }

-- so many seats, numbered from 0
abbrev pub opening_passes : Origin → ℕ → List Pass
opening_passes o zero = []
opening_passes o (suc n) = opening_passes o n ++ opening_pass o n ∷ []

-- of the same seat: what it has seen only grew, and is legal
pub record IsLater (p q : Pass) : Type 0 where
  pub number : q.number ≡ p.number
  pub origin : q.origin ≡ p.origin
  pub grows : IsPrefix p.seen q.seen
  pub legal : IsLegal q.origin q.seen

-- the longer of two lists, of which one begins the other
abbrev pub IsLonger : List Entry → List Entry → List Entry → Type 0
IsLonger xs ys zs = ((zs ≡ xs) × IsPrefix ys xs) ⊎ ((zs ≡ ys) × IsPrefix xs ys)

-- an entry whose reply is owed
abbrev pub owed_entry : ℕ → Command → Entry
owed_entry number command = entry_of number command None

-- whether all these replies are owed
abbrev pub all_owed : List Entry → Bool
all_owed [] = true
all_owed (e ∷ es) = is_none e.reply && all_owed es

-- the entries up to the last whose reply isn't owed
abbrev pub up_to_last_answered : List Entry → List Entry
up_to_last_answered [] = []
up_to_last_answered (e ∷ es) = if all_owed (e ∷ es) then [] else e ∷ up_to_last_answered es

-- the seat's entries in what it has seen begin with its own up to the last whose reply isn't owed
abbrev pub IsOwn : Pass → Type 0
IsOwn p = IsPrefix (up_to_last_answered p.mine) (own_of p.number p.seen)

-- the step is the last that the seat has then seen, with this reply, and the seat's entries are its own; it wants nothing
pub record IsWrite (p q : Pass) (command : Command) (at : ℕ) (reply : Reply) : Type 0 where
  pub last : let e = entry_of p.number command (Some reply) in
      (before : List Entry) × (q.seen ≡ before ++ e ∷ []) × IsPrefix p.seen before
  pub at_is : at ≡ length q.seen
  pub mine_is : q.mine ≡ p.mine ++ entry_of p.number command (Some reply) ∷ []
  pub own_is : own_of q.number q.seen ≡ q.mine
  pub wants_is : q.wants ≡ []

-- no step was taken, and nothing is wanted
pub record IsNoStep (p q : Pass) (at : ℕ) : Type 0 where
  pub same : q ≡ settled p
  pub at_is : at ≡ length p.seen

-- the value is what the history's state gives after all that the seat has then seen, under every set of valid signatures
-- that agrees with what is then known
pub record IsRead (p q : Pass) {V : Type 0} (value : (valid : Triples) → (machine p.origin valid).State → V)
    (at : ℕ) (answer : V) : Type 0 where
  pub at_is : at ≡ length q.seen
  pub value_is : Under (known_in p.origin q.seen) (λ valid. answer ≡ value valid (state_at (machine p.origin valid) q.seen at))
  pub mine_is : q.mine ≡ p.mine
  pub wants_is : q.wants ≡ p.wants

-- the answer is the entries after the first `first`, up to the one of number `last`, of all that the seat has then seen
pub record IsListed (p q : Pass) (first last at : ℕ) (answer : List Entry) : Type 0 where
  pub at_is : at ≡ length q.seen
  pub answer_is : answer ≡ drop first (take last q.seen)
  pub mine_is : q.mine ≡ p.mine
  pub wants_is : q.wants ≡ p.wants

-- the answer is the coins above an outpoint, of the state after all that the seat has then seen
pub record AreCoins (p q : Pass) (above : Option OutPoint) (most at : ℕ) (answer : List (OutPoint × Coin)) : Type 0 where
  pub at_is : at ≡ length q.seen
  pub answer_is : Under (known_in p.origin q.seen) (λ valid.
      AreNext (coins_in p.origin valid (state_at (machine p.origin valid) q.seen at)) above most answer)
  pub mine_is : q.mine ≡ p.mine
  pub wants_is : q.wants ≡ p.wants

-- of a whole history: what the seat has seen begins it, and the seat's entries in it are its own
pub record IsStanding (history : List Entry) (p : Pass) : Type 0 where
  pub begins : IsPrefix p.seen history
  pub own : own_of p.number history ≡ p.mine
