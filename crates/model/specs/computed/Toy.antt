-- Blocks that are a number, their parent's number, and whether they connect; those of the worked examples.
use Rattle.std.specs.Prelude.{ℕ, ◌==◌, Bool, true, false, cond, Some, None}
use Rattle.txn.specs.declared.reason.Reason.TheVariants.{CoinbaseAmount}
use Rattle.model.specs.Rules.{Rules}

pub record Toy : Type 0 where
  pub id : ℕ
  pub parent : ℕ
  pub fits : Bool

abbrev pub genesis : Toy
genesis = record { id = 0; parent = 0; fits = true }

abbrev pub toy : Rules Toy ℕ
toy = record {
  names = record { same_id = λ a b. a == b; id_of = λ b. b.id; parent_of = λ b. b.parent; genesis = genesis; genesis_id = 0 };
  alone_fault = λ b. None;
  context_fault = λ branch now b. None;
  connect_fault = λ branch b. cond b.fits None (Some CoinbaseAmount);
}

-- a block on another
abbrev pub on : Toy → ℕ → Toy
on parent id = record { id = id; parent = parent.id; fits = true }

-- one that doesn't connect
abbrev pub unfit_on : Toy → ℕ → Toy
unfit_on parent id = record { id = id; parent = parent.id; fits = false }

-- a letter for each branch, and the height

abbrev pub b1 : Toy
b1 = on genesis 1

abbrev pub p2 : Toy
p2 = on b1 2

abbrev pub p3 : Toy
p3 = on p2 3

abbrev pub q2 : Toy
q2 = on b1 4

abbrev pub q3 : Toy
q3 = on q2 5

abbrev pub r2 : Toy
r2 = on b1 6

-- never submitted
abbrev pub z1 : Toy
z1 = on genesis 7

abbrev pub x1 : Toy
x1 = on genesis 11

abbrev pub x2 : Toy
x2 = unfit_on x1 12

abbrev pub x3 : Toy
x3 = on x2 13

abbrev pub x4 : Toy
x4 = on x3 14
