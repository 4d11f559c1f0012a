use Rattle.std.proofs.Common.{◌≡◌, ◌+◌, ◌-◌, ◌<◌, ℕ, suc, List, [], length, get_or, Result, Ok, Err, IfOk, refl, ap, ◌∙◌, arith}
use Rattle.std.proofs.lemmas.List.{get_or_default}
use Rattle.block.specs.declared.block.Block.{Block}
use Rattle.coins.specs.declared.coin.Coin.{Coin}
use Rattle.coins.specs.Coins.{Coins, Layer}
use Rattle.connect.specs.BlockContext.{Setting}
use Rattle.connect.specs.ConnectedBlock.{IsConnected}
use Rattle.tree.specs.Branches.{Blocks, block_at}
use Rattle.tree.specs.Names.{names}
use Rattle.activate.specs.CoreState.{coins_after}
use Rattle.activate.specs.Lookups.{undo_at}
use Rattle.activate.specs.inside.Disconnection.{place_at, CanDisconnect, IsConnectedBranch}
use Rattle.activate.specs.laws.ByHeight.{step-setting, step-connected}
use Rattle.activate.proofs.disconnection.disconnect_tip.Goals as goal

-- the block at a height was connected to the coins of the one below it
next_back : (t : Blocks Block) (places : List ℕ) → IsConnectedBranch t places → (h : ℕ) → 0 < h → h < length places → (m : Coins) (block : Block) (spent : List (List Coin)) → m ≡ coins_after t (place_at places h)
    → block ≡ block_at names t (place_at places h) → spent ≡ undo_at t (place_at places h)
    → (s : Setting) × IsConnected s (coins_after t (place_at places (h - 1))) block m spent
next_back t places branch h some inside m block spent e f g =
    let k = h - 1 in
    let next : h ≡ suc k = omega arith in
    let within : suc k < length places = omega arith in (
      step-setting t places branch k within,
      step-connected t places branch k within (coins_after t (place_at places k)) block m spent refl (f ∙ ap (λ j. block_at names t (place_at places j)) next) (e ∙ ap (λ j. coins_after t (place_at places j)) next) (g ∙ ap (λ j. undo_at t (place_at places j)) next),
    )

-- what the packed undo has of that block
packed_there : (t : Blocks Block) (places : List ℕ) (undo packed : List (List (List Coin))) → CanDisconnect t places undo packed → (h : ℕ) → 0 < h → h < length places → (spent other : List (List Coin)) → spent ≡ get_or packed (h - 1) other
    → spent ≡ undo_at t (place_at places h)
packed_there t places undo packed can h some inside spent other e =
    let long = can.long in
    let below : h - 1 < length packed = omega arith in
    e ∙ get_or_default packed (h - 1) other [] below ∙ can.all (h - 1) below ∙ ap (λ j. undo_at t (place_at places j)) {x = suc (0 + (h - 1))} {y = h} (omega arith)

if_ok : {T E : Type 0} {P Q : T → Type 0} (r : Result T E) → IfOk r P → ((x : T) → P x → Q x) → IfOk r Q
if_ok (Ok x) h f = f x h
if_ok (Err x) h f = tt

pub disconnect_in_layer-requires-clause-connected : goal.disconnect_in_layer-requires-clause-connected
disconnect_in_layer-requires-clause-connected g c =
    let t = c.args.active_branch.now.tree.now.blocks in
    let places = c.args.active_branch.now.branch.now in
    let one = next_back t places c.requires.branch.branch c.args.height c.requires.above c.requires.inside c.args.layer.coins c.in_ok-block.block c.in-Some.undo.now c.requires.coins (c.in_ok-block.ensures.block ∙ c.block.ensures) c.in-Some.ensures in
    (one.0, coins_after t (place_at places (c.args.height - 1)), one.1)

pub returns-in-Some-clause-coins : goal.returns-in-Some-clause-coins
returns-in-Some-clause-coins g c =
    let t = c.args.active_branch.now.tree.now.blocks in
    let places = c.args.active_branch.now.branch.now in
    let one = next_back t places c.requires.branch.branch c.args.height c.requires.above c.requires.inside c.args.layer.coins c.in_ok-block.block c.in-Some.undo.now c.requires.coins (c.in_ok-block.ensures.block ∙ c.block.ensures) c.in-Some.ensures in
    if_ok c.disconnect_in_layer.result (c.disconnect_in_layer.ensures one.0 (coins_after t (place_at places (c.args.height - 1))) one.1) (λ left e. ap (λ (l : Layer). l.coins) e)

pub returns-in-Some-clause-base : goal.returns-in-Some-clause-base
returns-in-Some-clause-base g c =
    let t = c.args.active_branch.now.tree.now.blocks in
    let places = c.args.active_branch.now.branch.now in
    let one = next_back t places c.requires.branch.branch c.args.height c.requires.above c.requires.inside c.args.layer.coins c.in_ok-block.block c.in-Some.undo.now c.requires.coins (c.in_ok-block.ensures.block ∙ c.block.ensures) c.in-Some.ensures in
    if_ok c.disconnect_in_layer.result (c.disconnect_in_layer.ensures one.0 (coins_after t (place_at places (c.args.height - 1))) one.1) (λ left e. ap (λ (l : Layer). l.base) e)

pub disconnect_in_layer-requires-in-None-clause-connected : goal.disconnect_in_layer-requires-in-None-clause-connected
disconnect_in_layer-requires-in-None-clause-connected g c =
    let t = c.args.active_branch.now.tree.now.blocks in
    let places = c.args.active_branch.now.branch.now in
    let spent = packed_there t places _ _ c.requires.branch c.args.height c.requires.above c.requires.inside c.in_ok-undo-in-None.undo _ c.in_ok-undo-in-None.ensures in
    let one = next_back t places c.requires.branch.branch c.args.height c.requires.above c.requires.inside c.args.layer.coins c.in_ok-block.block c.in_ok-undo-in-None.undo c.requires.coins (c.in_ok-block.ensures.block ∙ c.block.ensures) spent in
    (one.0, coins_after t (place_at places (c.args.height - 1)), one.1)
