-- Steps of loops that spend and add coins.
use Rattle.std.proofs.Common.{◌≡◌, ℕ, suc, ◌+◌, ◌<◌, Bool, true, false, cond, List, [], ◌∷◌, ◌++◌, length, get_or, drop, map, Option, Some, None, IsSome, Result, Ok, Err, OnOk, IfOk, refl, sym, ap, ◌∙◌, add-one}
use Rattle.std.proofs.Math.Seq.{drop-cons}
pub use Rattle.std.proofs.Math.ListN.{drop_of_length-le}
use Rattle.std.specs.Prelude.{is_some, ◌&&◌}
use Rattle.std.specs.Option.{option_to_list}
use Rattle.std.specs.List.{AllByRecursion, IsDistinct, list_all}
use Rattle.std.specs.Map.{keys_of}
use Rattle.std.specs.FinMap as coin_map
use Rattle.txn.specs.declared.outpoint.OutPoint.{OutPoint}
use Rattle.txn.specs.declared.output.TxOut.{TxOut}
use Rattle.coins.specs.declared.coin.Coin.{Coin}
use Rattle.coins.specs.Coins.{Coins, Layer, same}
use Rattle.undo.specs.Effect.{coin_of, without, with_coins, coins_at}
use Rattle.undo.specs.laws.Reversal.{AreCoins, AreNew}
use Rattle.undo.specs.laws.Effects.{coins_next, new_next, other_kept}

-- the item at a place begins the rest
pub drop_item : {A : Type 0} (xs : List A) (i : ℕ) (x : A) → i < length xs → x ≡ get_or xs i x → drop i xs ≡ x ∷ drop (i + 1) xs
drop_item xs i x h e = drop-cons xs i x h ∙ ap (λ y. y ∷ drop (suc i) xs) (sym e) ∙ ap (λ n. x ∷ drop n xs) (sym (add-one i))

still_at : (m : Coins) (p : OutPoint) (ps : List OutPoint) → AllByRecursion (λ y. same p y ≡ false) ps → coins_at m ps ≡ coins_at (coin_map.remove m p) ps
still_at m p [] d = refl
still_at m p (q ∷ ps) d =
    ap (λ (o : Option Coin). option_to_list o ++ coins_at m ps) (sym (other_kept m p q d.0))
    ∙ ap (λ cs. option_to_list (coin_map.get (coin_map.remove m p) q) ++ cs) (still_at m p ps d.1)

-- a coin that is taken, before others
pub taken-next : (m : Coins) (p : OutPoint) (ps : List OutPoint) (c : Coin) → IsDistinct same (p ∷ ps) → coin_map.get m p ≡ Some c → coins_at m (p ∷ ps) ≡ c ∷ coins_at (coin_map.remove m p) ps
unfolding IsDistinct
taken-next m p ps c once e =
    ap (λ (o : Option Coin). option_to_list o ++ coins_at m ps) e
    ∙ ap (λ cs. c ∷ cs) (still_at m p ps once.0)

abbrev pub there : Coins → OutPoint → Bool
there m p = is_some (coin_map.get m p)

still_there : (m : Coins) (p : OutPoint) (ps : List OutPoint) → AllByRecursion (λ y. same p y ≡ false) ps → list_all (there m) ps ≡ list_all (there (coin_map.remove m p)) ps
still_there m p [] d = refl
still_there m p (q ∷ ps) d =
    ap (λ (o : Option Coin). is_some o && list_all (there m) ps) (sym (other_kept m p q d.0))
    ∙ ap (λ b. there (coin_map.remove m p) q && b) (still_there m p ps d.1)

pub there-next : (m : Coins) (p : OutPoint) (ps : List OutPoint) (c : Coin) → IsDistinct same (p ∷ ps) → coin_map.get m p ≡ Some c → list_all (there m) (p ∷ ps) ≡ list_all (there (coin_map.remove m p)) ps
unfolding IsDistinct
there-next m p ps c once e =
    ap (λ (o : Option Coin). is_some o && list_all (there m) ps) e
    ∙ still_there m p ps once.0

pub all-there : (m : Coins) (ps : List OutPoint) → AllByRecursion (λ p. IsSome (coin_map.get m p)) ps → list_all (there m) ps ≡ true
all-there m [] a = refl
all-there m (p ∷ ps) a = ap (λ b. b && list_all (there m) ps) a.0 ∙ all-there m ps a.1

pub once-next : (p : OutPoint) (ps : List OutPoint) → IsDistinct same (p ∷ ps) → IsDistinct same ps
unfolding IsDistinct
once-next p ps once = once.1

-- an output that is added, if it can be a coin
abbrev pub first_and : Bool → OutPoint → TxOut → List (OutPoint × TxOut) → List (OutPoint × TxOut)
first_and b p o es = cond b [] ((p, o) ∷ []) ++ es

pub made_rest : (b : Bool) (m : Coins) (height : ℕ) (coinbase : Bool) (p : OutPoint) (o : TxOut) (es : List (OutPoint × TxOut))
    → AreNew m (map (λ x. (x.0, coin_of height coinbase x.1)) (first_and b p o es))
    → AreNew (cond b m (coin_map.insert m p (coin_of height coinbase o))) (map (λ x. (x.0, coin_of height coinbase x.1)) es)
made_rest true m height coinbase p o es h = h
made_rest false m height coinbase p o es h = new_next m p (coin_of height coinbase o) (map (λ x. (x.0, coin_of height coinbase x.1)) es) h

pub made_same : (b : Bool) (m : Coins) (height : ℕ) (coinbase : Bool) (p : OutPoint) (o : TxOut) (es : List (OutPoint × TxOut))
    → with_coins (cond b m (coin_map.insert m p (coin_of height coinbase o))) (map (λ x. (x.0, coin_of height coinbase x.1)) es)
    ≡ with_coins m (map (λ x. (x.0, coin_of height coinbase x.1)) (first_and b p o es))
made_same true m height coinbase p o es = refl
made_same false m height coinbase p o es = refl

-- an output that is taken away, if it can be a coin
pub gone_rest : (b : Bool) (m : Coins) (p : OutPoint) (o : TxOut) (es : List (OutPoint × TxOut)) → AreCoins m (keys_of (first_and b p o es)) → AreCoins (cond b m (coin_map.remove m p)) (keys_of es)
gone_rest true m p o es h = h
gone_rest false m p o es h = coins_next m p (keys_of es) h

pub gone_same : (b : Bool) (m : Coins) (p : OutPoint) (o : TxOut) (es : List (OutPoint × TxOut)) → without (cond b m (coin_map.remove m p)) (keys_of es) ≡ without m (keys_of (first_and b p o es))
gone_same true m p o es = refl
gone_same false m p o es = refl

pub on_ok : {T E : Type 0} {P Q : Type 0} (r : Result T E) → OnOk r P → (P → Q) → OnOk r Q
on_ok (Ok x) h f = f h
on_ok (Err x) h f = tt

pub if_ok : {T E : Type 0} {P Q : T → Type 0} (r : Result T E) → IfOk r P → ((x : T) → P x → Q x) → IfOk r Q
if_ok (Ok x) h f = f x h
if_ok (Err x) h f = tt

-- one step of a layer after another
pub two_steps : (f k : Coins → Coins) (l l1 l2 : Layer) → ◌≡◌ {A = Layer} l1 (record { base = l.base; coins = f l.coins }) → ◌≡◌ {A = Layer} l2 (record { base = l1.base; coins = k l1.coins }) → ◌≡◌ {A = Layer} l2 (record { base = l.base; coins = k (f l.coins) })
two_steps f k l l1 l2 h1 h2 = h2 ∙ ap (λ (x : Layer). let y : Layer = record { base = x.base; coins = k x.coins } in y) h1

pub to_coins : (l : Layer) (m n : Coins) → m ≡ n → ◌≡◌ {A = Layer} (record { base = l.base; coins = m }) (record { base = l.base; coins = n })
to_coins l m n h = ap (λ (x : Coins). let y : Layer = record { base = l.base; coins = x } in y) h
