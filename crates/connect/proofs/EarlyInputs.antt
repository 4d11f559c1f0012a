-- Early inputs, one after the other.
use Rattle.std.proofs.Common.{◌≡◌, ℕ, ◌+◌, ◌<◌, Bool, true, false, cond, if◌then◌else◌, List, [], ◌∷◌, ◌++◌, length, get_or, take, Option, Some, None, slice_get, refl, sym, ap, ◌∙◌, arith}
use Rattle.std.specs.Option.{option_or, option_and_then}
use Rattle.std.specs.List.{flat_map, enumerate_from}
use Rattle.std.specs.Map.{lookup}
use Rattle.std.specs.BTreeMap.{is_at}
use Rattle.std.specs.Ordering.{eq_by_cmp}
use Rattle.std.proofs.lemmas.Grind.{flat_map-append}
use Rattle.std.proofs.lemmas.List.{append-nil, length-take-le}
use Rattle.hash.specs.declared.id.Id.{Id}
use Rattle.txn.specs.Tx.{Tx}
use Rattle.txn.specs.Identity.{id_of}
use Rattle.queue.specs.Jobs.{Spending, Batch}
use Rattle.hash.specs.Id.{id_cmp}
use Rattle.connect.specs.Early.{with_id}
use Rattle.connect.specs.inside.Early.{ArePlaces}
use Rattle.connect.proofs.Steps.{take_item}
use Rattle.connect.proofs.Checks.{enumerate_push}

-- a batch with more inputs
abbrev pub with_more : Batch → List Spending → Batch
with_more b l = record { txs = b.txs; flags = b.flags; spendings = b.spendings ++ l }

-- what one more element of a list gives
pub numbered_next : {A B : Type 0} (f : ℕ × A → List B) (xs : List A) (i : ℕ) (x : A) → i < length xs → x ≡ get_or xs i x
    → flat_map f (enumerate_from 0 (take (i + 1) xs)) ≡ flat_map f (enumerate_from 0 (take i xs)) ++ f (i, x)
numbered_next f xs i x within is =
    let count : 0 + length (take i xs) ≡ i = omega (arith, length-take-le i xs (omega arith)) in
    ap (λ l. flat_map f (enumerate_from 0 l)) (take_item xs i x within is)
    ∙ ap (flat_map f) (enumerate_push 0 (take i xs) x ∙ ap (λ n. enumerate_from 0 (take i xs) ++ (n, x) ∷ []) count)
    ∙ flat_map-append f (enumerate_from 0 (take i xs)) ((i, x) ∷ [])
    ∙ ap (λ l. flat_map f (enumerate_from 0 (take i xs)) ++ l) (append-nil (f (i, x)))

-- the last one of an id, after one more
with_id-push : (txs : List Tx) (tx : Tx) (id : Id) → with_id (txs ++ tx ∷ []) id ≡ (if eq_by_cmp id_cmp (id_of tx) id then Some tx else with_id txs id)
with_id-push [] tx id = refl
with_id-push (t ∷ txs) tx id =
    ap (λ o. option_or o (if eq_by_cmp id_cmp (id_of t) id then Some t else None)) (with_id-push txs tx id) ∙ at (eq_by_cmp id_cmp (id_of tx) id)
  where
    at : (b : Bool) → option_or (if b then Some tx else with_id txs id) (if eq_by_cmp id_cmp (id_of t) id then Some t else None)
        ≡ (if b then Some tx else option_or (with_id txs id) (if eq_by_cmp id_cmp (id_of t) id then Some t else None))
    at true = refl
    at false = refl

-- the places, after one more
pub places_next : (all before : List Tx) (old new : List (Id × ℕ)) (place : ℕ) (tx : Tx) → slice_get all place ≡ Some tx
    → ((id : Id) → lookup (is_at (id_cmp id)) new ≡ cond {A = Option ℕ} (eq_by_cmp id_cmp (id_of tx) id) (Some place) (lookup (is_at (id_cmp id)) old))
    → ArePlaces all before old → ArePlaces all (before ++ tx ∷ []) new
places_next all before old new place tx there new_is are id =
    ap (option_and_then (slice_get all)) (new_is id) ∙ at (eq_by_cmp id_cmp (id_of tx) id) ∙ sym (with_id-push before tx id)
  where
    at : (b : Bool) → option_and_then (slice_get all) (cond {A = Option ℕ} b (Some place) (lookup (is_at (id_cmp id)) old)) ≡ (if b then Some tx else with_id before id)
    at true = there
    at false = are id

pub places_none : (all : List Tx) → ArePlaces all [] []
places_none all id = refl
