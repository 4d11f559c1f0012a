-- The inputs of the signed copy, and the bytes that are fed for them.
use Rattle.std.proofs.Common.{◌≡◌, ℕ, zero, suc, ◌+◌, ◌<◌, true, false, List, [], ◌∷◌, ◌++◌, length, map, take, drop, get_or, refl, sym, ap, ◌∙◌, append_assoc, arith}
use Rattle.std.specs.List.{flat_map}
use Rattle.std.proofs.lemmas.Grind.{flat_map-append}
use Rattle.std.proofs.lemmas.List.{append-nil, length-append, length-map, length-take, length-drop, drop-drop}
use Rattle.wire.specs.Numbers.{compact_size}
use Rattle.txn.specs.declared.input.TxIn.{TxIn}
use Rattle.txn.specs.Grammar.{input}
use Rattle.sighash.specs.Kind.{is_alone}
use Rattle.sighash.specs.Digest.{own_input, other_input, signed_inputs}
use Rattle.sighash.specs.inside.MessageFront.{among}

one_item : {X : Type 0} (xs : List X) (x : X) → length xs ≡ 1 → x ≡ get_or xs 0 x → xs ≡ x ∷ []
one_item [] x len is = absurd (omega (arith, len))
one_item {X = X} (y ∷ []) x len is = ap (λ (z : X). z ∷ []) (sym is)
one_item (y ∷ z ∷ zs) x len is = absurd (omega (arith, len))

one_at : {X : Type 0} (xs : List X) (n : ℕ) (x : X) → n < length xs → x ≡ get_or xs n x → take 1 (drop n xs) ≡ x ∷ []
one_at [] n x lt is = absurd (omega (arith, lt))
one_at {X = X} (y ∷ xs) zero x lt is = ap (λ (z : X). z ∷ []) (sym is)
one_at (y ∷ xs) (suc n) x lt is = one_at xs n x (omega (arith, lt)) is

-- the inputs in three parts, of which the middle one is the signed input
pub record Cut (n : ℕ) (inputs before rest signed after : List TxIn) (x : TxIn) : Type 0 where
  pub front : before ≡ take n inputs
  pub back : rest ≡ drop n inputs
  pub first : signed ≡ take 1 rest
  pub others : after ≡ drop 1 rest
  pub long : length signed ≡ 1
  pub is : x ≡ get_or signed 0 x

middle : (n : ℕ) (inputs before rest signed after : List TxIn) (x : TxIn) → Cut n inputs before rest signed after x → take 1 (drop n inputs) ≡ x ∷ []
middle n inputs before rest signed after x c = ap (take 1) (sym c.back) ∙ sym c.first ∙ one_item signed x c.long c.is

behind : (n : ℕ) (inputs before rest signed after : List TxIn) (x : TxIn) → Cut n inputs before rest signed after x → drop (n + 1) inputs ≡ after
behind n inputs before rest signed after x c = sym (c.others ∙ ap (drop 1) c.back ∙ drop-drop 1 n inputs)

three_spelled : (a b : List TxIn) (o : TxIn) → flat_map input.spell ((a ++ o ∷ []) ++ b) ≡ (flat_map input.spell a ++ input.spell o) ++ flat_map input.spell b
three_spelled a b o =
    flat_map-append input.spell (a ++ o ∷ []) b
    ∙ ap (λ (t : List ℕ). t ++ flat_map input.spell b) (flat_map-append input.spell a (o ∷ []) ∙ ap (λ (t : List ℕ). flat_map input.spell a ++ t) (append-nil (input.spell o)))

regroup : (fed a o b : List ℕ) → ((fed ++ a) ++ o) ++ b ≡ fed ++ ((a ++ o) ++ b)
regroup fed a o b = simp append_assoc

pub fed_among : (kind n : ℕ) (code fed : List ℕ) (inputs before rest signed after : List TxIn) (x : TxIn) → Cut n inputs before rest signed after x
    → ((fed ++ flat_map input.spell (map (other_input kind) before)) ++ input.spell (own_input code x)) ++ flat_map input.spell (map (other_input kind) after)
    ≡ fed ++ flat_map input.spell (among kind n code inputs)
fed_among kind n code fed inputs before rest signed after x c =
    let a : List TxIn = map (other_input kind) before in
    let o : TxIn = own_input code x in
    let b : List TxIn = map (other_input kind) after in
    let list : among kind n code inputs ≡ (a ++ o ∷ []) ++ b = rw (← c.front, middle n inputs before rest signed after x c, behind n inputs before rest signed after x c) refl in
    regroup fed (flat_map input.spell a) (input.spell o) (flat_map input.spell b)
    ∙ ap (λ (t : List ℕ). fed ++ t) (sym (three_spelled a b o))
    ∙ ap (λ (l : List TxIn). fed ++ flat_map input.spell l) (sym list)

pub fed_alone : (kind n : ℕ) (code fed : List ℕ) (inputs : List TxIn) (x : TxIn) → n < length inputs → x ≡ get_or inputs n x → is_alone kind ≡ true
    → (fed ++ compact_size 1) ++ input.spell (own_input code x) ≡ fed ++ (compact_size (length (signed_inputs kind n code inputs)) ++ flat_map input.spell (signed_inputs kind n code inputs))
fed_alone kind n code fed inputs x lt is alone =
    let list : signed_inputs kind n code inputs ≡ own_input code x ∷ [] = rw alone (ap (map (own_input code)) (one_at inputs n x lt is)) in
    rw list (append_assoc fed (compact_size 1) (input.spell (own_input code x)) ∙ ap (λ (t : List ℕ). fed ++ (compact_size 1 ++ t)) (sym (append-nil (input.spell (own_input code x)))))

pub length-among : (kind n : ℕ) (code : List ℕ) (inputs : List TxIn) → n < length inputs → length (among kind n code inputs) ≡ length inputs
length-among kind n code inputs lt =
    let a : List TxIn = map (other_input kind) (take n inputs) in
    let o : List TxIn = map (own_input code) (take 1 (drop n inputs)) in
    let b : List TxIn = map (other_input kind) (drop (n + 1) inputs) in
    omega (
      arith,
      lt,
      length-append (a ++ o) b,
      length-append a o,
      length-map (take n inputs) (other_input kind),
      length-map (take 1 (drop n inputs)) (own_input code),
      length-map (drop (n + 1) inputs) (other_input kind),
      length-take n inputs,
      length-take 1 (drop n inputs),
      length-drop n inputs,
      length-drop (n + 1) inputs,
    )

pub among_is : (kind n : ℕ) (code : List ℕ) (inputs : List TxIn) → is_alone kind ≡ false → signed_inputs kind n code inputs ≡ among kind n code inputs
among_is kind n code inputs others = rw others refl

-- after their count
pub fed_counted : (kind n : ℕ) (code fed : List ℕ) (inputs : List TxIn) → n < length inputs → is_alone kind ≡ false
    → (fed ++ compact_size (length inputs)) ++ flat_map input.spell (among kind n code inputs)
    ≡ fed ++ (compact_size (length (signed_inputs kind n code inputs)) ++ flat_map input.spell (signed_inputs kind n code inputs))
fed_counted kind n code fed inputs lt others =
    let listed : List TxIn = among kind n code inputs in
    append_assoc fed (compact_size (length inputs)) (flat_map input.spell listed)
    ∙ ap (λ (k : ℕ). fed ++ (compact_size k ++ flat_map input.spell listed)) (sym (length-among kind n code inputs lt))
    ∙ ap (λ (l : List TxIn). fed ++ (compact_size (length l) ++ flat_map input.spell l)) (sym (among_is kind n code inputs others))
