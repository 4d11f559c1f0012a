-- What messages begin with, and what follows it.
use Rattle.std.proofs.Common.{◌≡◌, ◌⊎◌, inl, inr, ℕ, zero, suc, ◌+◌, ◌-◌, ◌*◌, ◌<◌, ◌≤◌, ◌||◌, ◌&&◌, if◌then◌else◌, nat_le, replicate, Bool, true, false, List, [], ◌∷◌, ◌++◌, length, map, take, drop, Option, Some, refl, sym, ap, ap₂, subst, ◌∙◌, append_assoc, ⊎_elim, arith}
use Rattle.std.specs.Prelude.{slice_get}
use Rattle.std.specs.List.{flat_map}
use Rattle.std.proofs.Math.Seq.{take-add}
use Rattle.std.proofs.lemmas.Grind.{flat_map-append}
use Rattle.std.proofs.lemmas.List.{map-append, drop-drop}
use Rattle.sha2.specs.declared.Sha256.{Sha256}
use Rattle.sha2.specs.Hashers.{Holds256}
use Rattle.hash.specs.Double.{double_sha}
use Rattle.wire.specs.Grammar.{number, signed32, counted_list}
use Rattle.wire.specs.Numbers.{compact_size}
use Rattle.txn.specs.declared.input.TxIn.{TxIn}
use Rattle.txn.specs.Tx.{Tx}
use Rattle.txn.specs.Grammar.{input, output, transaction}
use Rattle.sighash.specs.Kind.{frees_sequences, is_alone, is_none, is_single}
use Rattle.sighash.specs.Digest.{own_input, other_input, signed_inputs, signed_copy, digest_of}
use Rattle.sighash.specs.inside.MessageFront.{among, beginning, AreMidstates}
use Rattle.sighash.proofs.Inputs.{among_is, length-among}

-- ---- states

some_is : {A : Type 0} (x y : A) → ◌≡◌ {A = Option A} (Some x) (Some y) → x ≡ y
some_is x y h = cc

pub slice_get-push : {A : Type 0} (xs : List A) (x : A) (k : ℕ) (y : A) → slice_get (xs ++ x ∷ []) k ≡ Some y → (slice_get xs k ≡ Some y) ⊎ ((k ≡ length xs) × (x ≡ y))
slice_get-push [] x zero y h = inr (refl, some_is x y h)
slice_get-push [] x (suc k) y h = absurd cc
slice_get-push (z ∷ xs) x zero y h = inl h
slice_get-push (z ∷ xs) x (suc k) y h = ⊎_elim (λ is. inl is) (λ (is : (k ≡ length xs) × (x ≡ y)). inr (ap (λ n. suc n) is.0, is.1)) (slice_get-push xs x k y h)

pub no_states : (t : Tx) → AreMidstates t []
no_states t k state is = absurd cc

-- one state more
pub states_push : (t : Tx) (states : List Sha256) (state : Sha256) → AreMidstates t states → Holds256 state (beginning t (16 * (length states + 1))) → AreMidstates t (states ++ state ∷ [])
states_push t states state before holds k other is =
    ⊎_elim
    (λ there. before k other there)
    (λ (last : (k ≡ length states) × (state ≡ other)). subst (λ (s : Sha256). Holds256 s (beginning t (16 * (k + 1)))) last.1 (subst (λ (n : ℕ). Holds256 state (beginning t (16 * (n + 1)))) (sym last.0) holds))
    (slice_get-push states state k other is)

-- ---- inputs that follow

spelled : ℕ → List TxIn → List ℕ
spelled kind inputs = flat_map input.spell (map (other_input kind) inputs)

regroup : (v c a b : List ℕ) → (v ++ (c ++ a)) ++ b ≡ v ++ (c ++ (a ++ b))
regroup v c a b = simp append_assoc

-- with m inputs more
pub beginning_next : (t : Tx) (n m : ℕ) → beginning t n ++ flat_map input.spell (map (other_input 1) (take m (drop n t.inputs))) ≡ beginning t (n + m)
beginning_next t n m =
    let f : List TxIn → List TxIn = map (other_input 1) in
    let a : List TxIn = take n t.inputs in
    let b : List TxIn = take m (drop n t.inputs) in
    let v : List ℕ = signed32.spell t.version in
    let c : List ℕ = compact_size (length t.inputs) in
    regroup v c (flat_map input.spell (f a)) (flat_map input.spell (f b))
    ∙ ap (λ (x : List ℕ). v ++ (c ++ x)) (sym (flat_map-append input.spell (f a) (f b)))
    ∙ ap (λ (l : List TxIn). v ++ (c ++ flat_map input.spell l)) (sym (map-append (other_input 1) a b))
    ∙ ap (λ (l : List TxIn). v ++ (c ++ flat_map input.spell (f l))) (sym (take-add n m t.inputs))

alike : (kind : ℕ) (x : TxIn) → frees_sequences kind ≡ false → other_input 1 x ≡ other_input kind x
alike kind x signs = rw signs refl

others_alike : (kind : ℕ) (inputs : List TxIn) → frees_sequences kind ≡ false → map (other_input 1) inputs ≡ map (other_input kind) inputs
others_alike kind [] signs = refl
others_alike kind (x ∷ inputs) signs = ap₂ (λ (y : TxIn) (ys : List TxIn). y ∷ ys) (alike kind x signs) (others_alike kind inputs signs)

joined : (a b o l : List TxIn) → a ++ ((b ++ o) ++ l) ≡ ((a ++ b) ++ o) ++ l
joined a b o l = simp append_assoc

-- the signed input among those from number k on is that among all
among_from : (kind k m : ℕ) (code : List ℕ) (inputs : List TxIn) → map (other_input kind) (take k inputs) ++ among kind m code (drop k inputs) ≡ among kind (k + m) code inputs
among_from kind k m code inputs =
    let f : List TxIn → List TxIn = map (other_input kind) in
    let a : List TxIn = take k inputs in
    let b : List TxIn = take m (drop k inputs) in
    let o : List TxIn = map (own_input code) (take 1 (drop (k + m) inputs)) in
    let late : List TxIn = f (drop (k + m + 1) inputs) in
    let own : drop m (drop k inputs) ≡ drop (k + m) inputs = drop-drop m k inputs in
    let rest : drop (m + 1) (drop k inputs) ≡ drop (k + m + 1) inputs = drop-drop (m + 1) k inputs ∙ ap (λ (n : ℕ). drop n inputs) (omega arith) in
    ap (λ (l : List TxIn). f a ++ ((f b ++ map (own_input code) (take 1 l)) ++ f (drop (m + 1) (drop k inputs)))) own
    ∙ ap (λ (l : List TxIn). f a ++ ((f b ++ o) ++ f l)) rest
    ∙ joined (f a) (f b) o late
    ∙ ap (λ (l : List TxIn). (l ++ o) ++ late) (sym (map-append (other_input kind) a b))
    ∙ ap (λ (l : List TxIn). (f l ++ o) ++ late) (sym (take-add k m inputs))

-- ---- whole messages

inputs_of : (t : Tx) (kind from n : ℕ) (code : List ℕ) → from ≤ n → n < length t.inputs → is_alone kind ≡ false → frees_sequences kind ≡ false
    → beginning t from ++ flat_map input.spell (among kind (n - from) code (drop from t.inputs)) ≡ signed32.spell t.version ++ (counted_list input).spell (signed_inputs kind n code t.inputs)
inputs_of t kind from n code le lt others signs =
    let v : List ℕ = signed32.spell t.version in
    let c : List ℕ = compact_size (length t.inputs) in
    let a : List TxIn = map (other_input kind) (take from t.inputs) in
    let b : List TxIn = among kind (n - from) code (drop from t.inputs) in
    let all : List TxIn = among kind n code t.inputs in
    let whole : a ++ b ≡ all = among_from kind from (n - from) code t.inputs ∙ ap (λ (k : ℕ). among kind k code t.inputs) (omega (arith, le)) in
    ap (λ (l : List TxIn). (v ++ (c ++ flat_map input.spell l)) ++ flat_map input.spell b) (others_alike kind (take from t.inputs) signs)
    ∙ regroup v c (flat_map input.spell a) (flat_map input.spell b)
    ∙ ap (λ (x : List ℕ). v ++ (c ++ x)) (sym (flat_map-append input.spell a b))
    ∙ ap (λ (l : List TxIn). v ++ (c ++ flat_map input.spell l)) whole
    ∙ ap (λ (k : ℕ). v ++ (compact_size k ++ flat_map input.spell all)) (sym (length-among kind n code t.inputs lt))
    ∙ ap (λ (l : List TxIn). v ++ (compact_size (length l) ++ flat_map input.spell l)) (sym (among_is kind n code t.inputs others))

end : (v i o l k : List ℕ) → (((v ++ i) ++ o) ++ l) ++ k ≡ (v ++ (i ++ (o ++ l))) ++ k
end v i o l k = simp append_assoc

none_false : (kind : ℕ) → frees_sequences kind ≡ false → is_none kind ≡ false
none_false kind signs = left (is_none kind) (is_single kind) signs where
  left : (a b : Bool) → (a || b) ≡ false → a ≡ false
  left true b h = h
  left false b h = refl

single_false : (kind : ℕ) → frees_sequences kind ≡ false → is_single kind ≡ false
single_false kind signs = right (is_none kind) (is_single kind) signs where
  right : (a b : Bool) → (a || b) ≡ false → b ≡ false
  right true b h = absurd cc
  right false b h = h

-- of a hash type that isn't SINGLE
digest_is : (t : Tx) (kind n : ℕ) (code : List ℕ) → is_single kind ≡ false → double_sha (transaction.spell (signed_copy t n code kind) ++ (number 4).spell kind) ≡ digest_of t n code kind
digest_is t kind n code other =
    let whole : List ℕ = double_sha (transaction.spell (signed_copy t n code kind) ++ (number 4).spell kind) in
    sym (ap (λ (b : Bool). if b && nat_le (length t.outputs) n then 1 ∷ replicate 31 0 else whole) other)

pub digest_from : (t : Tx) (kind from n : ℕ) (code : List ℕ) → from ≤ n → n < length t.inputs → is_alone kind ≡ false → frees_sequences kind ≡ false
    → double_sha ((((beginning t from ++ flat_map input.spell (among kind (n - from) code (drop from t.inputs))) ++ (counted_list output).spell t.outputs) ++ (number 4).spell t.lock_time) ++ (number 4).spell kind)
    ≡ digest_of t n code kind
digest_from t kind from n code le lt others signs =
    let i : List ℕ = (counted_list input).spell (signed_inputs kind n code t.inputs) in
    let o : List ℕ = (counted_list output).spell t.outputs in
    let l : List ℕ = (number 4).spell t.lock_time in
    let k : List ℕ = (number 4).spell kind in
    let message : ((((signed32.spell t.version ++ i) ++ o) ++ l) ++ k) ≡ transaction.spell (signed_copy t n code kind) ++ k = rw (none_false kind signs, single_false kind signs) (end (signed32.spell t.version) i o l k) in
    ap (λ (x : List ℕ). double_sha (((x ++ o) ++ l) ++ k)) (inputs_of t kind from n code le lt others signs) ∙ ap double_sha message ∙ digest_is t kind n code (single_false kind signs)
