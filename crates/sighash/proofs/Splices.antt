-- Messages of hash type ALL, out of the flat spelling of their transaction.
use Rattle.std.proofs.Common.{◌≡◌, ℕ, zero, suc, ◌+◌, ◌-◌, ◌*◌, ◌/◌, ◌%◌, ◌<◌, ◌≤◌, inl, inr, ⊎_elim, IfSome, Option, Some, List, [], ◌∷◌, ◌++◌, length, map, take, drop, refl, sym, ap, ap₂, subst, ◌∙◌, append_assoc, arith}
use Rattle.std.specs.List.{flat_map}
use Rattle.std.proofs.Math.Seq.{drop-append_seam, take-add}
use Rattle.std.proofs.lemmas.Bool.{cases_lt}
use Rattle.std.proofs.lemmas.Nat.{mul-le}
use Rattle.std.proofs.lemmas.List.{drop-append-le, drop-drop, length-append, length-drop, length-take-le, take-append-drop, take-append-le, take_all, take_at}
use Rattle.hash.specs.Double.{double_sha}
use Rattle.lanes.specs.declared.midstate.Midstate.{Midstate}
use Rattle.lanes.specs.Midstate.{IsAfter, part}
use Rattle.wire.specs.Grammar.{number, sized_bytes, counted_list}
use Rattle.wire.specs.Numbers.{compact_size}
use Rattle.txn.specs.declared.input.TxIn.{TxIn}
use Rattle.txn.specs.Tx.{Tx}
use Rattle.txn.specs.Grammar.{input, outpoint, output}
use Rattle.sighash.specs.Digest.{digest_of, other_input, own_input}
use Rattle.sighash.specs.declared.ahead.Group.{Group}
use Rattle.sighash.specs.inside.Ahead.{AreDigests, AreGroups}
use Rattle.sighash.specs.inside.MessageFront.{among, beginning}
use Rattle.sighash.specs.inside.Flat.{IsFlat, behind, with_script}
use Rattle.sighash.proofs.Beginnings.{beginning_next, digest_from, slice_get-push}

-- ---- one input among the others

blank_spelled : (x : TxIn) → input.spell (other_input 1 x) ≡ outpoint.spell x.prev ++ (0 ∷ (number 4).spell x.sequence)
unfolding compact_size
blank_spelled x = refl

first_left : {A : Type 0} (xs : List A) (i : ℕ) → i < length xs → (x : A) × (drop i xs ≡ x ∷ drop (i + 1) xs)
first_left [] i lt = absurd (omega (arith, lt))
first_left (x ∷ xs) zero lt = (x, refl)
first_left (x ∷ xs) (suc i) lt =
    let next = first_left xs i (omega (arith, lt)) in
    let at : suc (i + 1) ≡ suc i + 1 = omega arith in
    (next.0, subst (λ (k : ℕ). drop i xs ≡ next.0 ∷ drop k (x ∷ xs)) at next.1)

abbrev others : List TxIn → List ℕ
others inputs = flat_map input.spell (map (other_input 1) inputs)

regroup_blank : (b o s r e : List ℕ) → (b ++ ((o ++ (0 ∷ s)) ++ r)) ++ e ≡ (b ++ o) ++ (0 ∷ (s ++ (r ++ e)))
regroup_blank b o s r e = simp append_assoc

regroup_own : (b o c s r x l k : List ℕ) → (((b ++ ((o ++ (c ++ s)) ++ r)) ++ x) ++ l) ++ k ≡ (b ++ o) ++ (c ++ (s ++ (r ++ ((x ++ l) ++ k))))
regroup_own b o c s r x l k = simp append_assoc

-- the spelling, cut at the empty script of input i
cut_at : (t : Tx) (i : ℕ) (x : TxIn) (rest : List TxIn) → i ≤ length t.inputs → drop i t.inputs ≡ x ∷ rest
    → beginning t (length t.inputs) ++ behind t ≡ (beginning t i ++ outpoint.spell x.prev) ++ (0 ∷ ((number 4).spell x.sequence ++ (others rest ++ behind t)))
cut_at t i x rest le e =
    let n : ℕ = length t.inputs in
    let all : i + (n - i) ≡ n = omega (arith, le) in
    let taken : take (n - i) (drop i t.inputs) ≡ x ∷ rest = take_all (n - i) (drop i t.inputs) (omega (arith, length-drop i t.inputs)) ∙ e in
    let grown : beginning t n ≡ beginning t i ++ ((outpoint.spell x.prev ++ (0 ∷ (number 4).spell x.sequence)) ++ others rest) =
    ap (beginning t) (sym all) ∙ sym (beginning_next t i (n - i)) ∙ ap (λ (l : List TxIn). beginning t i ++ others l) taken
    ∙ ap (λ (b : List ℕ). beginning t i ++ (b ++ others rest)) (blank_spelled x) in
    ap (λ (b : List ℕ). b ++ behind t) grown ∙ regroup_blank (beginning t i) (outpoint.spell x.prev) ((number 4).spell x.sequence) (others rest) (behind t)

-- where the empty script of input i is
empty_at : (t : Tx) (first i : ℕ) (x : TxIn) (rest : List TxIn) → ((k : ℕ) → k ≤ length t.inputs → first + 41 * k ≡ length (beginning t k)) → i < length t.inputs → drop i t.inputs ≡ x ∷ rest
    → length (beginning t i ++ outpoint.spell x.prev) ≡ length (beginning t i) + 36
empty_at t first i x rest places lt e =
    let o : List ℕ = outpoint.spell x.prev in
    let next : beginning t (i + 1) ≡ beginning t i ++ ((o ++ (0 ∷ (number 4).spell x.sequence)) ++ []) =
    sym (beginning_next t i 1) ∙ ap (λ (l : List TxIn). beginning t i ++ others (take 1 l)) e ∙ ap (λ (b : List ℕ). beginning t i ++ (b ++ [])) (blank_spelled x) in
    omega (
      arith,
      ap length next,
      places i (omega (arith, lt)),
      places (i + 1) (omega (arith, lt)),
      length-append (beginning t i) o,
      length-append (beginning t i) ((o ++ (0 ∷ (number 4).spell x.sequence)) ++ []),
      length-append (o ++ (0 ∷ (number 4).spell x.sequence)) [],
      length-append o (0 ∷ (number 4).spell x.sequence),
    )

-- with a code in its place
digest_at : (t : Tx) (i : ℕ) (x : TxIn) (rest : List TxIn) (code : List ℕ) → i < length t.inputs → drop i t.inputs ≡ x ∷ rest
    → double_sha ((beginning t i ++ outpoint.spell x.prev) ++ (sized_bytes.spell code ++ ((number 4).spell x.sequence ++ (others rest ++ behind t)))) ≡ digest_of t i code 1
unfolding compact_size
digest_at t i x rest code lt e =
    let none : i - i ≡ 0 = omega arith in
    let list : among 1 (i - i) code (drop i t.inputs) ≡ own_input code x ∷ map (other_input 1) rest = ap₂ (λ (k : ℕ) (l : List TxIn). among 1 k code l) none e in
    let b : List ℕ = beginning t i in
    let x_ : List ℕ = (counted_list output).spell t.outputs in
    let l : List ℕ = (number 4).spell t.lock_time in
    let k : List ℕ = (number 4).spell 1 in
    sym (
    ap (λ (inputs : List TxIn). double_sha ((((b ++ flat_map input.spell inputs) ++ x_) ++ l) ++ k)) list
    ∙ ap double_sha (regroup_own b (outpoint.spell x.prev) (sized_bytes.spell code) ((number 4).spell x.sequence) (others rest) x_ l k)
    ) ∙ digest_from t 1 i i code (omega arith) lt refl refl

-- ---- a message in parts

spliced : (flat s : List ℕ) (from a to : ℕ) → from ≤ a → a < to → to ≤ length flat
    → (take from flat ++ (take (a - from) (drop from flat) ++ (s ++ take (to - (a + 1)) (drop (a + 1) flat)))) ++ drop to flat ≡ take a flat ++ (s ++ drop (a + 1) flat)
spliced flat s from a to below lt room =
    let front : List ℕ = take from flat in
    let middle : List ℕ = take (a - from) (drop from flat) in
    let back : List ℕ = take (to - (a + 1)) (drop (a + 1) flat) in
    let reach : from + (a - from) ≡ a = omega (arith, below) in
    let end : a + 1 + (to - (a + 1)) ≡ to = omega (arith, lt) in
    let first : front ++ middle ≡ take a flat = sym (take-add from (a - from) flat) ∙ ap (λ (k : ℕ). take k flat) reach in
    let last : back ++ drop to flat ≡ drop (a + 1) flat =
    ap (λ (l : List ℕ). back ++ l) (ap (λ (k : ℕ). drop k flat) (sym end) ∙ sym (drop-drop (to - (a + 1)) (a + 1) flat)) ∙ take-append-drop (to - (a + 1)) (drop (a + 1) flat) in
    regrouped front middle s back (drop to flat) ∙ ap₂ (λ (x y : List ℕ). x ++ (s ++ y)) first last where
      regrouped : (p m s q e : List ℕ) → (p ++ (m ++ (s ++ q))) ++ e ≡ (p ++ m) ++ (s ++ (q ++ e))
      regrouped p m s q e = simp append_assoc

-- the digest of input i, whose message is cut at two places
pub own_digest : (t : Tx) (flat : List ℕ) (first from to i : ℕ) (code : List ℕ) → IsFlat t flat first → i < length t.inputs
    → from ≤ length (beginning t i) + 36 → length (beginning t i) + 36 < to → to ≤ length flat
    → double_sha ((take from flat ++ with_script flat from (length (beginning t i) + 36) to code) ++ drop to flat) ≡ digest_of t i code 1
own_digest t flat first from to i code is lt below above room =
    let one = first_left t.inputs i lt in
    let x : TxIn = one.0 in
    let rest : List TxIn = drop (i + 1) t.inputs in
    let s : List ℕ = sized_bytes.spell code in
    let front : List ℕ = beginning t i ++ outpoint.spell x.prev in
    let late : List ℕ = (number 4).spell x.sequence ++ (others rest ++ behind t) in
    let cut : flat ≡ front ++ (0 ∷ late) = is.0 ∙ cut_at t i x rest (omega (arith, lt)) one.1 in
    let at : length front ≡ length (beginning t i) + 36 = empty_at t first i x rest is.1 lt one.1 in
    let early : take (length (beginning t i) + 36) flat ≡ front = ap (take (length (beginning t i) + 36)) cut ∙ take_at front (0 ∷ late) (length (beginning t i) + 36) at in
    let after : drop (length (beginning t i) + 36 + 1) flat ≡ late =
    sym (drop-drop 1 (length (beginning t i) + 36) flat)
    ∙ ap (drop 1) (ap₂ drop (sym at) cut ∙ drop-append_seam front (0 ∷ late)) in
    ap double_sha (spliced flat s from (length (beginning t i) + 36) to below above room ∙ ap₂ (λ (a b : List ℕ). a ++ (s ++ b)) early after)
    ∙ digest_at t i x rest code lt one.1

pub length-with_script : (flat script : List ℕ) (from empty to : ℕ) → from ≤ empty → empty < to → to ≤ length flat
    → length (with_script flat from empty to script) ≡ to - from - 1 + length (sized_bytes.spell script)
length-with_script flat script from empty to below lt room =
    let a : List ℕ = take (empty - from) (drop from flat) in
    let b : List ℕ = take (to - (empty + 1)) (drop (empty + 1) flat) in
    omega (
      arith,
      below,
      lt,
      room,
      length-append a (sized_bytes.spell script ++ b),
      length-append (sized_bytes.spell script) b,
      length-take-le (empty - from) (drop from flat) (omega (arith, below, lt, room, length-drop from flat)),
      length-take-le (to - (empty + 1)) (drop (empty + 1) flat) (omega (arith, lt, room, length-drop (empty + 1) flat)),
    )

-- ---- parts one after the other

-- one part more
pub part_more : (own piece : List ℕ) (w l : ℕ) (f : ℕ → List ℕ) → length own ≡ l * w → length piece ≡ w → piece ≡ f l
    → ((j : ℕ) → j < l → take w (drop (j * w) own) ≡ f j) → (j : ℕ) → j < l + 1 → take w (drop (j * w) (own ++ piece)) ≡ f j
part_more own piece w l f len long is before j lt = elim (cases_lt j l) [
  | inl less ↦
      let room : j * w + w ≤ length own = omega (arith, len, mul_room j l w less) in
      ap (take w) (drop-append-le (j * w) own piece (omega (arith, room)))
      ∙ take-append-le w (drop (j * w) own) piece (omega (arith, room, length-drop (j * w) own)) ∙ before j less
  | inr ge ↦
      let e : j ≡ l = omega (arith, lt, ge) in
      ap (take w) (ap (λ (k : ℕ). drop k (own ++ piece)) (ap (λ (n : ℕ). n * w) e ∙ sym len) ∙ drop-append_seam own piece)
      ∙ take_all w piece (omega (arith, long)) ∙ is ∙ ap f (sym e)
] where
  mul_room : (j l w : ℕ) → j < l → j * w + w ≤ l * w
  mul_room j l w less = omega (arith, mul-le (j + 1) w l w (omega (arith, less)) (omega arith))

-- how long one is
pub length-piece : (flat code : List ℕ) (from empty to script len : ℕ) → from ≤ empty → empty < to → to ≤ length flat → length code ≡ len → script ≡ length (compact_size len) + len
    → length (with_script flat from empty to code) ≡ to + script - 1 - from
length-piece flat code from empty to script len below lt room long is =
    omega (
      arith,
      below,
      lt,
      length-with_script flat code from empty to below lt room,
      length-append (compact_size (length code)) code,
      ap (λ (n : ℕ). length (compact_size n)) long,
      long,
      is,
    )

-- taken in up to a place
pub taken : (m : Midstate) (flat lent : List ℕ) (fed from at : ℕ) → IsAfter m (take fed flat ++ take (from - fed) (drop fed lent)) → lent ≡ flat → fed % 64 ≡ 0 → fed ≤ at → from ≡ at / 64 * 64
    → IsAfter m (take from flat)
taken m flat lent fed from at held same whole below is =
    let reach : fed + (from - fed) ≡ from = omega (arith, whole, below, is) in
    subst (IsAfter m)
    (ap (λ (l : List ℕ). take fed flat ++ take (from - fed) (drop fed l)) same ∙ sym (take-add fed (from - fed) flat) ∙ ap (λ (k : ℕ). take k flat) reach)
    held

-- one group more
pub groups_push : (t : Tx) (groups : List (Option Group)) (found : Option Group) → AreGroups t groups → IfSome found (λ group. AreDigests t (8 * length groups) (part group.codes.items) group.digests) → AreGroups t (groups ++ found ∷ [])
groups_push t groups found before is g group at =
    ⊎_elim
    (λ there. before g group there)
    (λ (last : (g ≡ length groups) × (found ≡ Some group)).
    subst (λ (n : ℕ). AreDigests t (8 * n) (part group.codes.items) group.digests) (sym last.0)
    (subst (λ (f : Option Group). IfSome f (λ group. AreDigests t (8 * length groups) (part group.codes.items) group.digests)) last.1 is))
    (slice_get-push groups found g (Some group) at)

-- where the empty scripts of eight inputs are
pub within_eight : (t : Tx) (flat : List ℕ) (first n k end : ℕ) → IsFlat t flat first → n + 8 ≤ length t.inputs → k < 8 → end ≡ length (beginning t (n + 8))
    → (length (beginning t n) ≤ length (beginning t (n + k)) + 36) × (length (beginning t (n + k)) + 36 < end)
within_eight t flat first n k end is room lt at = (
  omega (arith, is.1 n (omega (arith, room)), is.1 (n + k) (omega (arith, room, lt))),
  omega (arith, at, is.1 (n + 8) room, is.1 (n + k) (omega (arith, room, lt)), lt),
)
