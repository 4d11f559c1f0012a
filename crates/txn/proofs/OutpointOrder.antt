-- Outpoints in order: one that stands at two places stands at two that follow each other.
use Rattle.std.proofs.Common.{◌≡◌, ℕ, ◌+◌, ◌-◌, ◌<◌, ◌≤◌, Bool, true, false, List, [], ◌∷◌, length, get_or, Ordering, Less, Equal, Greater, nat_cmp, is_lt, IsSorted, refl, sym, ap, ap₂, ◌∙◌, arith}
use Rattle.std.proofs.lemmas.Cmp.{on_total, then_total, nat_cmp_total, nat_list_cmp_total, tied_itself}
use Rattle.std.proofs.lemmas.List.{get_or_default}
use Rattle.std.proofs.lemmas.Map.Keys.{sorted_from_all_adjacent, Less-from_sorted, IsDistinct-from_apart}
use Rattle.std.proofs.lemmas.Map.Lookups.{exact_unsigned, exact_bytes}
use Rattle.std.specs.Cmp.{IsTotalOrder}
use Rattle.std.specs.Cmp.Lexicographic.{slice_cmp}
use Rattle.std.specs.Ordering.{on, then_cmp, ordering_then, ordering_reverse}
use Rattle.txn.specs.declared.outpoint.OutPoint.{OutPoint}
use Rattle.txn.specs.declared.input.TxIn.{TxIn}
use Rattle.txn.specs.Check.{same_outpoint, has_twice, prevs}
use Rattle.txn.specs.laws.Check.{same_outpoint-refl, same_outpoint-true, twice_from_places, not_twice}

-- by their ids, and then by their indices
abbrev pub outpoint_cmp : OutPoint → OutPoint → Ordering
outpoint_cmp = then_cmp (on (λ p. p.id.0) (slice_cmp nat_cmp)) (on (λ p. p.index) nat_cmp)

is_total : IsTotalOrder outpoint_cmp
is_total = then_total (on_total (λ (p : OutPoint). p.id.0) nat_list_cmp_total) (on_total (λ (p : OutPoint). p.index) nat_cmp_total)

both_equal : (o p : Ordering) → ordering_then o p ≡ Equal → (o ≡ Equal) × (p ≡ Equal)
both_equal Less p h = absurd cc
both_equal Equal p h = (refl, h)
both_equal Greater p h = absurd cc

tied : (a b : OutPoint) → outpoint_cmp a b ≡ Equal → a ≡ b
tied a b h =
    let two = both_equal (slice_cmp nat_cmp a.id.0 b.id.0) (nat_cmp a.index b.index) h in
    let made : List ℕ → ℕ → OutPoint = λ bytes index. record { id = record { 0 = bytes }; index = index } in
    ap₂ made (exact_bytes a.id.0 b.id.0 two.0) (exact_unsigned a.index b.index two.1)

only_less : (o p : Ordering) → o ≡ ordering_reverse p → is_lt p ≡ false → (o ≡ Equal → ⊥) → o ≡ Less
only_less o Less e q other = absurd cc
only_less o Equal e q other = absurd (other e)
only_less o Greater e q other = e

-- neighbours that differ rise
rises : (a b : OutPoint) → is_lt (outpoint_cmp b a) ≡ false → same_outpoint a b ≡ false → outpoint_cmp a b ≡ Less
rises a b up differ =
    only_less (outpoint_cmp a b) (outpoint_cmp b a) (is_total.antisymm a b) up
    (λ e. let same : true ≡ false = sym (same_outpoint-refl a) ∙ ap (same_outpoint a) (tied a b e) ∙ differ in cc)

apart : (a b : OutPoint) (t : Bool) → same_outpoint a b ≡ t → outpoint_cmp a b ≡ Less → t ≡ false
apart a b true same less =
    let e : Equal ≡ Less = sym (tied_itself is_total a) ∙ ap (outpoint_cmp a) (same_outpoint-true a b same) ∙ less in
    absurd cc
apart a b false same less = refl

pub none_twice : (ps : List OutPoint) → IsSorted outpoint_cmp ps → ((k : ℕ) (d : OutPoint) → k + 1 < length ps → same_outpoint (get_or ps k d) (get_or ps (k + 1) d) ≡ false) → has_twice ps ≡ false
none_twice ps sorted differ =
    not_twice ps (IsDistinct-from_apart same_outpoint ps
    (λ i j d less within.
    let up = sorted_from_all_adjacent is_total ps d (λ k h. rises (get_or ps k d) (get_or ps (k + 1) d) (sorted k d (omega arith) h) (differ k d h)) in
    apart (get_or ps i d) (get_or ps j d) (same_outpoint (get_or ps i d) (get_or ps j d)) refl (Less-from_sorted outpoint_cmp ps i j d up less within)))

pub neighbours : (ps : List OutPoint) (later : ℕ) (a b : OutPoint) → 1 ≤ later → later < length ps → a ≡ get_or ps (later - 1) a → b ≡ get_or ps later b → same_outpoint a b ≡ true → has_twice ps ≡ true
neighbours ps later a b ge lt ea eb same =
    let second : get_or ps later a ≡ b = get_or_default ps later a b lt ∙ sym eb in
    twice_from_places ps (later - 1) later a (omega (arith, ge)) lt (ap (λ (x : OutPoint). same_outpoint x (get_or ps later a)) (sym ea) ∙ ap (same_outpoint a) second ∙ same)

pub short : (inputs : List TxIn) → length inputs < 2 → has_twice (prevs inputs) ≡ false
short [] lt = refl
short (x ∷ []) lt = refl
short (x ∷ y ∷ inputs) lt = absurd (omega (arith, lt))
