-- The order of triples is total, and ties only a triple with itself.
use Rattle.std.specs.Prelude.{ℕ, List}
use Rattle.std.specs.declared.cmp.Ordering.{Ordering}
use Rattle.std.specs.Cmp.{IsTotalOrder}
use Rattle.std.specs.Cmp.Lexicographic.{slice_cmp}
use Rattle.std.specs.Ordering.{nat_cmp, ordering_then}
use Rattle.std.specs.FinSet.{IsAntisymmetric}
use Rattle.std.proofs.Common.{ap}
use Rattle.std.proofs.lemmas.Cmp.{then_total, on_total, nat_list_cmp_total}
use Rattle.std.proofs.lemmas.Map.Lookups.{exact_pairs, exact_bytes}
use Rattle.signatures.specs.Triple.{Triple, triple_of, triple_cmp}

pub triple_cmp-total : IsTotalOrder triple_cmp
triple_cmp-total = then_total (then_total (on_total (λ t. t.key) nat_list_cmp_total) (on_total (λ t. t.signature) nat_list_cmp_total)) (on_total (λ t. t.digest) nat_list_cmp_total)

pub triple_cmp-exact : IsAntisymmetric triple_cmp
triple_cmp-exact a b h =
    let as_triple : (List ℕ × List ℕ) × List ℕ → Triple = λ p. triple_of p.0.0 p.0.1 p.1 in
    let pair_cmp : List ℕ × List ℕ → List ℕ × List ℕ → Ordering = λ x y. ordering_then (slice_cmp nat_cmp x.0 y.0) (slice_cmp nat_cmp x.1 y.1) in
    let exact = exact_pairs (slice_cmp nat_cmp) (slice_cmp nat_cmp) exact_bytes exact_bytes in
    ap as_triple (exact_pairs pair_cmp (slice_cmp nat_cmp) exact exact_bytes ((a.key, a.signature), a.digest) ((b.key, b.signature), b.digest) h)
