-- A signature by a key over a digest, and the order in which a table keeps such triples.
use Rattle.std.specs.Prelude.{ℕ, List, refl}
use Rattle.std.specs.declared.cmp.Ordering.{Ordering}
use Rattle.std.specs.Ordering.{nat_cmp, ordering_then}
use Rattle.std.specs.Cmp.Lexicographic.{slice_cmp}
use Rattle.std.specs.FinSet as set
use Rattle.std.specs.Coded.{Coded, code_by, coded×, coded_ℕ, coded_list}

-- a key, a signature without its hash type, and a digest
pub record Triple : Type 0 where
  pub key : List ℕ
  pub signature : List ℕ
  pub digest : List ℕ

-- the triple of a key, a signature and a digest
abbrev pub triple_of : List ℕ → List ℕ → List ℕ → Triple
triple_of key signature digest = record { key = key; signature = signature; digest = digest }

-- by the keys, then by the signatures, then by the digests
abbrev pub triple_cmp : Triple → Triple → Ordering
triple_cmp a b = ordering_then (ordering_then (slice_cmp nat_cmp a.key b.key) (slice_cmp nat_cmp a.signature b.signature)) (slice_cmp nat_cmp a.digest b.digest)

-- a set of triples: the signatures that are valid
abbrev pub Triples : Type 0
Triples = set.FinSet triple_cmp

-- a triple is stored as the tuple of its parts
abbrev pub coded_triple : Coded Triple
coded_triple = code_by (List ℕ × (List ℕ × List ℕ)) (coded× (coded_list coded_ℕ) (coded× (coded_list coded_ℕ) (coded_list coded_ℕ))) (λ t. (t.key, (t.signature, t.digest))) (λ p. triple_of p.0 p.1.0 p.1.1) (λ _. refl)
