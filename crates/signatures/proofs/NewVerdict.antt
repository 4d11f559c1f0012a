-- A verdict more leaves the two sets apart.
use Rattle.std.proofs.Common.{◌≡◌, Bool, true, false, ◌||◌, Result, Ok, Err, None, OnOk, OnErr, refl, ap, sym, ◌∙◌}
use Rattle.std.specs.Ordering.{eq_by_cmp}
use Rattle.std.specs.FinSet as set
use Rattle.signatures.specs.Triple.{Triple, Triples, triple_cmp}
use Rattle.signatures.specs.Known.{AreApart, verdict_in}
use Rattle.signatures.specs.laws.Order.{triple_cmp-total}
use Rattle.signatures.specs.laws.Growth.{none-by, one-same}

inserted : (s other : Triples) (t : Triple) → set.contains other t ≡ false → AreApart s other → AreApart (set.insert s t) other
inserted s other t not_there apart q is = by (eq_by_cmp triple_cmp q t) refl
  where
    by : (e : Bool) → eq_by_cmp triple_cmp q t ≡ e → set.contains other q ≡ false
    by true tied = ap (set.contains other) (one-same q t tied) ∙ not_there
    by false differs = apart q (sym (set.contains-insert triple_cmp-total s t q ∙ ap (λ b. b || set.contains s q) differs) ∙ is)

turned : (a b : Bool) → (a ≡ true → b ≡ false) → b ≡ true → a ≡ false
turned false b apart is = refl
turned true b apart is = cc (apart refl, is)

other-way : (s other : Triples) → AreApart s other → AreApart other s
other-way s other apart t is = turned (set.contains s t) (set.contains other t) (apart t) is

pub apart-valid : {T E : Type 0} → (r : Result T E) (valid invalid new : Triples) (t : Triple) → AreApart valid invalid → verdict_in (record { valid = valid; invalid = invalid }) t ≡ None
    → OnOk r (new ≡ set.insert valid t) → OnErr r (new ≡ valid) → AreApart new invalid
apart-valid (Ok _) valid invalid new t apart none ok err =
    rw ok (inserted valid invalid t (none-by (set.contains valid t) (set.contains invalid t) none).1 apart)
apart-valid (Err _) valid invalid new t apart none ok err = rw err apart

pub apart-invalid : {T E : Type 0} → (r : Result T E) (valid invalid new : Triples) (t : Triple) → AreApart valid invalid → verdict_in (record { valid = valid; invalid = invalid }) t ≡ None
    → OnOk r (new ≡ set.insert invalid t) → OnErr r (new ≡ invalid) → AreApart valid new
apart-invalid (Ok _) valid invalid new t apart none ok err =
    rw ok (other-way (set.insert invalid t) valid (inserted invalid valid t (none-by (set.contains valid t) (set.contains invalid t) none).0 (other-way valid invalid apart)))
apart-invalid (Err _) valid invalid new t apart none ok err = rw err apart
