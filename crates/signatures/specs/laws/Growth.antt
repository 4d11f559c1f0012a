-- Which sets agree with what is known, and how that changes as more becomes known.
use Rattle.std.specs.Prelude.{◌≡◌, ◌↔◌, Bool, true, false, cond, Some, None, refl, ◌||◌}
use Rattle.std.proofs.Common.{ap, sym, ◌∙◌}
use Rattle.std.specs.Ordering.{eq_by_cmp, is_eq}
use Rattle.std.specs.Cmp.{Equal-is}
use Rattle.std.proofs.lemmas.Cmp.{tied_itself}
use Rattle.std.specs.FinSet as set
use Rattle.signatures.specs.Triple.{Triple, Triples, triple_cmp}
use Rattle.signatures.specs.Known.{Known, Agrees, Verdicts, AreApart, verdict_in, with_verdict}
use Rattle.signatures.specs.laws.Members.{same-members}
use Rattle.signatures.specs.laws.Order.{triple_cmp-total, triple_cmp-exact}

-- what was known is still known
abbrev pub Grows : Known → Known → Type 0
Grows before after = (t : Triple) → (valid : Bool) → before t ≡ Some valid → after t ≡ Some valid

same_some : {a b : Bool} → Some a ≡ Some b → a ≡ b
same_some e = ap (elim [ Some x ↦ x | None ↦ true ]) e

-- ---- a table
pub table-alone : (table triples : Triples) → Agrees (λ t. Some (set.contains table t)) triples ↔ triples ≡ table
table-alone table triples = (
  λ agrees. same-members triples table (λ t. agrees t (set.contains table t) refl),
  λ same t valid is. ap (λ s. set.contains s t) same ∙ same_some is,
)

-- ---- what was found out
yes-by : (a b : Bool) → a ≡ true → (cond a (Some true) (cond b (Some false) None)) ≡ Some true
yes-by true b is = refl
yes-by false b is = cc

no-by : (a b : Bool) → (a ≡ true → b ≡ false) → b ≡ true → (cond a (Some true) (cond b (Some false) None)) ≡ Some false
no-by true b apart is = cc (apart refl, is)
no-by false true apart is = refl
no-by false false apart is = cc

each-by : (a b c valid : Bool) → (a ≡ true → c ≡ true) → (b ≡ true → c ≡ false) → (cond a (Some true) (cond b (Some false) None)) ≡ Some valid → c ≡ valid
each-by true b c valid has lacks is = has refl ∙ same_some is
each-by false true c valid has lacks is = lacks refl ∙ same_some is
each-by false false c valid has lacks is = cc

-- a set agrees exactly where it has each triple that was found valid, and none that was found not to be
pub found-agrees : (found : Verdicts) → AreApart found.valid found.invalid → (triples : Triples) → Agrees (verdict_in found) triples
    ↔ ((t : Triple) → set.contains found.valid t ≡ true → set.contains triples t ≡ true) × ((t : Triple) → set.contains found.invalid t ≡ true → set.contains triples t ≡ false)
found-agrees found apart triples = (
  λ agrees. (
    λ t is. agrees t true (yes-by (set.contains found.valid t) (set.contains found.invalid t) is),
    λ t is. agrees t false (no-by (set.contains found.valid t) (set.contains found.invalid t) (apart t) is),
  ),
  λ both t valid is. each-by (set.contains found.valid t) (set.contains found.invalid t) (set.contains triples t) valid (both.0 t) (both.1 t) is,
)

-- ---- growth
pub agrees-with-less : (before after : Known) → Grows before after → (triples : Triples) → Agrees after triples → Agrees before triples
agrees-with-less before after grows triples agrees t valid was = agrees t valid (grows t valid was)

pub none-by : (a b : Bool) → (cond a (Some true) (cond b (Some false) None)) ≡ None → (a ≡ false) × (b ≡ false)
none-by true b is = cc
none-by false true is = cc
none-by false false is = (refl, refl)

-- where a triple is inserted
at-insert : (s : Triples) (t q : Triple) (e : Bool) → eq_by_cmp triple_cmp q t ≡ e → set.contains (set.insert s t) q ≡ (e || set.contains s q)
at-insert s t q e is = set.contains-insert triple_cmp-total s t q ∙ ap (λ b. b || set.contains s q) is

pub one-same : (q t : Triple) → eq_by_cmp triple_cmp q t ≡ true → q ≡ t
one-same q t tied = triple_cmp-exact q t ((Equal-is (triple_cmp q t)).0 tied)

-- a verdict more, where none was known: at that triple it is the one, and at others nothing changes
pub learnt-at : (found : Verdicts) (t : Triple) (valid : Bool) → verdict_in found t ≡ None → (q : Triple) (e : Bool) → eq_by_cmp triple_cmp q t ≡ e
    → verdict_in (with_verdict found t valid) q ≡ cond e (Some valid) (verdict_in found q)
learnt-at found t true none q true tied =
    ap (λ b. cond b (Some true) (cond (set.contains found.invalid q) (Some false) None)) (at-insert found.valid t q true tied)
learnt-at found t true none q false tied =
    ap (λ b. cond b (Some true) (cond (set.contains found.invalid q) (Some false) None)) (at-insert found.valid t q false tied)
learnt-at found t false none q true tied =
    let unknown = none-by (set.contains found.valid t) (set.contains found.invalid t) none in
    ap (λ b. cond b (Some true) (cond (set.contains (set.insert found.invalid t) q) (Some false) None)) (ap (set.contains found.valid) (one-same q t tied) ∙ unknown.0)
    ∙ ap (λ b. cond b (Some false) None) (at-insert found.invalid t q true tied)
learnt-at found t false none q false tied =
    ap (λ b. cond (set.contains found.valid q) (Some true) (cond b (Some false) None)) (at-insert found.invalid t q false tied)

pub learning-grows : (found : Verdicts) (t : Triple) (valid : Bool) → verdict_in found t ≡ None → Grows (verdict_in found) (verdict_in (with_verdict found t valid))
learning-grows found t valid none q was is = elim (eq_by_cmp triple_cmp q t) as (λ e. eq_by_cmp triple_cmp q t ≡ e → verdict_in (with_verdict found t valid) q ≡ Some was) [
  | true ↦ λ tied. let no : None ≡ Some was = sym none ∙ ap (verdict_in found) (sym (one-same q t tied)) ∙ is in cc
  | false ↦ λ other. learnt-at found t valid none q false other ∙ is
] refl

-- a set agrees after a verdict was learnt exactly where it agreed before and has that verdict
pub learning-agrees : (found : Verdicts) (t : Triple) (valid : Bool) → verdict_in found t ≡ None → (triples : Triples)
    → Agrees (verdict_in (with_verdict found t valid)) triples ↔ Agrees (verdict_in found) triples × (set.contains triples t ≡ valid)
learning-agrees found t valid none triples = (
  λ agrees. (
    agrees-with-less (verdict_in found) (verdict_in (with_verdict found t valid)) (learning-grows found t valid none) triples agrees,
    agrees t valid (learnt-at found t valid none t true (ap is_eq (tied_itself triple_cmp-total t))),
  ),
  λ both q was is. elim (eq_by_cmp triple_cmp q t) as (λ e. eq_by_cmp triple_cmp q t ≡ e → set.contains triples q ≡ was) [
    | true ↦ λ tied. ap (set.contains triples) (one-same q t tied) ∙ both.1 ∙ same_some (sym (learnt-at found t valid none q true tied) ∙ is)
    | false ↦ λ other. both.0 q was (sym (learnt-at found t valid none q false other) ∙ is)
  ] refl,
)
