-- Rules of scripts that are compared one by one.
use Rattle.std.proofs.Common.{◌≡◌, ◌∙◌, Bool, true, false, ◌&&◌, refl, sym, ap}
use Rattle.std.proofs.Math.Bool.{beq}
use Rattle.std.specs.Cmp.Derive.{both_true}
use Rattle.interp.specs.declared.flags.Flags.{Flags}

both : (a b : Bool) → (a && b) ≡ true → (a ≡ true) × (b ≡ true)
both true b h = (refl, h)
both false b h = cc

same : (a b : Bool) → beq a b ≡ true → a ≡ b
same true true h = refl
same false false h = refl
same true false h = cc
same false true h = cc

itself : (a : Bool) → beq a a ≡ true
itself true = refl
itself false = refl

abbrev are_equal : Flags → Flags → Bool
are_equal a b =
    beq a.p2sh b.p2sh && (beq a.dersig b.dersig && (beq a.cltv b.cltv && (beq a.csv b.csv && beq a.nulldummy b.nulldummy)))

pub flags-same : (a b : Flags) → are_equal a b ≡ true → a ≡ b
flags-same a b h =
    let p2sh = both (beq a.p2sh b.p2sh) _ h in
    let dersig = both (beq a.dersig b.dersig) _ p2sh.1 in
    let cltv = both (beq a.cltv b.cltv) _ dersig.1 in
    let csv = both (beq a.csv b.csv) _ cltv.1 in
    ap (λ x. record a { p2sh = x }) (same _ _ p2sh.0)
    ∙ ap (λ x. record a { p2sh = b.p2sh; dersig = x }) (same _ _ dersig.0)
    ∙ ap (λ x. record b { cltv = x; csv = a.csv; nulldummy = a.nulldummy }) (same _ _ cltv.0)
    ∙ ap (λ x. record b { csv = x; nulldummy = a.nulldummy }) (same _ _ csv.0)
    ∙ ap (λ x. record b { nulldummy = x }) (same _ _ csv.1)

pub flags-again : (a b : Flags) → a ≡ b → are_equal a b ≡ true
flags-again a b h =
    ap (are_equal a) (sym h)
    ∙ both_true (itself a.p2sh) (both_true (itself a.dersig) (both_true (itself a.cltv) (both_true (itself a.csv) (itself a.nulldummy))))
