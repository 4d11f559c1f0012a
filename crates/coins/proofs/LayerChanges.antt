-- The list of what a layer's entries change.
use Rattle.std.proofs.Common.{◌≡◌, ◌↔◌, IsTrue, Bool, true, false, cond, [], ◌∷◌, Option, Some, None, MatchOption, ◌⊎◌, inl, inr, refl, sym, ap, subst, ◌∙◌}
use Rattle.std.specs.Prelude.{not}
use Rattle.std.specs.FinMap as map
use Rattle.std.specs.Map.{keys_of}
use Rattle.std.specs.Map.Calls.{RetainsPairs}
use Rattle.std.specs.List.{AllByRecursion, IsDistinct}
use Rattle.std.specs.List.Sorted.{IsStrictlySortedBy}
use Rattle.std.proofs.lemmas.Map.Keys.{IsDistinct-from_sorted}
use Rattle.txn.specs.declared.outpoint.OutPoint.{OutPoint}
use Rattle.coins.specs.declared.entry.CacheEntry.{CacheEntry}
use Rattle.coins.specs.declared.entry.CacheEntry.TheVariants.{Clean, Dirty, Fresh}
use Rattle.coins.specs.Coins.{Coin, Coins, outpoint_cmp, same}
use Rattle.coins.specs.Entries.{Entries, stands, over, entry_at, MarkHolds, IsSound, named, own_coin}
use Rattle.coins.specs.Changes.{Changes, change_at, AreChanges}
use Rattle.coins.specs.inside.Changes.{IsAsBelow, AreChanging}
use Rattle.coins.specs.laws.Lookups.{same-true, same-self}
use Rattle.coins.proofs.Layers.{stands_at, get-over}

-- each entry's mark holds, by itself
abbrev pub MarksOf : Coins → Entries → Type 0
MarksOf m es = AllByRecursion (λ e. MarkHolds (Some e.1) (map.get m e.0)) es

absent : (k : OutPoint) (es : Entries) → AllByRecursion (λ y. same k y ≡ false) (keys_of es) → entry_at es k ≡ None
absent k [] a = refl
absent k (e ∷ es) a = ap (λ b. cond b (Some e.1) (entry_at es k)) a.0 ∙ absent k es a.1

mark_self : (b : Bool) (e : CacheEntry) (o : Option CacheEntry) (below : Option Coin) → b ≡ true → MarkHolds (cond b (Some e) o) below → MarkHolds (Some e) below
mark_self true e o below h mark = mark
mark_self false e o below h mark = cc

mark_rest : (b : Bool) (k q : OutPoint) (e : CacheEntry) (es : Entries) (below : Option Coin) → same q k ≡ b → entry_at es k ≡ None → MarkHolds (cond b (Some e) (entry_at es q)) below → MarkHolds (entry_at es q) below
mark_rest true k q e es below h none mark = subst (λ o. MarkHolds o below) (sym (ap (entry_at es) (same-true q k h) ∙ none)) tt
mark_rest false k q e es below h none mark = mark

marks_of : (m : Coins) (es : Entries) → IsDistinct same (keys_of es) → ((q : OutPoint) → MarkHolds (entry_at es q) (map.get m q)) → MarksOf m es
unfolding IsDistinct
marks_of m [] d h = tt
marks_of m (e ∷ es) d h = (
  mark_self (same e.0 e.0) e.1 (entry_at es e.0) (map.get m e.0) (same-self e.0) (h e.0),
  marks_of m es d.1 (λ q. mark_rest (same q e.0) e.0 q e.1 es (map.get m q) refl (absent e.0 es d.0) (h q)),
)

pub marks-sound : (m : Coins) (es : Entries) → IsStrictlySortedBy outpoint_cmp (keys_of es) → IsSound m es → MarksOf m es
marks-sound m es ordered sound = marks_of m es (IsDistinct-from_sorted outpoint_cmp (keys_of es) ordered) sound.marks

-- cs has, of these entries, those at which something else stands than below
unfoldable Lists : Coins → Entries → Changes → Type 0
Lists m [] cs = cs ≡ []
Lists m (e ∷ es) cs =
    ((stands e.1 (map.get m e.0) ≡ map.get m e.0) × Lists m es cs)
    ⊎ ((ds : Changes) × (cs ≡ (e.0, stands e.1 (map.get m e.0)) ∷ ds) × (¬ (stands e.1 (map.get m e.0) ≡ map.get m e.0)) × Lists m es ds)

stays : (e : CacheEntry) (below : Option Coin) → IsAsBelow e below → stands e below ≡ below
stays Clean below h = refl
stays (Dirty coin) below h = h
stays (Fresh coin) below h = absurd h

moves : (e : CacheEntry) (below : Option Coin) → MarkHolds (Some e) below → ¬ IsAsBelow e below → ¬ (stands e below ≡ below)
moves Clean below mark h = absurd (h tt)
moves (Dirty coin) below mark h = h
moves (Fresh coin) below mark h = λ same_as_below. let no : Some coin ≡ None = same_as_below ∙ mark in cc

own : (e : CacheEntry) (below : Option Coin) → ¬ IsAsBelow e below → own_coin (Some e) ≡ stands e below
own Clean below h = absurd (h tt)
own (Dirty coin) below h = refl
own (Fresh coin) below h = refl

-- what the changing entries name is that list
lists-named : (m : Coins) (es fs : Entries) → MarksOf m es → AreChanging m es fs → Lists m es (named fs)
unfolding AreChanging Lists
lists-named m [] fs marks l = ap named l
lists-named m (e ∷ es) fs marks l = elim l [
  | inl h ↦ inl (stays e.1 (map.get m e.0) h.0, lists-named m es fs marks.1 h.1)
  | inr h ↦ inr (
    named h.0,
    ap named h.1 ∙ ap (λ (w : Option Coin). (e.0, w) ∷ named h.0) (own e.1 (map.get m e.0) h.2),
    moves e.1 (map.get m e.0) marks.0 h.2,
    lists-named m es h.0 marks.1 h.3,
  )
]

-- what the list names at an outpoint, where this stands there now
abbrev NamesRight : Option Coin → Option Coin → Option (Option Coin) → Type 0
NamesRight below now o = MatchOption o (now ≡ below) (λ w. (w ≡ now) × (¬ (now ≡ below)))

names_alike : (o : Option (Option Coin)) (below now : Option Coin) → NamesRight below below o → now ≡ below → NamesRight below now o
names_alike None below now h e = e
names_alike (Some w) below now h e = absurd (h.1 refl)

skip_here : (b : Bool) (m : Coins) (k q : OutPoint) (e : CacheEntry) (es : Entries) (o : Option (Option Coin)) → same q k ≡ b → entry_at es k ≡ None
    → stands e (map.get m k) ≡ map.get m k → NamesRight (map.get m q) (stands_at (entry_at es q) (map.get m q)) o
    → NamesRight (map.get m q) (stands_at (cond b (Some e) (entry_at es q)) (map.get m q)) o
skip_here true m k q e es o h none alike right =
    let one = same-true q k h in
    names_alike o (map.get m q) (stands e (map.get m q))
    (subst (λ (x : Option CacheEntry). NamesRight (map.get m q) (stands_at x (map.get m q)) o) (ap (entry_at es) one ∙ none) right)
    (ap (λ x. stands e (map.get m x)) one ∙ alike ∙ sym (ap (map.get m) one))
skip_here false m k q e es o h none alike right = right

push_here : (b : Bool) (m : Coins) (k q : OutPoint) (e : CacheEntry) (o : Option CacheEntry) (p : Option (Option Coin)) → same q k ≡ b
    → ¬ (stands e (map.get m k) ≡ map.get m k) → NamesRight (map.get m q) (stands_at o (map.get m q)) p
    → NamesRight (map.get m q) (stands_at (cond b (Some e) o) (map.get m q)) (cond b (Some (stands e (map.get m k))) p)
push_here true m k q e o p h differs right =
    let one = same-true q k h in (
      ap (λ x. stands e (map.get m x)) (sym one),
      (λ x. differs (ap (λ y. stands e (map.get m y)) (sym one) ∙ x ∙ ap (map.get m) one)),
    )
push_here false m k q e o p h differs right = right

names_right : (m : Coins) (es : Entries) (cs : Changes) (q : OutPoint) → IsDistinct same (keys_of es) → Lists m es cs
    → NamesRight (map.get m q) (stands_at (entry_at es q) (map.get m q)) (change_at cs q)
unfolding Lists IsDistinct
names_right m [] cs q d l = subst (λ (x : Changes). NamesRight (map.get m q) (map.get m q) (change_at x q)) (sym l) refl
names_right m (e ∷ es) cs q d l = elim l [
  | inl h ↦ skip_here (same q e.0) m e.0 q e.1 es (change_at cs q) refl (absent e.0 es d.0) h.0 (names_right m es cs q d.1 h.1)
  | inr h ↦ subst (λ (x : Changes). NamesRight (map.get m q) (stands_at (entry_at (e ∷ es) q) (map.get m q)) (change_at x q)) (sym h.1)
      (push_here (same q e.0) m e.0 q e.1 (entry_at es q) (change_at h.0 q) refl h.2 (names_right m es h.0 q d.1 h.3))
]

all_listed : (P : OutPoint → Type 0) (m : Coins) (es : Entries) (cs : Changes) → Lists m es cs → AllByRecursion P (keys_of es) → AllByRecursion P (keys_of cs)
unfolding Lists
all_listed P m [] cs l a = subst (λ (x : Changes). AllByRecursion P (keys_of x)) (sym l) tt
all_listed P m (e ∷ es) cs l a = elim l [
  | inl h ↦ all_listed P m es cs h.1 a.1
  | inr h ↦ subst (λ (x : Changes). AllByRecursion P (keys_of x)) (sym h.1) (a.0, all_listed P m es h.0 h.3 a.1)
]

in_order : (m : Coins) (es : Entries) (cs : Changes) → Lists m es cs → IsStrictlySortedBy outpoint_cmp (keys_of es) → IsStrictlySortedBy outpoint_cmp (keys_of cs)
unfolding Lists IsStrictlySortedBy
in_order m [] cs l s = subst (λ (x : Changes). IsStrictlySortedBy outpoint_cmp (keys_of x)) (sym l) tt
in_order m (e ∷ es) cs l s = elim l [
  | inl h ↦ in_order m es cs h.1 s.1
  | inr h ↦ subst (λ (x : Changes). IsStrictlySortedBy outpoint_cmp (keys_of x)) (sym h.1)
      (all_listed (λ y. outpoint_cmp e.0 y ≡ _) m es h.0 h.3 s.0, in_order m es h.0 h.3 s.1)
]

differ_from : (o : Option (Option Coin)) (below now w : Option Coin) → NamesRight below now o → o ≡ Some w → (w ≡ now) × ¬ (now ≡ below)
differ_from None below now w h e = cc
differ_from (Some v) below now w h e =
    let p : Some v ≡ Some w = e in
    let q : v ≡ w = cc in
    (sym q ∙ h.0, h.1)

others_from : (o : Option (Option Coin)) (below now : Option Coin) → NamesRight below now o → o ≡ None → now ≡ below
others_from None below now h e = h
others_from (Some v) below now h e = cc

changes_of : (m : Coins) (es : Entries) (cs : Changes) → IsStrictlySortedBy outpoint_cmp (keys_of es) → Lists m es cs → AreChanges m (over m es) cs
changes_of m es cs s l =
    let right : (q : OutPoint) → NamesRight (map.get m q) (map.get (over m es) q) (change_at cs q)
    = λ q. subst (λ (x : Option Coin). NamesRight (map.get m q) x (change_at cs q)) (sym (get-over m es q)) (names_right m es cs q (IsDistinct-from_sorted outpoint_cmp (keys_of es) s) l) in
    record {
      in_order = in_order m es cs l s;
      differ = λ q w e. differ_from (change_at cs q) (map.get m q) (map.get (over m es) q) w (right q) e;
      others = λ q e. others_from (change_at cs q) (map.get m q) (map.get (over m es) q) (right q) e;
    }

pub are_changes : (m : Coins) (es fs : Entries) → IsStrictlySortedBy outpoint_cmp (keys_of es) → IsSound m es → AreChanging m es fs → AreChanges m (over m es) (named fs)
are_changes m es fs s sound l = changes_of m es (named fs) s (lists-named m es fs (marks-sound m es s sound) l)

by_answer : (b : Bool) (m : Coins) (e : OutPoint × CacheEntry) (es fs gs : Entries) (w : CacheEntry) → (IsTrue (not b) ↔ IsAsBelow e.1 (map.get m e.0))
    → w ≡ e.1 → fs ≡ cond b ((e.0, w) ∷ gs) gs → AreChanging m es gs → AreChanging m (e ∷ es) fs
unfolding AreChanging
by_answer true m e es fs gs w alike same_entry is rest = inr (gs, is ∙ ap (λ (x : CacheEntry). (e.0, x) ∷ gs) same_entry, (λ h. let no : false ≡ true = alike.1 h in cc), rest)
by_answer false m e es fs gs w alike same_entry is rest = inl (alike.0 refl, subst (AreChanging m es) (sym is) rest)

-- what `retain` leaves of entries, by a test that stays as it was and tells of each whether it changes what is below
pub changing-from_retain : {F : Type 0} (T : F → OutPoint → CacheEntry → Bool → CacheEntry → F → Type 0) (m : Coins) (f : F)
    → ((k : OutPoint) (e : CacheEntry) (b : Bool) (w : CacheEntry) (g : F) → T f k e b w g → (IsTrue (not b) ↔ IsAsBelow e (map.get m k)) × (w ≡ e) × (g ≡ f))
    → (es fs : Entries) → RetainsPairs T f es fs → AreChanging m es fs
unfolding AreChanging
changing-from_retain T m f says [] fs r = r
changing-from_retain T m f says (e ∷ es) fs r =
    let told = says e.0 e.1 r.0 r.1 r.2 r.4 in
    by_answer r.0 m e es fs r.3 r.1 told.0 told.1 r.6 (changing-from_retain T m f says es r.3 (subst (λ g. RetainsPairs T g es r.3) told.2 r.5))
