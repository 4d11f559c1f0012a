-- Which calls a method doesn't mean.
use Rattle.std.specs.Prelude.{ℕ, List, ◌∷◌, ◌++◌, ◌<◌, length, codes, true, Option, None, Some, option_map, option_and_then, Result, Ok, Err, IfOk, IfErr, ⊤}
use Rattle.std.specs.Option.{is_some}
use Rattle.std.specs.Result.{result_ok}
use Rattle.std.specs.List.{All}
use Rattle.std.proofs.Common.{◌≡◌, sym, subst, inr, arith}
use Rattle.std.proofs.Math.Seq.{get_or-append_seam}
use Rattle.std.proofs.lemmas.List.{length-append}
use Rattle.json.specs.Json.{Json}
use Rattle.hash.specs.declared.id.Id.{Id}
use Rattle.txn.specs.declared.outpoint.OutPoint.{OutPoint}
use Rattle.signatures.specs.Lines.{IsReadable, IsFirstBad}
use Rattle.json.specs.Find.{get, as_str}
use Rattle.serving.specs.Requests.{param, IsNumber, IsSeat, AreBytes, AreLines, IsId, IsAbove, AreOutPoint, IsCall, IsRequest, IsAsked, IsInTurn, method_name}
use Rattle.serving.specs.declared.request.Asked.TheVariants as asked
use Rattle.serving.specs.inside.Given.{IsParam}
use Rattle.serving.specs.declared.method.Method.{Method}
use Rattle.serving.specs.declared.method.Method.TheVariants as method
use Rattle.serving.specs.declared.refusal.Refusal.{Refusal}
use Rattle.serving.specs.declared.refusal.Refusal.TheVariants as refusal
use Rattle.serving.specs.declared.request.Call.{Call}
use Rattle.serving.specs.declared.request.Call.TheVariants as call
use Rattle.std.specs.Borrow.{Bor}

pub is-param : {why : Refusal} {name : Bor (List ℕ)} → why ≡ refusal.Param name → IsParam why
is-param {why} {name} e = subst IsParam (sym e) _

-- what the parameters of a method have where they mean a call
abbrev pub Takes : ℕ → Method → Option Json → Type 0
Takes seats method.Submit p = ((bytes : List ℕ) × AreBytes (codes "block") p bytes) × ((n : ℕ) × IsNumber (codes "now") p n)
Takes seats method.Judge p = ((bytes : List ℕ) × AreBytes (codes "block") p bytes) × ((n : ℕ) × IsNumber (codes "now") p n)
Takes seats method.Invalidate p = (id : Id) × IsId (codes "id") p id
Takes seats method.Reconsider p = (id : Id) × IsId (codes "id") p id
Takes seats method.Precious p = (id : Id) × IsId (codes "id") p id
Takes seats method.GetTxOut p = (o : OutPoint) × AreOutPoint p o
Takes seats method.GetBestBlockHash p = ⊤
Takes seats method.GetChainTips p = ⊤
Takes seats method.GetBlock p = (id : Id) × IsId (codes "id") p id
Takes seats method.GetBlockHeader p = (id : Id) × IsId (codes "id") p id
Takes seats method.GetBlockHash p = (n : ℕ) × IsNumber (codes "height") p n
Takes seats method.GetAncestor p = ((id : Id) × IsId (codes "id") p id) × ((n : ℕ) × IsNumber (codes "height") p n)
Takes seats method.GetFork p = ((id : Id) × IsId (codes "id") p id) × ((other : Id) × IsId (codes "other") p other)
Takes seats method.GetSpent p = (id : Id) × IsId (codes "id") p id
Takes seats method.Coins p = ((o : Option OutPoint) × IsAbove p o) × ((n : ℕ) × IsNumber (codes "most") p n)
Takes seats method.Wait p = (n : ℕ) × IsNumber (codes "after") p n
Takes seats method.Note p = ⊤
Takes seats method.Told p = (n : ℕ) × IsSeat seats (codes "from") p n
Takes seats method.Journal p = ((n : ℕ) × IsNumber (codes "from") p n) × ((n : ℕ) × IsNumber (codes "to") p n)
Takes seats method.Wants p = ⊤
Takes seats method.Learn p = ((text : List ℕ) × AreLines (codes "valid") p text) × ((text : List ℕ) × AreLines (codes "invalid") p text)
Takes seats method.Info p = ⊤
Takes seats method.Save p = ⊤
Takes seats method.Finish p = ⊤

pub takes : (seats : ℕ) (m : Method) (p : Option Json) (c : Call) → IsCall seats m p c → Takes seats m p
takes seats m p (call.Submit block now) h = subst (λ n. Takes seats n p) (sym h.0) ((block.items, h.1), (now, h.2))
takes seats m p (call.Judge block now) h = subst (λ n. Takes seats n p) (sym h.0) ((block.items, h.1), (now, h.2))
takes seats m p (call.Invalidate id) h = subst (λ n. Takes seats n p) (sym h.0) (id, h.1)
takes seats m p (call.Reconsider id) h = subst (λ n. Takes seats n p) (sym h.0) (id, h.1)
takes seats m p (call.Precious id) h = subst (λ n. Takes seats n p) (sym h.0) (id, h.1)
takes seats m p (call.Output o) h = subst (λ n. Takes seats n p) (sym h.0) (o, h.1)
takes seats m p call.Best h = subst (λ n. Takes seats n p) (sym h) tt
takes seats m p call.Tips h = subst (λ n. Takes seats n p) (sym h) tt
takes seats m p (call.Block id) h = subst (λ n. Takes seats n p) (sym h.0) (id, h.1)
takes seats m p (call.Header id) h = subst (λ n. Takes seats n p) (sym h.0) (id, h.1)
takes seats m p (call.Hash height) h = subst (λ n. Takes seats n p) (sym h.0) (height, h.1)
takes seats m p (call.Ancestor id height) h = subst (λ n. Takes seats n p) (sym h.0) ((id, h.1), (height, h.2))
takes seats m p (call.Fork id other) h = subst (λ n. Takes seats n p) (sym h.0) ((id, h.1), (other, h.2))
takes seats m p (call.Spent id) h = subst (λ n. Takes seats n p) (sym h.0) (id, h.1)
takes seats m p (call.Coins above most) h = subst (λ n. Takes seats n p) (sym h.0) ((above, h.1), (most, h.2))
takes seats m p (call.Wait steps) h = subst (λ n. Takes seats n p) (sym h.0) (steps, h.1)
takes seats m p call.Note h = subst (λ n. Takes seats n p) (sym h) tt
takes seats m p (call.Told from) h = subst (λ n. Takes seats n p) (sym h.0) (from, h.1)
takes seats m p (call.Journal from to) h = subst (λ n. Takes seats n p) (sym h.0) ((from, h.1), (to, h.3))
takes seats m p call.Wants h = subst (λ n. Takes seats n p) (sym h) tt
takes seats m p (call.Learn valid invalid) h = subst (λ n. Takes seats n p) (sym h.0) ((valid.items, h.1), (invalid.items, h.2))

pub some-is-not-none : {A B : Type 0} (o : Option A) (f : A → B) → is_some o ≡ true → option_map f o ≡ None → ⊥
some-is-not-none None f some none = cc
some-is-not-none (Some x) f some none = cc

-- where a transaction is named, and no outpoint
pub not-above : (p : Option Json) → (param (codes "txid") p ≡ None → ⊥) → ((o : OutPoint) → AreOutPoint p o → ⊥) → (o : Option OutPoint) → IsAbove p o → ⊥
not-above p named none None h = named h
not-above p named none (Some o) h = none o h

-- where neither a seat nor a call is meant, a parameter is refused
pub asked-refused : (seats : ℕ) (j : Json) (m : Method) (seat : Option ℕ) (why : Refusal) → IsRequest j (method_name m) → IsParam why
    → ((k : ℕ) (c : Call) → IsSeat seats (codes "seat") (get (codes "params") j) k × IsCall seats m (get (codes "params") j) c → ⊥)
    → IsAsked seats j (asked.Refused seat why)
asked-refused seats j m seat (refusal.Param name) is by none = (m, is, none)
asked-refused seats j m seat refusal.Parse is by none = by
asked-refused seats j m seat refusal.TooLong is by none = by
asked-refused seats j m seat refusal.TooMany is by none = by
asked-refused seats j m seat refusal.Request is by none = absurd by
asked-refused seats j m seat refusal.Method is by none = absurd by
asked-refused seats j m seat refusal.Memory is by none = by
asked-refused seats j m seat refusal.Owed is by none = by
asked-refused seats j m seat refusal.Closed is by none = by
asked-refused seats j m seat refusal.Unsaved is by none = by
asked-refused seats j m seat (refusal.NotSaved reason) is by none = by
asked-refused seats j m seat refusal.Busy is by none = by
asked-refused seats j m seat refusal.HistoryFull is by none = by

-- a request of no method is refused in the turn of the seat that it names
pub refused-in-turn : (seats : ℕ) (j : Json) (p : Option Json) (Other : Refusal → Type 0) → p ≡ get (codes "params") j → (r : Result ℕ Refusal) → IfOk r (λ n. IsSeat seats (codes "seat") p n)
    → IfErr r (λ why. Other why × ((n : ℕ) → IsSeat seats (codes "seat") p n → ⊥)) → (why : Refusal) → IsInTurn seats j (asked.Refused (result_ok r) why)
refused-in-turn seats j p Other is (Ok n) ok err why = subst (λ q. IsSeat seats (codes "seat") q n) is ok
refused-in-turn seats j p Other is (Err e) ok err why = inr (subst (λ q. (n : ℕ) → IsSeat seats (codes "seat") q n → ⊥) is err.1)

-- where a line can't be read, not all can
pub not_all : {ls : List (List ℕ)} {n : ℕ} → IsFirstBad ls n → All IsReadable ls → ⊥
not_all bad all =
    let whole = bad.before ++ bad.line ∷ bad.after in
    let within : length bad.before < length whole = omega (arith, length-append bad.before (bad.line ∷ bad.after)) in
    bad.bad (subst IsReadable (get_or-append_seam bad.before bad.line bad.after bad.line)
    (subst (All IsReadable) bad.place all (length bad.before) bad.line within))

-- a parameter that is a text is no other text
pub one_text : {V B : Type 0} {o : Option V} {v : V} {p : Option Json} {r : Option B} {b : B} {text : List ℕ} (view : V → Json) (now : B → List ℕ)
    → o ≡ Some v → option_map view o ≡ p → r ≡ Some b → option_map now r ≡ as_str (view v) → option_and_then as_str p ≡ Some text → text ≡ now b
one_text {v} {p} {text} view now found given told is h =
    let param = subst (λ o. option_map view o ≡ p) found given in
    let read = subst (λ o. option_and_then as_str o ≡ Some text) (sym param) h in
    let here = subst (λ r. option_map now r ≡ as_str (view v)) told is in
    cc
