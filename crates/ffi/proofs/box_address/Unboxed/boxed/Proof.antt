-- What the address owns is handed over, and the box made of it again.
use Rattle.std.proofs.Common.{◌≡◌, List, [], ◌∷◌, refl, sym, ap, subst}
use lib.Dec.{T}
use mir.Syntax.{Body, a_type, dcons, dnil, place, copy, assign, rv_opd, seq, return}
use mir.Val.{Val, vptr, has_ty, WT}
use mir.MapTy.{inst_fn}
use base.Logic.{SProp, id⊢}
use base.Fml.{ftrue, fsep, flft}
use prog.Wp.{WpFn}
use types.Kit.{Item, at_ret, ‵, raw, ◌⊛◌, some, later, ◌$◌, ◌∵◌, !, qed, move, drop, split, split3, join, fsplit, fjoin, pick, suffices, use1, await, rewrite, feq_i, done}
use types.Part.{sub, whole}
use types.Run.{stop, fld, of_opd, no_more, and_then, first, blocks, exec, returns, enter}
use types.ByLocal.{alloc_all, pass_all, free_all, look_at, get, get_in, sets, lands_last, env}
use contract.BorrowLft.{◌⊑◌}
use contract.Monad.{fact}
use contract.Running.{tables}
use denote.Exit.{no}
use denote.Param.{bounded}
use denote.RattleType.{RattleType}
use denote.RawPtr.{block_ptr}
use denote.Signature.{plain}
use denote.Steps.{nothing, only, heard}
use denote.Triple.Call.{calls_at_last}
use denote.Triple.Spec.{triple_of}
use denote.Triple.Table.{framed}
use denote.Triple.Walked.{says, Stays, stay_dropped, walk_of, ends_at}
use Rattle.std.specs.contracts.boxed.Box.from_raw as callee
use Rattle.std.proofs.alloc.Calls.{Goes-blank}
use Rattle.std.proofs.raw_atomic.Walks.{proved_at}
use Rattle.std.proofs.BoxSteps.Form.{Bx, D, R, P, B, box_ty, word, box_typed}
use Rattle.std.proofs.BoxSteps.Steps.{box_out, box_in}
use Rattle.std.proofs.boxed.Box.from_raw.Met.{met}
use Rattle.ffi.proofs.AsBox.{on_one}
use Rattle.ffi.specs.contracts.box_address.Unboxed as unboxed
use Rattle.ffi.specs.contracts.box_address.Unboxed.boxed.{ended, clauses}
use Rattle.ffi.specs.contracts.box_address.Unboxed.boxed.Key.{name}
use Rattle.ffi.proofs.box_address.Unboxed.boxed.Statement.{statement}
use Rattle.ffi.proofs.box_address.Unboxed.boxed.Code as code

-- the code after the block
abbrev rest : Body
rest = seq (assign (place 0 []) (rv_opd (copy (place 4 [])))) return

pub boxed_spec : {M : Type 1} → statement M
boxed_spec 𝓤 𝓛 𝓜 𝓡 wired inner freer inner_laws freer_laws rights inner_drops freer_drops allocator inner_dict =
    let E : Bx = record { row = inner; laws = inner_laws; al = record { row = freer; laws = freer_laws; g = rights; d = inner_drops; drops = freer_drops } } in
    let 𝓣 = tables 𝓤 𝓛.H 𝓜 𝓡 𝓡.env in
    let at_types = bounded (a_type ∷ a_type ∷ []) (inner, (freer, tt)) (dcons inner_drops (dcons freer_drops dnil)) in
    let body = inst_fn at_types code.function in
    let From : RattleType = unboxed.the_row (R E) (P E) rights in
    let Ending = ended inner freer rights inner_drops freer_drops in
    let said = clauses inner freer rights inner_drops freer_drops 𝓛 𝓜.mem 𝓡.returns in
    let keeps : Stays Ending.signature.params Ending.kept = (stay_dropped (plain (λ _. From)) no, tt) in
    let Boxing = triple_of 𝓛 (callee.signature inner freer rights inner_drops freer_drops) (callee.spec inner freer rights inner_drops freer_drops 𝓛 𝓜.mem 𝓡.returns) in
    let it_does = met 𝓤 𝓛 𝓜 𝓡 (code.calls-std_alloc::boxed::Box::from_raw 𝓡.env wired) inner freer inner_laws freer_laws rights inner_drops freer_drops allocator inner_dict in
    proved_at 𝓛 Ending keeps said 𝓜 𝓡 (Goes-blank 𝓛 2 (plain (λ _. From)) no (λ ls x f. tt), tt) (name at_types) body (code.unfolded 𝓤 𝓛.H 𝓜 𝓡 wired (inner, (freer, tt)) inner_drops freer_drops) (λ given are.
    let ls = given.0.0 in
    let shares = given.0.1 in
    let a = given.0.3.0.alloc in
    let x = given.0.3.0.value in
    let After : Val → SProp 𝓤 = (walk_of 𝓛 Ending keeps said).post given in
    let Runs : List Val → SProp 𝓤 = λ alone. WpFn 𝓤 𝓛.H 𝓣.C 𝓣.Λ body alone After in
    let box : D E = record { ptr = given.0.3.0.at; alloc = a; value = x } in
    let living : Item 𝓤 = ‵ (flft ls.0 shares.0) ⊛ ‵ (flft ls.1.0 shares.1.0) ⊛ ‵ ftrue in
    let in_x : Item 𝓤 = raw (fact 𝓤 (ls.0 ⊑ inner.lives)) in
    let in_a : Item 𝓤 = raw (fact 𝓤 (ls.1.0 ⊑ freer.lives)) in
    qed 𝓛 ((living ⊛ ‵ (fsep ((B E).own_val box given.0.4.0) ftrue)) ∷ (in_x ⊛ in_a ⊛ ‵ ftrue) ∷ []) ∵ split ! $ move ! (1 ∷ []) $ fsplit ! $
    box_out E ! box given.0.4.0 (λ block offset handle here alone fitting. fjoin ! $
    let one : Val = word E handle block offset in
    let shaped = box_typed E handle block offset fitting in
    let asked : Boxing.Ghost = ((ls, shares, tt, (a, (block_ptr block offset, tt)), (handle ∷ [], (vptr block offset ∷ [], tt))), x) in
    suffices ! (Runs (one ∷ [])) (on_one 𝓤 Runs one alone) $
    enter ! 𝓣.C 𝓣.Λ body (one ∷ []) After $ alloc_all ! (λ l. pass_all ! refl (shaped, tt) $
    sets ! (of_opd ! (get_in ! (fld ! refl (stop !)) (sub ! 0 refl (whole !)))) refl (tt, tt) $
    sets ! (of_opd ! (get_in ! (fld ! refl (stop !)) (sub ! 1 refl (whole !)))) refl fitting $
    first ! $ blocks ! $ sets ! (of_opd ! (get ! refl)) refl fitting $
    -- what the call asks for: the value with the right to free it, the allocator, the lifetimes, and what is known of them
    move ! (4 ∷ []) $ split3 ! $ move ! (2 ∷ []) $ drop ! $ move ! (1 ∷ 2 ∷ []) $ join ! $
    move ! (1 ∷ 0 ∷ []) $ join ! $
    move ! (2 ∷ []) $ feq_i ! (List Val) (vptr block offset ∷ []) (vptr block offset ∷ []) refl $ fjoin ! $
    move ! (2 ∷ 0 ∷ []) $ fjoin ! $ move ! (2 ∷ 0 ∷ []) $ join ! $ join ! $
    use1 𝓛 (raw (Boxing.pre asked)) (id⊢ 𝓤 _) $
    calls_at_last ! (framed 𝓤 𝓛.H 𝓜 𝓣) Boxing it_does asked (and_then ! (get ! refl) (and_then ! (get ! refl) (no_more !))) (λ back.
    use1 𝓛 (later (some (λ (r : D E). (living ⊛ ‵ ((B E).own_val r (back ∷ []))) ⊛ some (λ (_ : Unit {0} × (Unit {0} × Unit {0})). ‵ (fsep ftrue (fsep ftrue ftrue)) ⊛ (raw (fact 𝓤 (r.value ≡ x)) ⊛ raw (fact 𝓤 (r.alloc ≡ a))))))) (id⊢ 𝓤 _) $
    await ! tt $ pick ! (λ r. split ! $ move ! (1 ∷ []) $ pick ! (λ _. split3 ! $ drop ! $
    heard ! (r.value ≡ x) (λ same. drop ! $ split ! $ move ! (1 ∷ []) $
    box_out E ! r (back ∷ []) (λ block' offset' handle' here' spelled fitting'. box_in E ! r block' offset' r.value here' refl $ rewrite ! 0 (λ (xs : List Val). ‵ ((B E).own_val r xs)) (sym spelled) refl $
    let shaped' : T (has_ty (box_ty E) back) × WT back = subst (λ (s : Val). T (has_ty (box_ty E) s) × WT s) (sym (ap only spelled)) (box_typed E handle' block' offset' fitting') in
    lands_last ! refl shaped' $ exec ! 𝓣.C 𝓣.Λ (env body.locals l) rest (at_ret (env body.locals l) After) $
    sets ! (of_opd ! (get ! refl)) refl shaped' $
    returns ! (look_at ! 0 refl) $ free_all ! refl $
    suffices ! _ (ends_at 𝓛 Ending keeps said given back r ((tt, (tt, tt)), tt) (tt, tt)) $ says ! same $
    nothing ! $ nothing ! $ fjoin ! $ join ! $ move ! (1 ∷ 0 ∷ []) $ join ! $ done !))))))))
