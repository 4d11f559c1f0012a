-- What the box owned goes with its address.
use Rattle.std.proofs.Common.{◌≡◌, List, [], ◌∷◌, ◌++◌, refl, ap, ◌∙◌}
use mir.Syntax.{a_type, dcons}
use mir.Raw.{raw as bare}
use mir.Val.{Val, vstruct, of_list}
use mir.MapTy.{inst_fn}
use mir.Syntax.{dnil}
use base.Logic.{SProp, id⊢, never, fst∗}
use base.Fml.{ftrue, fsep, flft}
use prog.Wp.{WpFn}
use types.Logic.{sem}
use types.Kit.{Item, ‵, raw, ◌⊛◌, some, later, ◌$◌, ◌∵◌, !, qed, move, drop, split, split3, join, fsplit, fjoin, fpick, pick, suffices, use1, await, rewrite, feq_l, done}
use types.Part.{agg, sub, whole}
use types.Run.{stop, fld, of_opd, no_more, and_then, returns, enter}
use types.ByLocal.{alloc_all, pass_all, free_all, look_at, get, get_in, sets, lands_as}
use contract.Monad.{fact}
use contract.Running.{tables}
use denote.Builtin.{RawPtr}
use denote.Exit.{no}
use denote.Param.{bounded}
use denote.RawPtr.{Ptr, block_ptr, null_ptr, ptr_val, in_a_block}
use denote.Signature.{type_at, plain}
use denote.Steps.{nothing, only, heard}
use denote.Struct.Tuple.{Tuple}
use denote.Triple.Call.{calls_at}
use denote.Triple.Spec.{triple_of}
use denote.Triple.Table.{framed}
use denote.Triple.Walked.{says, Stays, stay_dropped, walk_of, ends_at}
use Rattle.std.specs.Box.Ownership.{box_owns}
use Rattle.std.proofs.alloc.Calls.{token, handle_tells, Goes-blank}
use Rattle.std.proofs.raw_atomic.Walks.{proved_at}
use Rattle.std.proofs.BoxSteps.Form.{Bx, D, τ, R, P, B, word, box_typed}
use Rattle.std.proofs.BoxSteps.Steps.{box_out, box_in}
use Rattle.std.specs.contracts.boxed.Box.into_raw_with_allocator as callee
use Rattle.std.proofs.boxed.Box.into_raw_with_allocator.Met.{met}
use Rattle.ffi.proofs.AsBox.{on_one}
use Rattle.ffi.specs.contracts.box_address.Unboxed.of.{ended, clauses}
use Rattle.ffi.specs.contracts.box_address.Unboxed.of.Key.{name}
use Rattle.ffi.proofs.box_address.Unboxed.of.Statement.{statement}
use Rattle.ffi.proofs.box_address.Unboxed.of.Code as code

pub of_spec : {M : Type 1} → statement M
of_spec 𝓤 𝓛 𝓜 𝓡 wired inner freer inner_laws freer_laws rights inner_drops freer_drops box_drops allocator inner_dict box_glue =
    let E : Bx = record { row = inner; laws = inner_laws; al = record { row = freer; laws = freer_laws; g = rights; d = inner_drops; drops = freer_drops } } in
    let 𝓣 = tables 𝓤 𝓛.H 𝓜 𝓡 𝓡.env in
    let at_types = bounded (a_type ∷ a_type ∷ []) (inner, (freer, tt)) (dcons inner_drops (dcons freer_drops (dcons box_drops dnil))) in
    let body = inst_fn at_types code.function in
    let Ending = ended inner freer rights inner_drops freer_drops box_drops in
    let said = clauses inner freer rights inner_drops freer_drops box_drops 𝓛 𝓜.mem 𝓡.returns in
    let keeps : Stays Ending.signature.params Ending.kept = (stay_dropped (plain (λ _. B E)) no, tt) in
    let Unboxing = triple_of 𝓛 (callee.signature inner freer rights inner_drops freer_drops box_drops) (callee.spec inner freer rights inner_drops freer_drops box_drops 𝓛 𝓜.mem 𝓡.returns) in
    let it_does = met 𝓤 𝓛 𝓜 𝓡 (code.calls-std_alloc::boxed::Box::into_raw_with_allocator 𝓡.env wired) inner freer inner_laws freer_laws rights inner_drops freer_drops box_drops allocator inner_dict box_glue in
    proved_at 𝓛 Ending keeps said 𝓜 𝓡 (Goes-blank 𝓛 2 (plain (λ _. B E)) no (λ ls x f. tt), tt) (name at_types) body (code.unfolded 𝓤 𝓛.H 𝓜 𝓡 wired (inner, (freer, tt)) inner_drops freer_drops box_drops) (λ given are.
    let ls = given.0.0 in
    let shares = given.0.1 in
    let box = given.0.3.0 in
    let a = box.alloc in
    let After : Val → SProp 𝓤 = (walk_of 𝓛 Ending keeps said).post given in
    let Runs : List Val → SProp 𝓤 = λ alone. WpFn 𝓤 𝓛.H 𝓣.C 𝓣.Λ body alone After in
    let living : Item 𝓤 = ‵ (flft ls.0 shares.0) ⊛ ‵ (flft ls.1.0 shares.1.0) ⊛ ‵ ftrue in
    let Outcome = type_at Ending.signature.result ls in
    qed 𝓛 ((living ⊛ ‵ (fsep ((B E).own_val box given.0.4.0) ftrue)) ∷ raw ((said ls given.0.3).requires given.1) ∷ []) ∵ split ! $ move ! (1 ∷ []) $ fsplit ! $
    box_out E ! box given.0.4.0 (λ block offset handle here alone fitting. box_in E ! box block offset box.value here refl $
    let one : Val = word E handle block offset in
    let shaped = box_typed E handle block offset fitting in
    let asked : Unboxing.Ghost = ((ls, shares, tt, (box, tt), (one ∷ [], tt)), tt) in
    -- what the call asks for: the box, the lifetimes, and what is known of them
    fjoin ! $ move ! (1 ∷ 0 ∷ []) $ join ! $ join ! $ use1 𝓛 (raw (Unboxing.pre asked)) (id⊢ 𝓤 _) $
    suffices ! (Runs (one ∷ [])) (on_one 𝓤 Runs one alone) $
    enter ! 𝓣.C 𝓣.Λ body (one ∷ []) After $ alloc_all ! (λ l. pass_all ! refl (shaped, tt) $
    sets ! (of_opd ! (get ! refl)) refl shaped $
    calls_at ! (framed 𝓤 𝓛.H 𝓜 𝓣) Unboxing it_does asked (and_then ! (get ! refl) (no_more !)) (λ back.
    use1 𝓛 (later (some (λ (r : Ptr × freer.Denot). (living ⊛ ‵ ((Tuple (RawPtr ∷ P E ∷ [])).own_val r (back ∷ []))) ⊛ some (λ (_ : (Unit {0} × (Unit {0} × Unit {0})) × Unit {0}).
    ‵ (fsep (fsep ftrue (fsep ftrue ftrue)) ftrue) ⊛ (raw (fact 𝓤 (r.1 ≡ a)) ⊛ ‵ (box_owns (token E.al a) (R E) r.0 box.value)))))) (id⊢ 𝓤 _) $
    await ! tt $ pick ! (λ r. split ! $ move ! (1 ∷ []) $ pick ! (λ _. split3 ! $ drop ! $
    heard ! (r.1 ≡ a) (λ ea.
    in_a_block ! r.0 (λ p. box_owns (token E.al a) (R E) p box.value) (fst∗ 𝓤 (never 𝓤) (sem 𝓛 (token E.al a (bare (τ E)) null_ptr))) (λ block' offset' here'.
    move ! (1 ∷ []) $ split ! $ move ! (1 ∷ []) $ fpick ! (λ vss. fsplit ! $ feq_l ! (λ eu. fsplit ! $
    feq_l ! (λ ep. fsplit ! $
    rewrite ! 0 (λ (s : freer.Denot). ‵ (freer.own_val s vss.1.0)) ea refl $
    handle_tells E.al ! a vss.1.0 (λ handle' eh fitting'.
    let one' : Val = word E handle' block' offset' in
    let shaped' = box_typed E handle' block' offset' fitting' in
    let box' : D E = record { ptr = block_ptr block' offset'; alloc = a; value = box.value } in
    let outcome : Outcome.Denot = record { at = block_ptr block' offset'; alloc = a; value = box.value } in
    lands_as ! (ap only (eu ∙ (λ j. vstruct (of_list ((ep ∙ ap (λ (p : Ptr). ptr_val p ∷ []) here') j ++ (eh j ++ []))) ∷ []))) refl shaped' $
    sets ! (of_opd ! (get_in ! (fld ! refl (stop !)) (sub ! 0 refl (whole !)))) refl (tt, tt) $
    sets ! (of_opd ! (get_in ! (fld ! refl (stop !)) (sub ! 1 refl (whole !)))) refl fitting' $
    sets ! (of_opd ! (get ! refl)) refl fitting' $
    sets ! (agg ! (and_then ! (get ! refl) (and_then ! (get ! refl) (no_more !)))) refl shaped' $
    returns ! (look_at ! 0 refl) $ free_all ! refl $
    -- the allocator; nothing; the lifetimes; the value with the right to free it
    move ! (3 ∷ []) $ fsplit ! $ box_in E ! box' block' offset' box.value refl refl $
    use1 𝓛 (‵ (Outcome.own_val outcome (one' ∷ []))) (id⊢ 𝓤 _) $ move ! (1 ∷ []) $ drop ! $
    suffices ! _ (ends_at 𝓛 Ending keeps said given one' outcome ((tt, (tt, tt)), tt) (tt, tt)) $ says ! refl $
    nothing ! $ nothing ! $ fjoin ! $ join ! $ move ! (1 ∷ 0 ∷ []) $ join ! $ done !))))))))))))
