-- An address that owns nothing, and an allocator.
use mathlib.Core.Path.{refl, sym, subst}
use mathlib.Core.List.{List, [], ◌∷◌, ◌++◌}
use Rattle.std.specs.Prelude.{None}
use mir.Val.{Val}
use base.Logic.{SProp, ent, emp, id⊢}
use base.Fml.{ftrue, fsep}
use prog.Wp.{WpFn}
use types.Kit.{‵, raw, ◌⊛◌, ◌$◌, ◌∵◌, !, qed, move, drop, join, split, fsplit, fjoin, fpack, feq_i, feq_l, suffices, done}
use types.Part.{agg}
use types.Run.{no_more, and_then, returns, enter}
use types.ByLocal.{alloc_all, pass_all, free_all, look_at, get, sets}
use contract.Running.{tables}
use denote.Builtin.{RawPtr}
use denote.Exit.{yes}
use denote.RattleType.{Valss}
use denote.RawPtr.{Ptr, ptr_val, rawptr_Lawful}
use denote.Signature.{type_at, plain}
use denote.Steps.{nothing}
use denote.Struct.Owning.{shape}
use denote.Struct.Struct.{within}
use denote.Triple.Walked.{says, Stays, stay_dropped, walk_of, ends_at, Goes-dropped}
use Rattle.std.proofs.alloc.Calls.{handle_tells}
use Rattle.std.proofs.raw_atomic.Walks.{proved_at}
use Rattle.ffi.proofs.AsUtxoBox.{E, both, both_typed}
use Rattle.ffi.specs.contracts.kept_utxo.KeptUtxo as kept
use Rattle.ffi.specs.contracts.kept_utxo.KeptUtxo.empty.{signature, ended, clauses}
use Rattle.ffi.specs.contracts.kept_utxo.KeptUtxo.empty.Key.{name}
use Rattle.ffi.proofs.kept_utxo.KeptUtxo.empty.Statement.{statement}
use Rattle.ffi.proofs.kept_utxo.KeptUtxo.empty.Code as code

abbrev stayed : Stays ended.signature.params ended.kept
stayed = (stay_dropped (plain (λ _. RawPtr)) yes, (stay_dropped (plain (λ _. E.al.row)) yes, tt))

pub empty_spec : {M : Type 1} → statement M
empty_spec 𝓤 𝓛 𝓜 𝓡 wired =
    let 𝓣 = tables 𝓤 𝓛.H 𝓜 𝓡 𝓡.env in
    let said = clauses 𝓛 𝓜.mem 𝓡.returns in
    let body = code.function in
    proved_at 𝓛 ended stayed said 𝓜 𝓡 (Goes-dropped 𝓛 0 (plain (λ _. RawPtr)) yes (λ ls x f. refl), (Goes-dropped 𝓛 0 (plain (λ _. E.al.row)) yes (λ ls x f. refl), tt)) name body (code.unfolded 𝓤 𝓛.H 𝓜 𝓡 wired) (λ given are.
    let After : Val → SProp 𝓤 = (walk_of 𝓛 ended stayed said).post given in
    let Runs : List Val → SProp 𝓤 = λ alone. WpFn 𝓤 𝓛.H 𝓣.C 𝓣.Λ body alone After in
    let p : Ptr = given.0.3.0 in
    let a = given.0.3.1.0 in
    let Outcome = type_at signature.result tt in
    let outcome : Outcome.Denot = record { at = p; alloc = a; value = None } in
    qed 𝓛 ((‵ ftrue ⊛ ‵ (fsep (RawPtr.own_val p given.0.4.0) (fsep (E.al.row.own_val a given.0.4.1.0) ftrue))) ∷ raw (emp 𝓤) ∷ []) ∵ split ! $ drop ! $ fsplit ! $
    feq_l ! (λ ep. fsplit ! $ handle_tells E.al ! a given.0.4.1.0 (λ handle eh fitting.
    move ! (1 ∷ 2 ∷ []) $ drop ! $ drop ! $ let one : Val = both p handle in
    suffices ! (Runs (ptr_val p ∷ handle ∷ [])) (subst (λ (spelled : List Val). ent 𝓤 (Runs (ptr_val p ∷ handle ∷ [])) (Runs spelled)) (sym (λ i. ep i ++ (eh i ++ []))) (id⊢ 𝓤 (Runs (ptr_val p ∷ handle ∷ [])))) $
    enter ! 𝓣.C 𝓣.Λ body (ptr_val p ∷ handle ∷ []) After $
    alloc_all ! (λ l. pass_all ! refl (((rawptr_Lawful 𝓛).typed p _ refl).0, (fitting, tt)) $
    sets ! (agg ! (and_then ! (get ! refl) (and_then ! (get ! refl) (no_more !)))) refl (both_typed p handle fitting) $
    returns ! (look_at ! 0 refl) $ free_all ! refl $
    suffices ! _ (ends_at 𝓛 ended stayed said given one outcome (tt, (tt, tt)) (tt, (tt, tt))) $ says ! refl $
    nothing ! $ nothing ! $ move ! (2 ∷ 0 ∷ []) $ fjoin ! $
    feq_i ! (List Val) (ptr_val p ∷ []) (ptr_val p ∷ []) refl $ fjoin ! $
    feq_i ! (List Val) (one ∷ []) (one ∷ []) refl $ fjoin ! $
    fpack ! (Valss (RawPtr ∷ E.al.row ∷ [])) (within (shape kept.the_type) (p, (((a.memory.seal, tt), tt), tt)) (one ∷ [])) (ptr_val p ∷ [], (handle ∷ [], tt)) $ fjoin ! $
    nothing ! $ nothing ! $ fjoin ! $ nothing ! $ fjoin ! $ join ! $ nothing ! $ join ! $ done !))))
