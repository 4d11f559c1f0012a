-- The two fields go over, and what they own goes with them.
use mathlib.Core.Path.{◌≡◌, refl, sym}
use mathlib.Core.List.{List, [], ◌∷◌}
use Rattle.std.proofs.Common.{Option, None, Some, IsSome, true≢false}
use mir.Val.{Val}
use base.Logic.{SProp, id⊢}
use base.Fml.{ftrue, fsep}
use prog.Wp.{WpFn}
use types.Kit.{‵, raw, ◌⊛◌, ◌$◌, ◌∵◌, !, qed, move, drop, rewrite, use1, join, split, fsplit, fjoin, suffices, done}
use types.Part.{whole, sub, agg}
use types.Run.{stop, fld, no_more, and_then, of_opd, returns, enter}
use types.ByLocal.{alloc_all, pass_all, free_all, look_at, get, get_in, sets}
use contract.Monad.{fact}
use contract.Running.{tables}
use denote.Exit.{yes}
use denote.Signature.{type_at}
use denote.Steps.{nothing, heard}
use denote.Triple.Walked.{says, Stays, stay_dropped, walk_of, ends_at, Goes-dropped}
use Rattle.std.proofs.raw_atomic.Walks.{proved_at}
use Rattle.std.proofs.BoxSteps.Form.{D, B, word, box_typed}
use Rattle.std.proofs.BoxSteps.Steps.{box_out, box_in}
use Rattle.ffi.proofs.AsBox.{on_one}
use Rattle.ffi.proofs.AsTxBox.{E, TheKeptTx}
use Rattle.sighash.specs.contracts.precomputed_tx.PrecomputedTx as tx
use Rattle.ffi.specs.contracts.kept_tx.KeptTx.{the_row as kept_row}
use Rattle.ffi.specs.contracts.kept_tx.KeptTx.unboxed.{signature, ended, clauses}
use Rattle.ffi.specs.contracts.kept_tx.KeptTx.unboxed.Key.{name}
use Rattle.ffi.proofs.kept_tx.KeptTx.unboxed.Statement.{statement}
use Rattle.ffi.proofs.kept_tx.KeptTx.unboxed.Code as code

-- a value that is there
abbrev there : (o : Option tx.the_row.Denot) → IsSome o → tx.the_row.Denot
there None lacks = absurd (true≢false (sym lacks))
there (Some x) _ = x

there_is : (o : Option tx.the_row.Denot) (is : IsSome o) → o ≡ Some (there o is)
there_is None lacks = absurd (true≢false (sym lacks))
there_is (Some x) _ = refl

abbrev stayed : Stays ended.signature.params ended.kept
stayed = (stay_dropped TheKeptTx yes, tt)

pub unboxed_spec : {M : Type 1} → statement M
unboxed_spec 𝓤 𝓛 𝓜 𝓡 wired =
    let 𝓣 = tables 𝓤 𝓛.H 𝓜 𝓡 𝓡.env in
    let said = clauses 𝓛 𝓜.mem 𝓡.returns in
    let body = code.function in
    proved_at 𝓛 ended stayed said 𝓜 𝓡 (Goes-dropped 𝓛 0 TheKeptTx yes (λ ls x f. refl), tt) name body (code.unfolded 𝓤 𝓛.H 𝓜 𝓡 wired) (λ given are.
    let After : Val → SProp 𝓤 = (walk_of 𝓛 ended stayed said).post given in
    let Runs : List Val → SProp 𝓤 = λ alone. WpFn 𝓤 𝓛.H 𝓣.C 𝓣.Λ body alone After in
    let k = given.0.3.0 in
    qed 𝓛 ((‵ ftrue ⊛ ‵ (fsep (kept_row.own_val k given.0.4.0) ftrue)) ∷ raw (fact 𝓤 (IsSome k.value)) ∷ []) ∵
    move ! (1 ∷ []) $ heard ! (IsSome k.value) (λ full. let same = there_is k.value full in
    let box : D E = record { ptr = k.at; alloc = k.alloc; value = there k.value full } in
    let Outcome = type_at signature.result tt in
    let outcome : Outcome.Denot = record { at = box.ptr; alloc = box.alloc; value = box.value } in
    split ! $ drop ! $ fsplit ! $
    rewrite ! 0 (λ (offset : Option (tx.the_row).Denot). ‵ (kept_row.own_val (record { at = k.at; alloc = k.alloc; value = offset }) given.0.4.0)) same refl $
    use1 𝓛 (‵ ((B E).own_val box given.0.4.0)) (id⊢ 𝓤 _) $
    box_out E ! box given.0.4.0 (λ block offset handle here alone fitting. box_in E ! box block offset box.value here refl $
    let one : Val = word E handle block offset in
    let shaped = box_typed E handle block offset fitting in
    use1 𝓛 (‵ (Outcome.own_val outcome (one ∷ []))) (id⊢ 𝓤 _) $ move ! (1 ∷ []) $ drop ! $
    suffices ! (Runs (one ∷ [])) (on_one 𝓤 Runs one alone) $
    enter ! 𝓣.C 𝓣.Λ body (one ∷ []) After $ alloc_all ! (λ l. pass_all ! refl (shaped, tt) $
    sets ! (of_opd ! (get_in ! (fld ! refl (stop !)) (sub ! 0 refl (whole !)))) refl (tt, tt) $
    sets ! (of_opd ! (get_in ! (fld ! refl (stop !)) (sub ! 1 refl (whole !)))) refl fitting $
    sets ! (of_opd ! (get ! refl)) refl (tt, tt) $
    sets ! (agg ! (and_then ! (get ! refl) (and_then ! (get ! refl) (no_more !)))) refl shaped $
    returns ! (look_at ! 0 refl) $ free_all ! refl $
    suffices ! _ (ends_at 𝓛 ended stayed said given one outcome (tt, tt) (tt, tt)) $ says ! same $
    nothing ! $ nothing ! $ fjoin ! $ join ! $ nothing ! $ join ! $ done !))))
