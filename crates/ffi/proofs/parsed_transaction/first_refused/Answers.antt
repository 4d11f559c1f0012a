-- What the input at a place says comes before what the others say.
use Rattle.std.proofs.Common.{◌≡◌, ℕ, ◌+◌, ◌<◌, List, length, get_or, drop, sym, ap, ap₂, ◌∙◌, arith}
use Rattle.txn.specs.Tx.{Tx}
use Rattle.signatures.specs.Known.{Known, verdict_in}
use Rattle.interp.specs.Answer.{Says}
use Rattle.interp.specs.Question.{question}
use Rattle.interp.specs.computed.NamedFailures.{verify_script}
use Rattle.interp.specs.declared.flags.Flags.{Flags}
use Rattle.connect.proofs.Steps.{drop_item}
use Rattle.ffi.specs.NamedFailures.{flags_in}
use Rattle.ffi.specs.ParsedTransaction.{before_others, first_refused}
use Rattle.ffi.proofs.parsed_transaction.first_refused.Goals as goal

-- the scripts from a place on begin with the one at it
from_place : (known : Known) (flags : Flags) (tx : Tx) (scripts : List (List ℕ)) (n : ℕ) (script : List ℕ) → n < length scripts → script ≡ get_or scripts n script
    → first_refused known flags tx n (drop n scripts)
    ≡ before_others n (verify_script known (question tx n script flags)) (first_refused known flags tx (n + 1) (drop (n + 1) scripts))
from_place known flags tx scripts n script h e = ap (first_refused known flags tx n) (drop_item scripts n script h e)

pub returns-in-Err : goal.returns-in-Err
returns-in-Err c t e =
    let known = verdict_in c.args.known.now in
    let flags = flags_in c.args.flags in
    let tx = c.args.kept.now.tx in
    let scripts = c.args.scripts.now in
    let n = c.loop-place.place in
    let others = first_refused known flags tx (n + 1) (drop (n + 1) scripts) in
    let asked = ap₂ (λ of spent. verify_script known (question of n spent flags)) (sym c.in_ok-midstates.ensures) (sym c.as_slice-spent.ensures) in
    c.loop-place.invariant ∙ from_place known flags tx scripts n c.index-scripts-place.result (omega arith) c.index-scripts-place.is
    ∙ ap (λ v. before_others n v others) (asked ∙ c.in-Err.ensures t e)

pub loop-place-preserved : goal.loop-place-preserved
loop-place-preserved c =
    let known = verdict_in c.args.known.now in
    let flags = flags_in c.args.flags in
    let tx = c.args.kept.now.tx in
    let scripts = c.args.scripts.now in
    let n = c.loop-place.place in
    let others = first_refused known flags tx (n + 1) (drop (n + 1) scripts) in
    let asked = ap₂ (λ of spent. verify_script known (question of n spent flags)) (sym c.in_ok-midstates.ensures) (sym c.as_slice-spent.ensures) in
    c.loop-place.invariant ∙ from_place known flags tx scripts n c.index-scripts-place.result (omega arith) c.index-scripts-place.is
    ∙ ap (λ v. before_others n v others) (asked ∙ c.in-Ok-Ok.ensures ∙ ap Says c.in-Ok-Ok.field-0-is)
