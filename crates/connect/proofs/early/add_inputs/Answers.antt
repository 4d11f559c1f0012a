use Rattle.std.proofs.Common.{rules, ◌≡◌, ◌++◌, List, ℕ, Option, take, map, sym, ap, ◌∙◌, arith}
use Rattle.std.specs.Option.{option_map, option_to_list}
use Rattle.std.specs.List.{flat_map, enumerate_from}
use Rattle.std.proofs.lemmas.List.{append_assoc}
use Rattle.txn.specs.declared.input.TxIn.{TxIn}
use Rattle.queue.specs.Jobs.{Spending, spending, Batch}
use Rattle.connect.specs.Early.{script_at, early_input}
use Rattle.connect.proofs.EarlyInputs.{numbered_next, with_more}
use Rattle.connect.proofs.early.add_inputs.Goals as goal

pub loop-input-preserved : goal.loop-input-preserved
loop-input-preserved g c =
    let place = c.args.place in
    let before = take place c.args.txs.now in
    let m = g.B.Base.coins c.args.base.now in
    let f : ℕ × TxIn → List Spending = early_input m before place in
    let inputs = c.as_slice-inputs.result.now in
    let i = c.loop-input.input in
    let x : TxIn = c.index-inputs-input.result in
    let start : Batch = c.args.jobs.now in
    let so_far = flat_map f (enumerate_from 0 (take i inputs)) in
    let added : c.add_input.new.jobs ≡ with_more c.loop-input.jobs (map (spending place i) (option_to_list (option_map (λ s. s.now) c.script_at-script.result))) = search rules in
    let spent : option_map (λ s. s.now) c.script_at-script.result ≡ script_at m before x.prev = c.script_at-script.ensures ∙ ap (λ (y : TxIn). script_at m before y.prev) (sym c.index-inputs-input.is) in
    added
    ∙ ap (λ (o : Option (List ℕ)). with_more c.loop-input.jobs (map (spending place i) (option_to_list o))) spent
    ∙ ap (λ (b : Batch). with_more b (f (i, x))) c.loop-input.invariant
    ∙ ap (λ (l : List Spending). record start { spendings = l }) (append_assoc start.spendings so_far (f (i, x)) ∙ ap (λ (l : List Spending). start.spendings ++ l) (sym (numbered_next f inputs i x (omega arith) c.index-inputs-input.is)))
