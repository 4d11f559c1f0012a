use Rattle.std.proofs.Common.{rules, ◌≡◌, ◌<◌, [], List, ℕ, Option, Some, cond, length, take, get_or, map, sym, ap, subst, ◌∙◌, arith}
use Rattle.std.specs.Prelude.{slice_get}
use Rattle.std.specs.Option.{option_map}
use Rattle.std.specs.List.{flat_map, enumerate_from}
use Rattle.std.specs.Map.{lookup}
use Rattle.std.specs.BTreeMap.{is_at}
use Rattle.std.specs.Ordering.{eq_by_cmp}
use Rattle.std.proofs.lemmas.List.{take_all}
use Rattle.std.proofs.lemmas.Option.{slice_get-get_or, slice_get-map, get_or_from_slice_get}
use Rattle.hash.specs.declared.id.Id.{Id}
use Rattle.txn.specs.Tx.{Tx}
use Rattle.txn.specs.Identity.{id_of}
use Rattle.queue.specs.Jobs.{Spending, Batch, tx_at}
use Rattle.connect.specs.Scripts.{flags_of}
use Rattle.hash.specs.Id.{id_cmp}
use Rattle.connect.specs.Early.{early_inputs, early_spendings}
use Rattle.connect.specs.inside.Early.{ArePlaces}
use Rattle.connect.proofs.Steps.{take_item}
use Rattle.connect.proofs.EarlyInputs.{numbered_next, with_more, places_next, places_none}
use Rattle.connect.proofs.early.early_jobs.Goals as goal

pub loop-place-init : goal.loop-place-init
loop-place-init g c =
    let txs = c.as_slice-txs.result.now in
    record {
      jobs = c.new-jobs.ensures ∙ ap (λ f. record { txs = txs; flags = f; spendings = [] }) c.flags_of.ensures;
      places = subst (ArePlaces txs []) (sym c.new-places.ensures.empty) (places_none txs);
    }

pub add_inputs-requires-clause-txs : goal.add_inputs-requires-clause-txs
add_inputs-requires-clause-txs g c = ap (λ (b : Batch). b.txs) c.loop-place.invariant.jobs

pub loop-place-preserved : goal.loop-place-preserved
loop-place-preserved g c =
    let txs = c.as_slice-txs.result.now in
    let m = g.B.Base.coins c.args.base.now in
    let f : ℕ × Tx → List Spending = (λ t. early_inputs m (take t.0 txs) t.0 t.1) in
    let place = c.loop-place.place in
    let tx : Tx = tx_at txs place in
    let within : place < length txs = search rules in
    let there : slice_get txs place ≡ Some tx = slice_get-get_or txs place _ within in
    let is : tx ≡ get_or txs place tx = sym (get_or_from_slice_get txs place tx tx there) in
    let added : c.add_inputs.new.jobs ≡ with_more c.loop-place.jobs (f (place, tx)) = search rules in
    let ids : c.args.ids.now ≡ map id_of txs = c.requires.ids ∙ ap (map id_of) (sym c.as_slice-txs.ensures) in
    let d : Id = record { 0 = [] } in
    let id : get_or c.args.ids.now place d ≡ id_of tx =
    ap (λ (l : List Id). get_or l place d) ids ∙ get_or_from_slice_get (map id_of txs) place (id_of tx) d (slice_get-map id_of txs place ∙ ap (option_map id_of) there) in
    let old = c.loop-place.places.entries in
    let new = c.insert.new.self.entries in
    let updates : (q : Id) → lookup (is_at (id_cmp q)) new ≡ cond {A = Option ℕ} (eq_by_cmp id_cmp (id_of tx) q) (Some place) (lookup (is_at (id_cmp q)) old) =
    (λ q. c.in_ok-insert.ensures.updates.0 q ∙ ap (λ (x : Id). cond {A = Option ℕ} (eq_by_cmp id_cmp x q) (Some place) (lookup (is_at (id_cmp q)) old)) id) in
    record {
      jobs = added
          ∙ ap (λ (b : Batch). with_more b (f (place, tx))) c.loop-place.invariant.jobs
          ∙ ap (λ (l : List Spending). record { txs = txs; flags = flags_of c.args.rules; spendings = l }) (sym (numbered_next f txs place tx within is));
      places = subst (λ (l : List Tx). ArePlaces txs l new) (sym (take_item txs place tx within is)) (places_next txs (take place txs) old new place tx there updates c.loop-place.invariant.places);
    }

pub returns : goal.returns
returns g c =
    let txs = c.as_slice-txs.result.now in
    let m = g.B.Base.coins c.args.base.now in
    let f : ℕ × Tx → List Spending = (λ t. early_inputs m (take t.0 txs) t.0 t.1) in
    c.loop-place.invariant.jobs
    ∙ ap (λ (l : List Tx). record { txs = txs; flags = flags_of c.args.rules; spendings = flat_map f (enumerate_from 0 l) }) (take_all c.loop-place.place txs (omega arith))
    ∙ ap (λ (l : List Tx). record { txs = l; flags = flags_of c.args.rules; spendings = early_spendings m l }) c.as_slice-txs.ensures
