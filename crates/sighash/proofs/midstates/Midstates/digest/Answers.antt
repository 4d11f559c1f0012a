use Rattle.std.proofs.Common.{rules, ◌≡◌, false, ℕ, List, ◌++◌, ◌-◌, ap, ◌∙◌}
use Rattle.std.specs.List.{concat, flat_map}
use Rattle.sha2.specs.Hashers.{Holds256}
use Rattle.script.specs.Removal.{bytes_of}
use Rattle.hash.specs.Double.{double_sha}
use Rattle.wire.specs.Grammar.{counted_list}
use Rattle.txn.specs.Tx.{Tx}
use Rattle.txn.specs.Grammar.{input, output}
use Rattle.sighash.specs.Kind.{is_alone, frees_sequences}
use Rattle.sighash.specs.Digest.{digest_of}
use Rattle.sighash.specs.inside.MessageFront.{among, beginning}
use Rattle.sighash.proofs.Beginnings.{digest_from}
use Rattle.sighash.proofs.midstates.Midstates.digest.Goals as goal

pub returns : goal.returns
returns c =
    let t = c.args.self.now.tx.now in
    let kind = c.args.kind in
    let from = c.nearest-from.result.1 in
    let n = c.args.input in
    let code : List ℕ = concat (bytes_of c.args.code.now) in
    let signs : (is_alone kind ≡ false) × (frees_sequences kind ≡ false) = c.signs_inputs.ensures.0 (search rules) in
    let message : List ℕ = (((beginning t from ++ flat_map input.spell (among kind (n - from) code c.split_at.result.1.now)) ++ (counted_list output).spell c.as_slice-2.result.now) ++ c.to_le_bytes.result) ++ c.to_le_bytes-2.result in
    let holds : Holds256 c.update-2.new.self message = c.update-2.ensures _ (c.update.ensures _ (c.feed_outputs.ensures _ (c.feed_among.ensures _ c.nearest-from.ensures.fed))) in
    let same : double_sha message ≡ digest_of t n code kind =
    rw (c.to_le_bytes.ensures, c.to_le_bytes-2.ensures, c.as_slice-2.ensures, c.split_at.ensures.back, c.as_slice.ensures, ap (λ (x : Tx). x.inputs) c.tx.view_is, ap (λ (x : Tx). x.outputs) c.tx.view_is, ap (λ (x : Tx). x.lock_time) c.tx.view_is)
    (digest_from t kind from n code c.nearest-from.ensures.near c.requires signs.0 signs.1) in
    c.finish.ensures message holds ∙ same
