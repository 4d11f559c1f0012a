use Rattle.std.proofs.Common.{rules, ◌≡◌, ℕ, ◌+◌, ◌*◌, List, ◌∷◌, [], ◌++◌, length, map, take, drop, subst, sym, ap, ◌∙◌, arith}
use Rattle.std.specs.List.{flat_map}
use Rattle.std.proofs.lemmas.List.{length_push}
use Rattle.sha2.specs.declared.Sha256.{Sha256}
use Rattle.sha2.specs.Hashers.{Holds256}
use Rattle.txn.specs.declared.input.TxIn.{TxIn}
use Rattle.txn.specs.Tx.{Tx}
use Rattle.txn.specs.Grammar.{input}
use Rattle.sighash.specs.Digest.{other_input}
use Rattle.sighash.specs.inside.MessageFront.{beginning, AreMidstates}
use Rattle.sighash.proofs.Beginnings.{beginning_next, states_push}
use Rattle.sighash.proofs.midstates.states_of.Goals as goal

pub loop-place-preserved : goal.loop-place-preserved
loop-place-preserved c =
    let t = c.args.tx.now in
    let place = c.loop-place.place in
    let before : List Sha256 = c.loop-place.states.items in
    let hasher : Sha256 = c.feed_others.new.hasher in
    let next : List TxIn = c.split_at-in-loop-place.result.0.now in
    let there : next ≡ take 16 (drop (16 * place) t.inputs) = c.split_at-in-loop-place.ensures.front ∙ ap (take 16) (c.split_at.ensures.back ∙ ap (drop (16 * place)) (c.as_slice-inputs.ensures ∙ ap (λ (x : Tx). x.inputs) c.tx.view_is)) in
    let fed : Holds256 hasher (beginning t (16 * (place + 1))) =
    subst (Holds256 hasher)
    (ap (λ (l : List TxIn). beginning t (16 * place) ++ flat_map input.spell (map (other_input 1) l)) there ∙ beginning_next t (16 * place) 16 ∙ ap (beginning t) (omega arith))
    (c.feed_others.ensures _ c.loop-place.invariant.fed) in
    let same : c.unwrap.result ≡ hasher = search rules in
    let items : c.push.new.self.items ≡ before ++ c.unwrap.result ∷ [] = c.in_ok-push.ensures.items in
    let pushed : Holds256 c.unwrap.result (beginning t (16 * (length before + 1))) =
    subst (λ (s : Sha256). Holds256 s (beginning t (16 * (length before + 1)))) (sym same) (subst (λ (n : ℕ). Holds256 hasher (beginning t (16 * (n + 1)))) (sym c.loop-place.invariant.count) fed) in
    record {
      fed = fed;
      states = subst (AreMidstates t) (sym items) (states_push t before c.unwrap.result c.loop-place.invariant.states pushed);
      count = ap length items ∙ length_push before c.unwrap.result ∙ ap (λ n. n + 1) c.loop-place.invariant.count;
    }
