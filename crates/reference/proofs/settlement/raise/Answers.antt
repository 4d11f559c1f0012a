use Rattle.std.proofs.Common.{◌≡◌, ℕ, ◌+◌, ◌<◌, ◌≤◌, Bool, false, ◌&&◌, ◌||◌, List, length, sym, ap, ◌∙◌, inl, inr, arith}
use Rattle.std.proofs.Math.ListN.{set}
use Rattle.std.proofs.lemmas.Bool.{cases_eq}
use Rattle.std.proofs.lemmas.List.{length-set, get_or_default, get_or_read}
use Rattle.reference.specs.declared.judgement.Judgement.{Judgement}
use Rattle.reference.specs.inside.Replay.{is_flagged, judgement_in, no_judgement, is_first, is_valid}
use Rattle.reference.proofs.Flags.{flag_written, flag_here}
use Rattle.reference.proofs.settlement.raise.Goals as goal

-- one place more
next_flag : (old new : List Bool) (p : ℕ) (v : Bool) (g : ℕ → Bool) → p < length new → is_flagged new p ≡ is_flagged old p → v ≡ (is_flagged new p || g p) → ((x : ℕ) → x < p → is_flagged new x ≡ (is_flagged old x || g x))
    → (x : ℕ) → x < p + 1 → is_flagged (set new p v) x ≡ (is_flagged old x || g x)
next_flag old new p v g h same e before x l =
    elim (cases_eq x p) [
      | inl w ↦ ap (is_flagged (set new p v)) w ∙ flag_here new p v h ∙ e ∙ ap (λ b. b || g p) same ∙ ap (λ (q : ℕ). is_flagged old q || g q) (sym w)
      | inr w ↦ flag_written new p x v h w ∙ before x (omega arith)
    ]

later_flag : (old new : List Bool) (p : ℕ) (v : Bool) → p < length new → ((x : ℕ) → p ≤ x → is_flagged new x ≡ is_flagged old x) → (x : ℕ) → p + 1 ≤ x → is_flagged (set new p v) x ≡ is_flagged old x
later_flag old new p v h later x l = flag_written new p x v h (omega arith) ∙ later x (omega arith)

pub loop-place-preserved : goal.loop-place-preserved
loop-place-preserved c =
    let p = c.loop-place.place in
    let i = c.loop-place.invariant in
    let t = c.loop-place-test.true in
    let sb = i.same_bad in
    let ss = i.same_seen in
    let j = c.requires.judged in
    let bads = c.loop-place.bad.items in
    let seens = c.loop-place.seen.items in
    let first : ℕ → Bool = λ x. is_first (judgement_in c.args.judged.now x).trial && is_flagged c.args.near.now x in
    let good : ℕ → Bool = λ x. is_valid (judgement_in c.args.judged.now x).trial && is_flagged c.args.near.now x in
    let bad_now : c.joined.result ≡ (is_flagged bads p || first p) =
    c.joined.ensures
    ∙ ap (λ (b : Bool). b || (c.is_first.result && is_flagged c.args.near.now p)) (get_or_read bads p c.index.result.now (omega (arith, t, sb)) c.index.ensures false)
    ∙ ap (λ (b : Bool). is_flagged bads p || (b && is_flagged c.args.near.now p))
    (c.is_first.ensures ∙ ap (λ (k : Judgement). is_first k.trial) (get_or_default c.args.judged.now p _ no_judgement (omega (arith, t, j)))) in
    let seen_now : c.joined-in-loop-place.result ≡ (is_flagged seens p || good p) =
    c.joined-in-loop-place.ensures
    ∙ ap (λ (b : Bool). b || (c.is_valid.result && is_flagged c.args.near.now p)) (get_or_read seens p c.index-in-loop-place.result.now (omega (arith, t, ss)) c.index-in-loop-place.ensures false)
    ∙ ap (λ (b : Bool). is_flagged seens p || (b && is_flagged c.args.near.now p))
    (c.is_valid.ensures ∙ ap (λ (k : Judgement). is_valid k.trial) (get_or_default c.args.judged.now p _ no_judgement (omega (arith, t, j)))) in
    record {
      same_bad = length-set bads p c.joined.result ∙ sb;
      same_seen = length-set seens p c.joined-in-loop-place.result ∙ ss;
      bad = next_flag c.args.bad.now.items bads p c.joined.result first (omega arith) (i.later_bad p (omega arith)) bad_now i.bad;
      seen = next_flag c.args.seen.now.items seens p c.joined-in-loop-place.result good (omega arith) (i.later_seen p (omega arith)) seen_now i.seen;
      later_bad = later_flag c.args.bad.now.items bads p c.joined.result (omega arith) i.later_bad;
      later_seen = later_flag c.args.seen.now.items seens p c.joined-in-loop-place.result (omega arith) i.later_seen;
    }
