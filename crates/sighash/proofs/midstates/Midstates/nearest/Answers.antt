use Rattle.std.proofs.Common.{rules, ◌≡◌, ℕ, ◌+◌, ◌-◌, ◌*◌, ◌/◌, ◌<◌, List, length, get_or, refl, subst, sym, arith}
use Rattle.std.proofs.lemmas.Option.{slice_get_read}
use Rattle.sha2.specs.declared.Sha256.{Sha256}
use Rattle.sha2.specs.Hashers.{Holds256}
use Rattle.sighash.specs.inside.MessageFront.{beginning}
use Rattle.sighash.proofs.midstates.Midstates.nearest.Goals as goal

pub returns-in-Some-clause-fed : goal.returns-in-Some-clause-fed
returns-in-Some-clause-fed c =
    let t = c.args.self.now.tx.now in
    let steps = c.args.input / 16 in
    let states : List Sha256 = c.states.result.now in
    let state : Sha256 = c.in-Some.state.now in
    let within : steps - 1 < length states = search rules in
    let read : state ≡ get_or states (steps - 1) state = search rules in
    let same : c.unwrap.result ≡ state = search rules in
    let place : 16 * (steps - 1 + 1) ≡ steps * 16 = omega arith in
    subst (λ (s : Sha256). Holds256 s (beginning t (steps * 16))) (sym same)
    (subst (λ (n : ℕ). Holds256 state (beginning t n)) place (c.states.ensures (steps - 1) state (slice_get_read states (length states) (steps - 1) state refl within read)))
