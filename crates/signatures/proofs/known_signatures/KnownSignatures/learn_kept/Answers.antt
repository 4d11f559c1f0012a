use Rattle.std.proofs.Common.{◌≡◌, ◌<◌, List, ℕ, get_or, length, set, sym, ap, ◌∙◌, arith}
use Rattle.signatures.specs.Known.{Verdicts, verdict_in, with_verdict}
use Rattle.signatures.specs.Triple.{Triple}
use Rattle.signatures.specs.inside.Parts.{part_of, part_at, whole}
use Rattle.std.proofs.lemmas.Result.{on_ok_weaker}
use Rattle.signatures.proofs.Found.{at-read, verdict-in, whole-more}
use Rattle.signatures.proofs.known_signatures.KnownSignatures.learn_kept.Goals as goal

pub learn-requires : goal.learn-requires
learn-requires c =
    let parts = c.add_parts.new.parts.items in
    let t : Triple = c.args.triple.now in
    let k : c.from-place.result ≡ part_of t = c.from-place.ensures ∙ ap (λ (d : List ℕ). get_or d 0 0) c.digest.ensures in
    let long = c.in_ok-add_parts.ensures.long in
    let within : c.from-place.result < length parts = omega (arith, long) in
    let read : c.index_mut.result.now ≡ part_at parts (part_of t) = at-read parts c.from-place.result c.index_mut.result.now within c.index_mut.ensures.value ∙ ap (part_at parts) k in
    ap (λ (v : Verdicts). verdict_in v t) read ∙ verdict-in parts t ∙ ap (λ (f : Verdicts). verdict_in f t) (c.in_ok-add_parts.ensures.same ∙ c.self.view_is) ∙ c.requires

pub returns-clause-ok : goal.returns-clause-ok
returns-clause-ok c =
    let parts = c.add_parts.new.parts.items in
    let t : Triple = c.args.triple.now in
    let valid = c.args.valid in
    let k : c.from-place.result ≡ part_of t = c.from-place.ensures ∙ ap (λ (d : List ℕ). get_or d 0 0) c.digest.ensures in
    let long = c.in_ok-add_parts.ensures.long in
    let within : c.from-place.result < length parts = omega (arith, long) in
    let there : part_of t < length parts = rw (sym k) within in
    let read : c.index_mut.result.now ≡ part_at parts (part_of t) = at-read parts c.from-place.result c.index_mut.result.now within c.index_mut.ensures.value ∙ ap (part_at parts) k in
    on_ok_weaker c.learn.result
    (λ (e : c.learn.new.self ≡ with_verdict c.index_mut.result.now t valid).
    ap (λ (v : Verdicts). whole (set parts c.from-place.result v)) (e ∙ ap (λ (p : Verdicts). with_verdict p t valid) read)
    ∙ ap (λ n. whole (set parts n (with_verdict (part_at parts (part_of t)) t valid))) k
    ∙ whole-more parts t there valid
    ∙ ap (λ (f : Verdicts). with_verdict f t valid) (c.in_ok-add_parts.ensures.same ∙ c.self.view_is))
    c.learn.ensures.ok
