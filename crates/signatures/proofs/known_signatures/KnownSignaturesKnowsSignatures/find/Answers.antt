use Rattle.std.proofs.Common.{◌≡◌, ◌≤◌, List, length, ap, ◌∙◌}
use Rattle.signatures.specs.Known.{Verdicts, verdict_in}
use Rattle.signatures.specs.Triple.{Triple, triple_of}
use Rattle.signatures.specs.inside.Parts.{part_of, part_at, nothing}
use Rattle.signatures.proofs.Found.{none-beyond, verdict-in}
use Rattle.signatures.proofs.known_signatures.KnownSignaturesKnowsSignatures.find.Goals as goal

pub returns-in_err-part : goal.returns-in_err-part
returns-in_err-part c =
    let parts = c.self.inside.parts.items in
    let t : Triple = triple_of c.args.key.now c.args.signature.now c.args.digest.now in
    let k : c.from.result ≡ part_of t = c.from.ensures in
    let past : length c.as_slice.result.now ≤ c.from.result = c.in_err-part.ensures.lookup.3 in
    let high : length parts ≤ part_of t = rw (← ap (length {A = Verdicts}) c.as_slice.ensures.value, ← k) past in
    c.from_residual.ensures ∙ none-beyond parts t high ∙ ap (λ (f : Verdicts). verdict_in f t) c.self.view_is

pub returns : goal.returns
returns c =
    let parts = c.self.inside.parts.items in
    let t : Triple = triple_of c.args.key.now c.args.signature.now c.args.digest.now in
    let read : c.in_ok-part.part.now ≡ part_at parts (part_of t) = c.in_ok-part.ensures.lookup.3.1 nothing ∙ ap (λ (l : List Verdicts). part_at l c.from.result) c.as_slice.ensures.value ∙ ap (part_at parts) c.from.ensures in
    c.find.ensures ∙ ap (λ (v : Verdicts). verdict_in v t) read ∙ verdict-in parts t ∙ ap (λ (f : Verdicts). verdict_in f t) c.self.view_is
