use Rattle.std.proofs.Common.{◌≡◌, None, sym, ap, subst, ◌∙◌}
use Rattle.signatures.specs.Known.{Under, verdict_in}
use Rattle.signatures.specs.Triple.{Triple, triple_of}
use Rattle.activate.specs.CoreState.{IsChainstate}
use Rattle.ffi.specs.declared.signature_sources.Signatures.{Signatures}
use Rattle.ffi.specs.inside.Signatures.{known_in}
use Rattle.ffi.proofs.Sessions.{grown}
use Rattle.ffi.proofs.session.Session.learn.Goals as goal

pub invariant_of-self : goal.invariant_of-self
invariant_of-self c =
    let t : Triple = triple_of c.args.key.now c.args.signature.now c.args.digest.now in
    let none : verdict_in c.in-Found.found t ≡ None = ap (λ (x : Signatures). known_in x t) (sym c.in-Found.is) ∙ sym c.find.ensures ∙ c.in-None.is in
    let was : Under (verdict_in c.in-Found.found) (IsChainstate c.self.inside.chain) = subst (λ (x : Signatures). Under (known_in x) (IsChainstate c.self.inside.chain)) c.in-Found.is c.self.invariant.0 in
    grown c.learn.result c.in-Found.found c.learn.new.self t c.args.valid (IsChainstate c.self.inside.chain) none c.learn.ensures.ok c.learn.ensures.err was
