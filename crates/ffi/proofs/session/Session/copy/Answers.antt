-- What is copied is the same, so it is a chainstate under the same sets.
use Rattle.std.proofs.Common.{sym, subst}
use Rattle.signatures.specs.Known.{Under}
use Rattle.activate.specs.CoreState.{WithCoins, IsChainstate}
use Rattle.ffi.specs.Signatures.{valid_in}
use Rattle.ffi.specs.declared.signature_sources.Signatures.{Signatures}
use Rattle.ffi.specs.inside.Signatures.{known_in}
use Rattle.ffi.proofs.session.Session.copy.Goals as goal

pub invariant_of-result : goal.invariant_of-result
invariant_of-result c =
    let chain = c.self.inside.chain in
    let copied = c.in_ok-signatures.signatures in
    subst (λ (x : WithCoins). Under (known_in copied) (λ triples. IsChainstate x triples) × IsChainstate x (valid_in copied)) (sym c.in_ok-chain.ensures)
    (subst (λ (x : Signatures). Under (known_in x) (λ triples. IsChainstate chain triples) × IsChainstate chain (valid_in x)) (sym c.in_ok-signatures.ensures) c.self.invariant)
