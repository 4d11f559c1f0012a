use Rattle.std.proofs.Common.{◌≡◌, Some, None, Err, sym, ap, ◌∙◌, subst, inl, inr}
use Rattle.block.specs.BlockOfBytes.{block_of_bytes, Decodes}
use Rattle.model.specs.Commands.{outcome}
use Rattle.reference.specs.inside.Replay.{chain_rules, state_of_replayed}
use Rattle.model.specs.laws.Outcomes.{submitted, refused, invalidates, reconsiders, prefers, learns}
use Rattle.reference.proofs.step.step.Goals as goal

pub returns-in_ok-submit-in-Ok-clause-state : goal.returns-in_ok-submit-in-Ok-clause-state
returns-in_ok-submit-in-Ok-clause-state c =
    let r = chain_rules c.args.chain.now in
    let s = state_of_replayed c.args.old.now in
    let e : block_of_bytes c.in-Submit.bytes ≡ Some c.in-Ok.block =
    ap block_of_bytes (sym c.as_slice.ensures) ∙ subst (λ o. Decodes o (block_of_bytes c.as_slice.result.now)) c.in-Ok.is c.read.ensures.exact in
    c.in_ok-submit-in-Ok.ensures.state ∙ submitted r s c.in-Submit.bytes c.in-Submit.now c.in-Ok.block e ∙ ap (outcome r s) (sym c.in-Submit.is)

pub returns-in_ok-undecodable-in-Err-clause-state : goal.returns-in_ok-undecodable-in-Err-clause-state
returns-in_ok-undecodable-in-Err-clause-state c =
    let r = chain_rules c.args.chain.now in
    let s = state_of_replayed c.args.old.now in
    let exact : Decodes (Err c.in-Err.fault) (block_of_bytes c.as_slice.result.now) = subst (λ o. Decodes o (block_of_bytes c.as_slice.result.now)) c.in-Err.is c.read.ensures.exact in
    let e : block_of_bytes c.in-Submit.bytes ≡ None = ap block_of_bytes (sym c.as_slice.ensures) ∙ elim exact [ inl m ↦ absurd (c.in_ok-undecodable-in-Err.ensures m) | inr n ↦ n ] in
    refused r s c.in-Submit.bytes c.in-Submit.now e ∙ ap (outcome r s) (sym c.in-Submit.is)

pub returns-in_ok-invalidate-in-Invalidate-clause-state : goal.returns-in_ok-invalidate-in-Invalidate-clause-state
returns-in_ok-invalidate-in-Invalidate-clause-state c =
    let r = chain_rules c.args.chain.now in
    let s = state_of_replayed c.args.old.now in
    c.in_ok-invalidate-in-Invalidate.ensures.state ∙ invalidates r s c.in-Invalidate.id ∙ ap (outcome r s) (sym c.in-Invalidate.is)

pub returns-in_ok-reconsider-in-Reconsider-clause-state : goal.returns-in_ok-reconsider-in-Reconsider-clause-state
returns-in_ok-reconsider-in-Reconsider-clause-state c =
    let r = chain_rules c.args.chain.now in
    let s = state_of_replayed c.args.old.now in
    c.in_ok-reconsider-in-Reconsider.ensures.state ∙ reconsiders r s c.in-Reconsider.id ∙ ap (outcome r s) (sym c.in-Reconsider.is)

pub returns-in_ok-prefer-in-Precious-clause-state : goal.returns-in_ok-prefer-in-Precious-clause-state
returns-in_ok-prefer-in-Precious-clause-state c =
    let r = chain_rules c.args.chain.now in
    let s = state_of_replayed c.args.old.now in
    c.in_ok-prefer-in-Precious.ensures.state ∙ prefers r s c.in-Precious.id ∙ ap (outcome r s) (sym c.in-Precious.is)

pub returns-in-Learn-clause-state : goal.returns-in-Learn-clause-state
returns-in-Learn-clause-state c =
    let r = chain_rules c.args.chain.now in
    let s = state_of_replayed c.args.old.now in
    learns r s c.in-Learn.field-0 c.in-Learn.field-1 ∙ ap (outcome r s) (sym c.in-Learn.is)
