use Rattle.std.proofs.Common.{List, [], ◌∷◌, ◌++◌, Bool, false, true, ap, ◌∙◌}
use Rattle.std.specs.FinSet as set
use Rattle.rules.specs.Params.{regtest}
use Rattle.reference.specs.declared.kept_block.KeptBlock.{KeptBlock}
use Rattle.reference.proofs.Changes.{first_state, first_right}
use Rattle.reference.proofs.state.Replayed.new.Goals as goal

pub returns-clause-state : goal.returns-clause-state
returns-clause-state c =
    first_state
    regtest set.empty (record { held = c.push.new.self; bad = c.push-2.new.self; seen = c.push-3.new.self; calls = c.new-4.result })
    (c.in_ok-push.ensures.items ∙ ap (λ (l : List KeptBlock). l ++ c.genesis.result ∷ []) c.new.ensures.items ∙ ap (λ (h : KeptBlock). h ∷ []) c.genesis.ensures)
    (c.in_ok-push-2.ensures.items ∙ ap (λ (l : List Bool). l ++ false ∷ []) c.new-2.ensures.items)
    (c.in_ok-push-3.ensures.items ∙ ap (λ (l : List Bool). l ++ true ∷ []) c.new-3.ensures.items)
    c.new-4.ensures.items

pub returns-clause-right : goal.returns-clause-right
returns-clause-right c params triples =
    first_right
    params triples (record { held = c.push.new.self; bad = c.push-2.new.self; seen = c.push-3.new.self; calls = c.new-4.result })
    (c.in_ok-push.ensures.items ∙ ap (λ (l : List KeptBlock). l ++ c.genesis.result ∷ []) c.new.ensures.items ∙ ap (λ (h : KeptBlock). h ∷ []) c.genesis.ensures)
    (c.in_ok-push-2.ensures.items ∙ ap (λ (l : List Bool). l ++ false ∷ []) c.new-2.ensures.items)
    (c.in_ok-push-3.ensures.items ∙ ap (λ (l : List Bool). l ++ true ∷ []) c.new-3.ensures.items)
    c.new-4.ensures.items
