use Rattle.std.proofs.Common.{rules, ℕ, ◌+◌, List, ◌++◌, Bor, take, drop, sym, ap, ◌∙◌, append_assoc}
use Rattle.std.specs.List.{concat}
use Rattle.std.proofs.lemmas.List.{append_cancel_left}
use Rattle.script.specs.Removal.{bytes_of}
use Rattle.sighash.proofs.Pieces.{joined-all, joined-next}
use Rattle.sighash.proofs.code_pieces.are_code.Goals as goal

pub loop-piece-preserved : goal.loop-piece-preserved
loop-piece-preserved c =
    let pieces : List (Bor (List ℕ)) = c.args.pieces.now in
    let k = c.loop-piece.piece-index in
    let front : List ℕ = concat (bytes_of (take k pieces)) in
    let next : List ℕ = c.in-Some.next.now in
    ap (λ (t : List ℕ). t ++ next) (joined-next pieces k _ c.loop-piece-test.true) ∙ append_assoc front _ next
    ∙ ap (λ (t : List ℕ). front ++ t) (sym c.in-Some.ensures) ∙ c.loop-piece.invariant

pub returns-in_default : goal.returns-in_default
returns-in_default c =
    let pieces : List (Bor (List ℕ)) = c.args.pieces.now in
    let k = c.loop-piece.piece-index in
    let front : List ℕ = concat (bytes_of (take k pieces)) in
    let late : List ℕ = concat (bytes_of (drop (k + 1) pieces)) in (
      λ no. search rules,
      λ same. absurd (c.in_default.ensures late (append_cancel_left front c.loop-piece.rest.now _ (c.loop-piece.invariant ∙ sym same ∙ joined-all pieces k _ c.loop-piece-test.true))),
    )
