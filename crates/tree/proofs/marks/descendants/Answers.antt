use Rattle.std.proofs.Common.{◌≡◌, ℕ, Bool, false, List, [], ◌∷◌, ◌++◌, length, get_or, sym, ap, ◌∙◌, inl, inr, arith}
use Rattle.std.proofs.lemmas.Bool.{cases_eq}
use Rattle.std.proofs.lemmas.List.{length-append}
use Rattle.tree.specs.declared.block_index.BlockIndex.{BlockIndex}
use Rattle.tree.specs.Branches.{on}
use Rattle.tree.specs.Nodes.{blocks_of}
use Rattle.tree.proofs.Changes.{parent_before}
use Rattle.tree.proofs.ClearedMarks.{stands, flag_push, flag_last}
use Rattle.tree.proofs.marks.descendants.Goals as goal

pub stands_on-stands-requires : goal.stands_on-stands-requires
stands_on-stands-requires c = λ z.
    let t = c.loop-next-test.true in
    let b = (parent_before c.args.nodes.now c.loop-next.next c.index-nodes-next.result c.requires.nodes z t c.index-nodes-next.is).1 in
    let e = ap (λ (n : BlockIndex). n.parent) c.index-nodes-next.is in
    let i = c.loop-next.invariant.0 in
    let l = ap (λ (k : List Bool). length k) c.deref.ensures.value in
    omega arith

pub loop-next-preserved : goal.loop-next-preserved
loop-next-preserved c =
    let ns = c.args.nodes.now in
    let p = c.loop-next.next in
    let n = c.index-nodes-next.result in
    let i = c.loop-next.invariant in
    let t = c.loop-next-test.true in
    let flags = c.loop-next.down.items in
    let items = c.in_ok-push.ensures.items in
    let len = ap (λ (k : List Bool). length k) items in
    let more = length-append flags (c.stands_on-stands.result ∷ []) in
    let j = i.0 in
    let own : c.stands_on-stands.result ≡ on (blocks_of ns) p c.args.place =
    c.stands_on-stands.ensures
    ∙ stands ns p n c.args.place (get_or c.deref.result.now (get_or ns p n).parent false) c.requires.nodes t c.index-nodes-next.is
    (λ z. let b = (parent_before ns p n c.requires.nodes z t c.index-nodes-next.is).1 in
    ap (λ (k : List Bool). get_or k (get_or ns p n).parent false) c.deref.ensures.value
    ∙ ap (λ (q : ℕ). get_or flags q false) (ap (λ (m : BlockIndex). m.parent) (sym c.index-nodes-next.is))
    ∙ i.1 n.parent (omega arith))
    in (
      omega arith,
      λ x h. ap (λ (k : List Bool). get_or k x false) items ∙ elim (cases_eq x p) [
        | inl e ↦ ap (λ (q : ℕ). get_or (flags ++ c.stands_on-stands.result ∷ []) q false) e ∙ flag_last flags c.stands_on-stands.result p i.0 ∙ own ∙ ap (λ (q : ℕ). on (blocks_of ns) q c.args.place) (sym e)
        | inr e ↦ flag_push flags c.stands_on-stands.result p x i.0 (omega arith) ∙ i.1 x (omega arith)
      ],
    )
