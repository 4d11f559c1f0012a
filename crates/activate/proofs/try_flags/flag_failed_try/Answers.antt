use Rattle.std.proofs.Common.{◌≡◌, ℕ, ◌+◌, ◌-◌, ◌≤◌, true, List, [], ◌∷◌, ◌++◌, length, reverse, take, drop, get_or, sym, ap, ◌∙◌, subst, arith}
use Rattle.std.proofs.Math.Seq.{drop-append-add, get_or-append_seam}
use Rattle.std.proofs.lemmas.List.{reverse-reverse, reverse-append, append_assoc, length-reverse, length-append, take_all}
use Rattle.block.specs.declared.block.Block.{Block}
use Rattle.hash.specs.declared.id.Id.{Id}
use Rattle.tree.specs.Branches.{Blocks, has, parent_at, places}
use Rattle.tree.specs.State.{State, union_where, with_mark}
use Rattle.tree.specs.laws.Branches.{on-bounds}
use Rattle.tree.specs.laws.Parents.{parent-kept}
use Rattle.tree.specs.laws.Above.{OnWay, above-part}
use Rattle.activate.specs.declared.path.FailedTry.{FailedTry}
use Rattle.model.specs.Rules.{Rules}
use Rattle.activate.specs.inside.Paths.{FailsAt}
use Rattle.activate.specs.inside.Preparation.{IsFailedTry}
use Rattle.activate.specs.laws.TryNotes.{above-on, flaw_noted}
use Rattle.activate.proofs.try_flags.flag_failed_try.Goals as goal

-- a list by the parts that it has when it is turned round
module _ (up front rest : List ℕ) (x k : ℕ) (parts : reverse up ≡ front ++ (x ∷ rest)) (after : k ≡ length up - length front) where
  turned : up ≡ reverse rest ++ (x ∷ reverse front)
  turned =
      sym (reverse-reverse up) ∙ ap reverse parts ∙ reverse-append front (x ∷ rest) ∙ ap (λ (l : List ℕ). l ++ reverse front) (reverse-append (x ∷ []) rest)
      ∙ append_assoc (reverse rest) (x ∷ []) (reverse front)

  long : length up ≡ length rest + (1 + length front)
  long = ap (λ (l : List ℕ). length l) turned ∙ length-append (reverse rest) (x ∷ reverse front) ∙ (let a = length-reverse rest in let b = length-reverse front in omega arith)

  one-is : (d : ℕ) → get_or up (k - 1) d ≡ x
  one-is d =
      let l = long in
      let r = length-reverse rest in
      let e : k - 1 ≡ length (reverse rest) = omega arith in
      ap (λ (m : List ℕ). get_or m (k - 1) d) turned ∙ ap (λ (i : ℕ). get_or (reverse rest ++ (x ∷ reverse front)) i d) e ∙ get_or-append_seam (reverse rest) x (reverse front) d

  rest-is : (n : ℕ) → n ≡ length up → take (n - k) (drop k up) ≡ reverse front
  rest-is n same =
      let l = long in
      let r = length-reverse rest in
      let f = length-reverse front in
      let e : k ≡ length (reverse rest) + 1 = omega arith in
      ap (λ (m : List ℕ). take (n - k) (drop k m)) turned ∙ ap (λ (i : ℕ). take (n - k) (drop i (reverse rest ++ (x ∷ reverse front)))) e
      ∙ ap (take (n - k)) (drop-append-add (reverse rest) (x ∷ reverse front) 1) ∙ take_all (n - k) (reverse front) (omega arith)

-- a failed try by its parts
module _ (r : Rules Block Id) (t : Blocks Block) (a p : ℕ) (failed : FailedTry) (kept : p ≤ length t) (is : FailsAt r t a p failed) (k : ℕ) (after : k ≡ failed.path.up.len - failed.passed) where
  start : k ≡ length failed.path.up.items - length is.stop.front
  start = let l = failed.path.up.ok.0 in let n = is.stop.counted in omega arith

  on_way : OnWay t failed.path.fork is.stop.place (reverse is.stop.front)
  on_way = above-part t p failed.path.fork kept is.path.shared.there (reverse is.stop.rest) is.stop.place (reverse is.stop.front) (sym is.path.up ∙ turned failed.path.up.items is.stop.front is.stop.rest is.stop.place k is.stop.parts start)

  fails-is : (d : ℕ) → get_or failed.path.up.items (k - 1) d ≡ is.stop.place
  fails-is d = one-is failed.path.up.items is.stop.front is.stop.rest is.stop.place k is.stop.parts start d

  passed-are : (l : List ℕ) → l ≡ failed.path.up.items → take (length l - k) (drop k l) ≡ reverse is.stop.front
  passed-are l e =
      ap (λ (m : List ℕ). take (length l - k) (drop k m)) e
      ∙ rest-is failed.path.up.items is.stop.front is.stop.rest is.stop.place k is.stop.parts start (length l) (ap (λ (m : List ℕ). length m) e)

  passed-kept : (x : ℕ) → has (reverse is.stop.front) x ≡ true → x ≤ length t
  passed-kept x h =
      let w = on_way in
      let g = w.above_f in
      (on-bounds t (parent_at t is.stop.place) x
      (above-on t failed.path.fork (parent_at t is.stop.place) x (parent-kept t is.stop.place (omega arith) w.kept) w.on_parent (ap (λ (l : List ℕ). has l x) (sym w.rest_is) ∙ h))).1

-- the same in a state, where k is the first place of those that passed
module _ (r : Rules Block Id) (s : State Block) (a p : ℕ) (failed : FailedTry) (is : IsFailedTry r s a p failed) (k : ℕ) (after : k ≡ failed.path.up.len - failed.passed) where
  went : OnWay s.blocks failed.path.fork is.fails.stop.place (reverse is.fails.stop.front)
  went = on_way r s.blocks a p failed is.kept is.fails k after

  -- the place that is marked
  marks : (x : ℕ) → x ≡ get_or failed.path.up.items (k - 1) x → x ≡ is.fails.stop.place
  marks x e = e ∙ fails-is r s.blocks a p failed is.kept is.fails k after x

  -- and those that are seen
  sees : (t : State Block) (l : List ℕ) → l ≡ failed.path.up.items → t ≡ record s { seen = union_where (places s.blocks) s.seen (λ x. has (take (length l - k) (drop k l)) x) }
      → t ≡ record s { seen = union_where (places s.blocks) s.seen (λ x. has (reverse is.fails.stop.front) x) }
  sees t l e f = f ∙ ap (λ (m : List ℕ). record s { seen = union_where (places s.blocks) s.seen (λ x. has m x) }) (passed-are r s.blocks a p failed is.kept is.fails k after l e)

pub see_all-requires-clause-kept : goal.see_all-requires-clause-kept
see_all-requires-clause-kept g c = λ x h.
    let r = c.requires.0 in
    let a = c.requires.1 in
    let p = c.requires.2 in
    let is = c.requires.3 in
    let t = (g.M.Marking.state c.args.tree.now).blocks in
    let k = c.len.result - c.args.failed.now.passed in
    let e : k ≡ c.args.failed.now.path.up.len - c.args.failed.now.passed = ap (λ (n : ℕ). n - c.args.failed.now.passed) c.len.ensures in
    passed-kept r t a p c.args.failed.now is.kept is.fails k e x
    (ap (λ (l : List ℕ). has l x) (sym (passed-are r t a p c.args.failed.now is.kept is.fails k e c.deref.result.now c.deref.ensures.value)) ∙ h)

pub see_all-requires-clause-order : goal.see_all-requires-clause-order
see_all-requires-clause-order g c = c.requires.3.flags.seen_in_order

pub mark-requires-clause-not_genesis : goal.mark-requires-clause-not_genesis
mark-requires-clause-not_genesis g c =
    let s = g.M.Marking.state c.args.tree.now in
    let after = ap (λ (n : ℕ). n - c.args.failed.now.passed) c.len.ensures in
    let m = marks c.requires.0 s c.requires.1 c.requires.2 c.args.failed.now c.requires.3 _ after c.index.result.now c.index.ensures in
    let w = (went c.requires.0 s c.requires.1 c.requires.2 c.args.failed.now c.requires.3 _ after).above_f in
    omega arith

pub mark-requires-clause-kept : goal.mark-requires-clause-kept
mark-requires-clause-kept g c =
    let s = g.M.Marking.state c.args.tree.now in
    let after = ap (λ (n : ℕ). n - c.args.failed.now.passed) c.len.ensures in
    let m = marks c.requires.0 s c.requires.1 c.requires.2 c.args.failed.now c.requires.3 _ after c.index.result.now c.index.ensures in
    let l = (went c.requires.0 s c.requires.1 c.requires.2 c.args.failed.now c.requires.3 _ after).kept in
    subst (λ (t : State Block). c.index.result.now ≤ length t.blocks)
    (sym (sees c.requires.0 s c.requires.1 c.requires.2 c.args.failed.now c.requires.3 _ after (g.M.Marking.state c.see_all.new.tree) c.deref.result.now c.deref.ensures.value c.see_all.ensures)) (omega arith)

pub returns : goal.returns
returns g c r a p is =
    let s = g.M.Marking.state c.args.tree.now in
    let failed = c.args.failed.now in
    let after = ap (λ (n : ℕ). n - failed.passed) c.len.ensures in
    c.mark.ensures ∙ ap (λ (x : ℕ). with_mark (g.M.Marking.state c.see_all.new.tree) x) (marks r s a p failed is _ after c.index.result.now c.index.ensures)
    ∙ ap (λ (t : State Block). with_mark t is.fails.stop.place) (sees r s a p failed is _ after (g.M.Marking.state c.see_all.new.tree) c.deref.result.now c.deref.ensures.value c.see_all.ensures)
    ∙ flaw_noted r s a p failed.path.fork is.kept is.fails.path.shared is.flags.seen
    is.fails.stop.place (reverse is.fails.stop.front) is.fails.stop.first (went r s a p failed is _ after)
