use Rattle.std.proofs.Common.{◌≡◌, ℕ, ◌+◌, ◌-◌, ◌<◌, ◌≤◌, List, [], ◌∷◌, ◌++◌, length, map, reverse, drop, get_or, suc, arith, refl, sym, ap, ◌∙◌}
use Rattle.std.proofs.lemmas.List.{append-nil, append_assoc, length-append, length-reverse, length-drop, length-map, map-id}
use Rattle.activate.specs.inside.ActiveBranch.{median_at}
use Rattle.activate.proofs.Trails.{turned_more, drop-all}
use Rattle.activate.proofs.active_branch.append_places.Goals as goal

none : (f : ℕ → ℕ) (k l : List ℕ) → k ≡ k ++ reverse (map f (drop (length l - 0) l))
none f k l = sym (ap (λ (q : List ℕ). k ++ reverse (map f q)) (ap (λ i. drop i l) {x = length l - 0} {y = length l} (omega arith) ∙ drop-all l) ∙ append-nil k)

-- one more of the places
one : (f : ℕ → ℕ) (k m l : List ℕ) (i x y : ℕ) → i < length l → x ≡ get_or l (length l - 1 - i) 0 → y ≡ f x → m ≡ k ++ reverse (map f (drop (length l - i) l)) → m ++ (y ∷ []) ≡ k ++ reverse (map f (drop (length l - (i + 1)) l))
one f k m l i x y h e g w =
    let n : ℕ = length l - 1 - i in
    ap (λ (q : List ℕ). q ++ (y ∷ [])) w ∙ append_assoc k (reverse (map f (drop (length l - i) l))) (y ∷ [])
    ∙ ap (λ z. k ++ (reverse (map f (drop (length l - i) l)) ++ (z ∷ []))) g
    ∙ ap (λ j. k ++ (reverse (map f (drop j l)) ++ (f x ∷ []))) {x = length l - i} {y = suc n} (omega arith)
    ∙ ap (λ (q : List ℕ). k ++ q) (sym (turned_more f l n x 0 (omega arith) e))
    ∙ ap (λ j. k ++ reverse (map f (drop j l))) {x = n} {y = length l - (i + 1)} (omega arith)

-- the places themselves
plain : (k l : List ℕ) (i : ℕ) → k ++ reverse (map (λ x. x) (drop i l)) ≡ k ++ reverse (drop i l)
plain k l i = ap (λ (q : List ℕ). k ++ reverse q) (map-id (drop i l))

size : (f : ℕ → ℕ) (k m l : List ℕ) (i : ℕ) → i ≤ length l → m ≡ k ++ reverse (map f (drop (length l - i) l)) → length m ≡ length k + i
size f k m l i h e =
    ap (λ (q : List ℕ). length q) e ∙ length-append k (reverse (map f (drop (length l - i) l)))
    ∙ ap (λ n. length k + n) (length-reverse (map f (drop (length l - i) l)) ∙ length-map (drop (length l - i) l) f ∙ length-drop (length l - i) l ∙ omega arith)

pub loop-index-init : goal.loop-index-init
loop-index-init c = record {
  branch = none (λ x. x) c.args.branch.now.items c.args.up.now ∙ plain c.args.branch.now.items c.args.up.now (length c.args.up.now - 0);
  medians = none (median_at c.args.tree.now.blocks) c.args.medians.now.items c.args.up.now;
  branch_room = refl;
  medians_room = refl;
}

pub push_reserved-requires : goal.push_reserved-requires
push_reserved-requires c =
    let n = size (λ x. x) c.args.branch.now.items c.loop-index.branch.items c.args.up.now c.loop-index.index c.loop-index.auto.index-end
    (c.loop-index.invariant.branch ∙ sym (plain c.args.branch.now.items c.args.up.now (length c.args.up.now - c.loop-index.index))) in
    let r = c.requires.places in
    let t = c.loop-index-test.true in
    let w = c.loop-index.branch.ok.0 in
    let v = c.loop-index.invariant.branch_room in
    omega arith

pub push_reserved-requires-in-loop-index : goal.push_reserved-requires-in-loop-index
push_reserved-requires-in-loop-index c =
    let n = size (median_at c.args.tree.now.blocks) c.args.medians.now.items c.loop-index.medians.items c.args.up.now c.loop-index.index c.loop-index.auto.index-end c.loop-index.invariant.medians in
    let r = c.requires.medians in
    let t = c.loop-index-test.true in
    let w = c.loop-index.medians.ok.0 in
    let v = c.loop-index.invariant.medians_room in
    omega arith

pub loop-index-preserved : goal.loop-index-preserved
loop-index-preserved c =
    let l = c.args.up.now in
    let i = c.loop-index.index in
    let t = c.loop-index-test.true in
    record {
      branch =
          c.push_reserved.ensures.items
          ∙ one (λ x. x) c.args.branch.now.items c.loop-index.branch.items l i (get_or l (length l - 1 - i) 0) (get_or l (length l - 1 - i) 0) t refl refl
          (c.loop-index.invariant.branch ∙ sym (plain c.args.branch.now.items l (length l - i)))
          ∙ plain c.args.branch.now.items l (length l - (i + 1));
      medians = c.push_reserved-in-loop-index.ensures.items ∙ one (median_at c.args.tree.now.blocks) c.args.medians.now.items c.loop-index.medians.items l i (get_or l (length l - 1 - i) 0) c.median.result t refl c.median.ensures c.loop-index.invariant.medians;
      branch_room = c.push_reserved.ensures.capacity ∙ c.loop-index.invariant.branch_room;
      medians_room = c.push_reserved-in-loop-index.ensures.capacity ∙ c.loop-index.invariant.medians_room;
    }

whole : (f : ℕ → ℕ) (k m l : List ℕ) (i : ℕ) → length l ≤ i → m ≡ k ++ reverse (map f (drop (length l - i) l)) → m ≡ k ++ reverse (map f l)
whole f k m l i h e = e ∙ ap (λ j. k ++ reverse (map f (drop j l))) {x = length l - i} {y = 0} (omega arith)

pub returns-clause-branch : goal.returns-clause-branch
returns-clause-branch c =
    whole (λ x. x) c.args.branch.now.items c.loop-index.branch.items c.args.up.now c.loop-index.index c.loop-index-test.false
    (c.loop-index.invariant.branch ∙ sym (plain c.args.branch.now.items c.args.up.now (length c.args.up.now - c.loop-index.index)))
    ∙ ap (λ (q : List ℕ). c.args.branch.now.items ++ reverse q) (map-id c.args.up.now)

pub returns-clause-medians : goal.returns-clause-medians
returns-clause-medians c = whole (median_at c.args.tree.now.blocks) c.args.medians.now.items c.loop-index.medians.items c.args.up.now c.loop-index.index c.loop-index-test.false c.loop-index.invariant.medians
