use Rattle.std.proofs.Common.{rules, ◌≡◌, ℕ, List, [], ◌∷◌, ◌++◌, true, map, sym, ap, ◌∙◌}
use Rattle.std.proofs.lemmas.List.{append_assoc}
use Rattle.tree.specs.declared.tip_order.Top.{Top}
use Rattle.tree.specs.inside.Tops.{top_at}
use Rattle.tree.specs.Branches.{has}
use Rattle.tree.specs.laws.Sets.{has_here, has_there}
use Rattle.tree.specs.laws.Tips.{leaf-kept}
use Rattle.tree.proofs.tips.all_tops.Goals as goal

-- what is among places is among others that are the same
among : {l k : List ℕ} → ◌≡◌ {A = List ℕ} l k → (x : ℕ) → has k x ≡ true → has l x ≡ true
among e x h = ap (λ (m : List ℕ). has m x) e ∙ h

pub loop-place-init : goal.loop-place-init
loop-place-init c =
    let same = c.into_iter-place-iterator.ensures.into_iter_gives.0 in record {
      parts = search rules;
      kept = λ x h. leaf-kept c.args.tree.now.blocks c.args.leaves.now.keys x c.requires.leaves (among (sym same) x h);
    }

-- one is put over
moved : (f : ℕ → Top) (done new : List Top) (left rest : List ℕ) (p : ℕ) → ◌≡◌ {A = List Top} new (done ++ f p ∷ []) → ◌≡◌ {A = List ℕ} left (p ∷ rest) → ◌≡◌ {A = List Top} (new ++ map f rest) (done ++ map f left)
moved f done new left rest p pushed e =
    ap (λ (l : List Top). l ++ map f rest) pushed ∙ append_assoc done (f p ∷ []) (map f rest) ∙ ap (λ (l : List ℕ). done ++ map f l) (sym e)

pub loop-place-preserved : goal.loop-place-preserved
loop-place-preserved c =
    let t = c.args.tree.now.blocks in record {
      parts = moved (top_at t) c.loop-place.tops.items _ c.loop-place.place-iterator _ c.in-Some.place.now (c.in_ok-push.ensures.items ∙ ap (λ (x : Top). c.loop-place.tops.items ++ x ∷ []) c.top.ensures) c.in-Some.ensures.steps ∙ c.loop-place.invariant.parts;
      kept = λ x h. c.loop-place.invariant.kept x (among c.in-Some.ensures.steps x (has_there c.in-Some.place.now x _ h));
    }

pub top-requires : goal.top-requires
top-requires c = c.loop-place.invariant.kept c.in-Some.place.now (among c.in-Some.ensures.steps c.in-Some.place.now (has_here c.in-Some.place.now _))
