use Rattle.std.proofs.Common.{◌≡◌, ◌≤◌, ◌++◌, ℕ, true, length, map}
use Rattle.tree.specs.Branches.{has}
use Rattle.tree.specs.inside.Tops.{top_at}
use Rattle.tree.proofs.tips.all_tops.Given as goal

-- those that are left are kept
abbrev pub invariant-loop-place : goal.invariant-loop-place
invariant-loop-place l =
    let t = l.tree.blocks in record {
      parts : l.tops.items ++ map (top_at t) l.place-iterator ≡ map (top_at t) l.leaves.keys;
      kept : (x : ℕ) → has l.place-iterator x ≡ true → x ≤ length t;
    }
