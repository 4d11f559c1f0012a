use Rattle.std.proofs.Common.{◌≡◌, ◌+◌, ◌-◌, ◌≤◌, ◌++◌, length}
use Rattle.block.specs.Blk.{Remain}
use Rattle.vectors.proofs.blk_vectors.ByteByByteSource.append.Given as goal

abbrev pub invariant-loop-self : goal.invariant-loop-self
invariant-loop-self g l =
    (length l.bytes.items ≤ l.whole) × (l.whole ≡ length l.fn.bytes.items + l.fn.want)
    × (l.fn.bytes.items ++ g.S.Source.to_come l.fn.self.inner ≡ l.bytes.items ++ g.S.Source.to_come l.self.inner)
    × (g.S.Source.failed l.self.inner ≡ g.S.Source.failed l.fn.self.inner)
    × Remain (g.S.Source.to_come l.fn.self.inner) (g.S.Source.to_come l.self.inner)

abbrev pub decreases-loop-self : goal.decreases-loop-self
decreases-loop-self g l = l.whole - length l.bytes.items
