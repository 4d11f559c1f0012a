-- What is seen after a note was told is no shorter than the note.
use Rattle.std.proofs.Common.{ℕ, ◌≤◌, List, length, inl, inr, ap, sym, ◌∙◌, arith, length-append}
use mathlib.Core.List.{IsPrefix}
use Rattle.model.specs.declared.entry.Entry.{Entry}
use Rattle.node.specs.Pass.{IsLonger}

prefix_length : (xs ys : List Entry) → IsPrefix xs ys → length xs ≤ length ys
prefix_length xs ys p = omega (arith, sym (ap length p.1) ∙ length-append xs p.0)

pub no_earlier : (xs ys zs ws : List Entry) → IsLonger xs ys zs → IsPrefix zs ws → length ys ≤ length ws
no_earlier xs ys zs ws (inl (is, p)) q = omega (arith, ap length is, prefix_length ys xs p, prefix_length zs ws q)
no_earlier xs ys zs ws (inr (is, p)) q = omega (arith, ap length is, prefix_length zs ws q)
