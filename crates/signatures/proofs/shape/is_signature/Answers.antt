use Rattle.std.proofs.Common.{◌≡◌, ◌+◌, ◌-◌, length, take, drop, get_or, ap, ◌∙◌, arith}
use Rattle.signatures.specs.Shape.{IsInteger}
use Rattle.signatures.proofs.Parts.{length_of, r_len_of, tag_of, s_len_of, s_of, whole}
use Rattle.signatures.proofs.shape.is_signature.Goals as goal
use Rattle.signatures.proofs.shape.is_signature.Goals.{then-bytes-r_len-ne-INTEGER-via-then-bytes-r_len-ne-INTEGER, then-bytes-r_len-ne-INTEGER-via-else-bytes-r_len-ne-INTEGER+then-r_len-s_len}

pub returns-then-bytes-r_len-ne-INTEGER : goal.returns-then-bytes-r_len-ne-INTEGER
returns-then-bytes-r_len-ne-INTEGER c = (
  λ h. cc h,
  λ g.
      let xs = c.args.bytes.now in
      let r_len : c.from-r_len.result ≡ length g.r = c.from-r_len.ensures ∙ r_len_of g in
      let tag : get_or xs (4 + c.from-r_len.result) 0 ≡ 2 = rw r_len (tag_of g) in
      let s_len : get_or xs (5 + c.from-r_len.result) 0 ≡ length g.s = rw r_len (s_len_of g) in
      let len = length_of g in
      elim c.then-bytes-r_len-ne-INTEGER.branch [
        | then-bytes-r_len-ne-INTEGER-via-then-bytes-r_len-ne-INTEGER w ↦ absurd (omega arith)
        | then-bytes-r_len-ne-INTEGER-via-else-bytes-r_len-ne-INTEGER+then-r_len-s_len w ↦ absurd (omega arith)
      ],
)

pub returns-then-is_integer : goal.returns-then-is_integer
returns-then-is_integer c =
    let xs = c.args.bytes.now in
    let a = c.from-r_len.result in
    let b = c.from-s_len.result in
    let r_cut : 4 + a - 4 ≡ a = omega arith in
    let s_cut : length xs - 1 - (6 + a) ≡ b = omega arith in (
      λ h. record {
        r = take a (drop 4 xs);
        s = take b (drop (6 + a) xs);
        kind = get_or xs (6 + a + b) 0;
        r_is = rw r_cut at (c.is_integer.ensures.0 c.if-is_integer.true);
        s_is = rw s_cut at (c.is_integer-then-is_integer.ensures.0 h);
        spelled = whole xs a b (omega arith) (omega arith) (omega arith) (omega arith) (omega arith) (omega arith) (omega arith);
        short = omega arith;
      },
      λ g.
          let r_len : a ≡ length g.r = c.from-r_len.ensures ∙ r_len_of g in
          let s_len : b ≡ length g.s = c.from-s_len.ensures ∙ ap (λ i. get_or xs (5 + i) 0) r_len ∙ s_len_of g in
          let s : take b (drop (6 + a) xs) ≡ g.s = rw (r_len, s_len) (s_of g) in
          let is : IsInteger (take b (drop (6 + a) xs)) = rw s g.s_is in
          c.is_integer-then-is_integer.ensures.1 (rw s_cut is),
    )
