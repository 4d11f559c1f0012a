use Rattle.std.proofs.Common.{rules, ◌≡◌, ◌<◌, ◌++◌, refl, sym, ◌∙◌}
use Rattle.wire.specs.Numbers.{limit}
use Rattle.block.specs.Blk.{magic}
use Rattle.block.proofs.Records.{head_is}
use Rattle.block.proofs.blk.block_len.Goals as goal

pub returns-then-from-gt-LIMIT-clause-refused : goal.returns-then-from-gt-LIMIT-clause-refused
returns-then-from-gt-LIMIT-clause-refused c =
    let is_magic : c.in-Ok.magic.now ≡ magic = search rules in
    let large : limit < c.in-Ok-u32le.len = search rules in
    λ more h. (refl, (c.in-Ok-u32le.len, c.u32le.new.self ++ more, head_is _ _ _ _ more _ (sym c.new-cursor.ensures ∙ c.in-Ok.ensures.found.1) is_magic c.in-Ok-u32le.ensures.found.1, large, c.in-Ok-u32le.ensures.found.0))
