use Rattle.std.proofs.Common.{ℕ, List, sym, subst, ◌∙◌}
use Rattle.std.specs.List.{concat}
use Rattle.sha2.specs.Hashers.{Holds256}
use Rattle.script.specs.Removal.{bytes_of}
use Rattle.sighash.proofs.Inputs.{fed_alone, fed_counted}
use Rattle.sighash.proofs.hasher_input.feed_signed_inputs.Goals as goal

pub returns-then-is_alone : goal.returns-then-is_alone
returns-then-is_alone c = λ fed holds.
    let code : List ℕ = concat (bytes_of c.args.code.now) in
    subst (Holds256 c.feed_input.new.hasher) (fed_alone c.args.kind c.args.n code fed c.args.inputs.now c.index-inputs-n.result c.requires c.index-inputs-n.is (sym c.is_alone.ensures ∙ c.if-is_alone.true)) (c.feed_input.ensures _ (c.feed_count.ensures fed holds))

pub returns : goal.returns
returns c = λ fed holds.
    let code : List ℕ = concat (bytes_of c.args.code.now) in
    subst (Holds256 c.feed_among.new.hasher) (fed_counted c.args.kind c.args.n code fed c.args.inputs.now c.requires (sym c.is_alone.ensures ∙ c.if-is_alone.false)) (c.feed_among.ensures _ (c.feed_count-2.ensures fed holds))
