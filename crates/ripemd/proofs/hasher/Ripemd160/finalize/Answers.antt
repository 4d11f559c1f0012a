use Rattle.std.proofs.Common.{◌≡◌, ◌∙◌, ◌-◌, ◌*◌, ◌%◌, ◌^◌, ap, arith, length}
use Rattle.ripemd.specs.Ripemd160.{ripemd160, digest_of, zeros_after}
use Rattle.ripemd.specs.declared.state.State.{State}
use Rattle.ripemd.proofs.HeldMessage.{Holds_length, Holds_padded, take_padding}
use Rattle.ripemd.proofs.hasher.Ripemd160.finalize.Goals as goal

pub returns : goal.returns
unfolding ripemd160
returns c = λ m holds.
    let count = Holds_length c.args.self m holds in
    let bits : c.args.self.length * 8 % 2 ^ 64 ≡ length m * 8 % 2 ^ 64 = omega arith in
    let padding = take_padding ((119 - c.args.self.length % 64) % 64) (zeros_after (length m)) (omega arith) (omega arith) in
    let fed = c.update-2.ensures _ (c.update.ensures m holds) in
    c.spell.ensures ∙ ap (λ (h : State). digest_of h) (Holds_padded c.update-2.new.self m _ _ fed padding (rw bits at c.to_le_bytes.ensures))
