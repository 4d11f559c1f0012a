use Rattle.std.proofs.Common.{refl, arith}
use Rattle.durable.proofs.Sound.{told_one, told_sound, tell_between}
use Rattle.durable.proofs.log.Log.tell.Goals as goal

pub returns-in_err-tell-clause-sound : goal.returns-in_err-tell-clause-sound
returns-in_err-tell-clause-sound g c =
    told_sound g.H.Host.calls c.args.self.now c.requires _ c.args.answer.now.stamp _ _ c.tell.ensures refl refl refl (omega (arith, c.if-answer-self.false))

pub returns-in_err-tell-clause-any_moment : goal.returns-in_err-tell-clause-any_moment
returns-in_err-tell-clause-any_moment g c =
    tell_between g.H.Host.calls c.args.self.now c.requires _ c.args.answer.now.stamp _ _ c.tell.ensures refl refl refl (omega (arith, c.if-answer-self.false))

pub returns-clause-sound : goal.returns-clause-sound
returns-clause-sound g c =
    told_sound g.H.Host.calls c.args.self.now c.requires _ c.args.answer.now.stamp _ _ c.tell.ensures refl refl refl (omega (arith, c.if-answer-self.false))

pub returns-clause-told : goal.returns-clause-told
returns-clause-told g c =
    told_one g.H.Host.calls c.args.self.now c.requires record { host = c.tell.new.self; durable = c.args.self.now.durable; count = c.args.self.now.count; pending = c.args.self.now.pending } c.args.answer.now.stamp _ _ c.tell.ensures refl refl refl (omega (arith, c.if-answer-self.false))

pub returns-clause-any_moment : goal.returns-clause-any_moment
returns-clause-any_moment g c =
    tell_between g.H.Host.calls c.args.self.now c.requires record { host = c.tell.new.self; durable = c.args.self.now.durable; count = c.args.self.now.count; pending = c.args.self.now.pending } c.args.answer.now.stamp _ _ c.tell.ensures refl refl refl (omega (arith, c.if-answer-self.false))
