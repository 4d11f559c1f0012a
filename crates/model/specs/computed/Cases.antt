-- Cases that the other examples leave open.
use Rattle.std.specs.Prelude.{◌≡◌, [], ◌∷◌, refl}
use Rattle.txn.specs.declared.reason.Reason.TheVariants.{ParentNotFound}
use Rattle.tree.specs.declared.tip.Status.TheVariants.{Active, Invalid}
use Rattle.tree.specs.State.{opening}
use Rattle.model.specs.declared.reply.SubmitReply.TheVariants.{Accepted, Inconclusive, Duplicate, Rejected}
use Rattle.model.specs.declared.reply.MarkReply.TheVariants.{Done}
use Rattle.model.specs.computed.Toy.{genesis, b1, p2, p3, q2, x1, x2, x3}
use Rattle.model.specs.computed.Play.{Best, Tips, TipsAre, answers_of, submit, invalidate, reconsider, submit_reply_is, mark_reply_is, best_is, at}

pub refused_block_is_forgotten :
    answers_of opening (submit p2 ∷ submit p2 ∷ Tips ∷ submit b1 ∷ submit p2 ∷ [])
    ≡ submit_reply_is (Rejected ParentNotFound) ∷ submit_reply_is (Rejected ParentNotFound) ∷ TipsAre (at genesis 0 0 Active ∷ [])
    ∷ submit_reply_is Accepted ∷ submit_reply_is Accepted ∷ []
unfolding answers_of
refused_block_is_forgotten = refl

-- one branch fails at its first look, and a lower one, never looked at, becomes active
pub mark_after_which_a_branch_fails :
    answers_of opening
    (submit b1 ∷ submit p2 ∷ submit p3 ∷ submit q2 ∷ submit x1 ∷ submit x2 ∷ submit x3 ∷ invalidate p2 ∷ Best ∷ Tips ∷ submit q2 ∷ [])
    ≡ submit_reply_is Accepted ∷ submit_reply_is Accepted ∷ submit_reply_is Accepted ∷ submit_reply_is Inconclusive ∷ submit_reply_is Inconclusive ∷ submit_reply_is Inconclusive ∷ submit_reply_is Inconclusive
    ∷ mark_reply_is Done ∷ best_is q2 ∷ TipsAre (at p3 3 2 Invalid ∷ at x3 3 3 Invalid ∷ at q2 2 0 Active ∷ []) ∷ submit_reply_is Duplicate ∷ []
unfolding answers_of
mark_after_which_a_branch_fails = refl

pub marks_above_and_below_the_block_that_is_reconsidered :
    answers_of opening (submit b1 ∷ submit p2 ∷ invalidate b1 ∷ Best ∷ reconsider p2 ∷ Best ∷ invalidate p2 ∷ Best ∷ reconsider b1 ∷ Best ∷ [])
    ≡ submit_reply_is Accepted ∷ submit_reply_is Accepted ∷ mark_reply_is Done ∷ best_is genesis ∷ mark_reply_is Done ∷ best_is p2
    ∷ mark_reply_is Done ∷ best_is b1 ∷ mark_reply_is Done ∷ best_is p2 ∷ []
unfolding answers_of
marks_above_and_below_the_block_that_is_reconsidered = refl
