-- What lists of commands and reads show: submissions, branches, marks, and blocks called precious.
use Rattle.std.specs.Prelude.{◌≡◌, [], ◌∷◌, refl}
use Rattle.txn.specs.declared.reason.Reason.TheVariants.{ParentInvalid}
use Rattle.tree.specs.declared.tip.Status.TheVariants.{Active, Invalid, ValidFork, ValidHeaders}
use Rattle.tree.specs.State.{opening}
use Rattle.model.specs.declared.reply.SubmitReply.TheVariants.{Accepted, Inconclusive, Duplicate, DuplicateInvalid, Rejected}
use Rattle.model.specs.declared.reply.MarkReply.TheVariants.{Done, NotFound, Genesis}
use Rattle.model.specs.computed.Toy.{genesis, b1, p2, q2, q3, r2, z1, x1, x2, x3, x4}
use Rattle.model.specs.computed.Play.{Best, Tips, TipsAre, answers_of, submit, invalidate, reconsider, precious, submit_reply_is, mark_reply_is, best_is, at}

pub one_block : answers_of opening (submit b1 ∷ Best ∷ []) ≡ submit_reply_is Accepted ∷ best_is b1 ∷ []
unfolding answers_of
one_block = refl

pub longer_branch :
    answers_of opening (submit b1 ∷ submit p2 ∷ submit q2 ∷ Tips ∷ submit q3 ∷ Tips ∷ [])
    ≡ submit_reply_is Accepted ∷ submit_reply_is Accepted ∷ submit_reply_is Inconclusive ∷ TipsAre (at p2 2 0 Active ∷ at q2 2 1 ValidHeaders ∷ [])
    ∷ submit_reply_is Accepted ∷ TipsAre (at q3 3 0 Active ∷ at p2 2 1 ValidFork ∷ []) ∷ []
unfolding answers_of
longer_branch = refl

pub longer_branch_that_fails_in_its_middle :
    answers_of opening
    (submit b1 ∷ submit p2 ∷ submit x1 ∷ submit x2 ∷ submit x3 ∷ Best ∷ Tips
    ∷ submit x2 ∷ submit x3 ∷ submit x1 ∷ submit x4 ∷ [])
    ≡ submit_reply_is Accepted ∷ submit_reply_is Accepted ∷ submit_reply_is Inconclusive ∷ submit_reply_is Inconclusive ∷ submit_reply_is Inconclusive
    ∷ best_is p2 ∷ TipsAre (at x3 3 3 Invalid ∷ at p2 2 0 Active ∷ [])
    ∷ submit_reply_is DuplicateInvalid ∷ submit_reply_is DuplicateInvalid ∷ submit_reply_is Duplicate ∷ submit_reply_is (Rejected ParentInvalid) ∷ []
unfolding answers_of
longer_branch_that_fails_in_its_middle = refl

pub marks_set_and_taken :
    answers_of opening
    (submit b1 ∷ submit p2 ∷ submit q2 ∷ invalidate p2 ∷ Best ∷ reconsider p2 ∷ Best
    ∷ invalidate genesis ∷ invalidate z1 ∷ Tips ∷ [])
    ≡ submit_reply_is Accepted ∷ submit_reply_is Accepted ∷ submit_reply_is Inconclusive ∷ mark_reply_is Done ∷ best_is q2 ∷ mark_reply_is Done ∷ best_is p2
    ∷ mark_reply_is Genesis ∷ mark_reply_is NotFound ∷ TipsAre (at p2 2 0 Active ∷ at q2 2 1 ValidFork ∷ []) ∷ []
unfolding answers_of
marks_set_and_taken = refl

pub precious_blocks :
    answers_of opening
    (submit b1 ∷ submit p2 ∷ submit q2 ∷ precious q2 ∷ Best ∷ precious p2 ∷ Best ∷ precious q2 ∷ precious b1 ∷ Best
    ∷ submit r2 ∷ precious z1 ∷ submit q3 ∷ precious p2 ∷ Best ∷ Tips ∷ invalidate q3 ∷ Best ∷ [])
    ≡ submit_reply_is Accepted ∷ submit_reply_is Accepted ∷ submit_reply_is Inconclusive ∷ mark_reply_is Done ∷ best_is q2 ∷ mark_reply_is Done ∷ best_is p2
    ∷ mark_reply_is Done ∷ mark_reply_is Done ∷ best_is q2 ∷ submit_reply_is Inconclusive ∷ mark_reply_is NotFound ∷ submit_reply_is Accepted ∷ mark_reply_is Done
    ∷ best_is q3 ∷ TipsAre (at q3 3 0 Active ∷ at p2 2 1 ValidFork ∷ at r2 2 1 ValidHeaders ∷ [])
    ∷ mark_reply_is Done ∷ best_is q2 ∷ []
unfolding answers_of
precious_blocks = refl
