-- Replies as they are printed.
use Rattle.std.specs.Prelude.{ℕ, List, codes}
use Rattle.txn.specs.Reason.{text_of}
use Rattle.model.specs.declared.reply.SubmitReply.{SubmitReply}
use Rattle.model.specs.declared.reply.SubmitReply.TheVariants as submit
use Rattle.model.specs.declared.reply.MarkReply.{MarkReply}
use Rattle.model.specs.declared.reply.MarkReply.TheVariants as mark
use Rattle.model.specs.declared.reply.Reply.{Reply}
use Rattle.model.specs.declared.reply.Reply.TheVariants as reply

-- the answers of Bitcoin Core's submitblock, but for `tree-full`
abbrev pub text_of_submit : SubmitReply → List ℕ
text_of_submit submit.Accepted = codes "accepted"
text_of_submit submit.Inconclusive = codes "inconclusive"
text_of_submit submit.Duplicate = codes "duplicate"
text_of_submit submit.DuplicateInvalid = codes "duplicate-invalid"
text_of_submit submit.DuplicateInconclusive = codes "duplicate-inconclusive"
text_of_submit (submit.Rejected reason) = text_of reason
text_of_submit submit.DecodeFailed = codes "decode-failed"
text_of_submit submit.TreeFull = codes "tree-full"

abbrev pub text_of_mark : MarkReply → List ℕ
text_of_mark mark.Done = codes "done"
text_of_mark mark.NotFound = codes "not-found"
text_of_mark mark.Genesis = codes "genesis"

abbrev pub text_of_reply : Reply → List ℕ
text_of_reply (reply.Submit answer) = text_of_submit answer
text_of_reply (reply.Mark answer) = text_of_mark answer
