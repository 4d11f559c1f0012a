-- The numbers by which C is answered.
use Rattle.std.specs.Prelude.{ℕ, Bool, true, false}
use Rattle.tree.specs.declared.tip.Status.{Status}
use Rattle.tree.specs.declared.tip.Status.TheVariants.{Active, Invalid, ValidFork, ValidHeaders}
use Rattle.txn.specs.declared.reason.Reason.{Reason}
use Rattle.txn.specs.declared.reason.Reason.TheVariants.{ScriptRefused}
use Rattle.txn.specs.Reason.{number_of}
use Rattle.model.specs.declared.reply.Reply.{Reply}
use Rattle.model.specs.declared.reply.Reply.TheVariants as reply
use Rattle.model.specs.declared.reply.SubmitReply.{SubmitReply}
use Rattle.model.specs.declared.reply.SubmitReply.TheVariants.{Accepted, Inconclusive, Duplicate, DuplicateInvalid, DuplicateInconclusive, Rejected, DecodeFailed, TreeFull}
use Rattle.model.specs.declared.reply.MarkReply.{MarkReply}
use Rattle.model.specs.declared.reply.MarkReply.TheVariants.{Done, NotFound, Genesis}

-- of a submission: 1 to 8
abbrev pub submit_number : SubmitReply → ℕ
submit_number Accepted = 1
submit_number Inconclusive = 2
submit_number Duplicate = 3
submit_number DuplicateInvalid = 4
submit_number DuplicateInconclusive = 5
submit_number (Rejected _) = 6
submit_number DecodeFailed = 7
submit_number TreeFull = 8

-- of a mark: 9 to 11
abbrev pub mark_number : MarkReply → ℕ
mark_number Done = 9
mark_number NotFound = 10
mark_number Genesis = 11

abbrev pub reply_number : Reply → ℕ
reply_number (reply.Submit r) = submit_number r
reply_number (reply.Mark r) = mark_number r

-- the reason's number, 0 where there is none
abbrev pub reason_of_submit : SubmitReply → ℕ
reason_of_submit (Rejected reason) = number_of reason
reason_of_submit _ = 0

abbrev pub reason_number : Reply → ℕ
reason_number (reply.Submit r) = reason_of_submit r
reason_number (reply.Mark _) = 0

abbrev pub transaction_of_reason : Reason → ℕ
transaction_of_reason (ScriptRefused t _) = t
transaction_of_reason _ = 0

abbrev pub input_of_reason : Reason → ℕ
input_of_reason (ScriptRefused _ i) = i
input_of_reason _ = 0

abbrev pub transaction_of_submit : SubmitReply → ℕ
transaction_of_submit (Rejected reason) = transaction_of_reason reason
transaction_of_submit _ = 0

abbrev pub input_of_submit : SubmitReply → ℕ
input_of_submit (Rejected reason) = input_of_reason reason
input_of_submit _ = 0

-- the transaction and the input whose script wasn't accepted, 0 where that isn't the reason
abbrev pub transaction_number : Reply → ℕ
transaction_number (reply.Submit r) = transaction_of_submit r
transaction_number (reply.Mark _) = 0

abbrev pub input_number : Reply → ℕ
input_number (reply.Submit r) = input_of_submit r
input_number (reply.Mark _) = 0

-- of a tip
abbrev pub status_number : Status → ℕ
status_number Active = 1
status_number Invalid = 2
status_number ValidFork = 3
status_number ValidHeaders = 4

-- of a coin: whether a coinbase made it
abbrev pub coinbase_number : Bool → ℕ
coinbase_number true = 1
coinbase_number false = 0
