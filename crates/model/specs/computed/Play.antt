-- Commands and reads, one after the other, on toy blocks.
use Rattle.std.specs.Prelude.{ℕ, List, [], ◌∷◌}
use Rattle.tree.specs.declared.tip.Status.{Status}
use Rattle.tree.specs.Branches.{down_from, branch, before, on, height, block_at, id_at, place_of}
use Rattle.tree.specs.State.{State, union_where, rank_in, has_no_mark, rank, beats, without_marks}
use Rattle.tree.specs.Tips.{TipOf, is_tip, goes_first, put_in, sort_places, last_shared, status, tip}
use Rattle.tree.specs.Tips as tree_tips
use Rattle.model.specs.declared.reply.Reply.{Reply}
use Rattle.model.specs.declared.reply.Reply.TheVariants as reply
use Rattle.model.specs.declared.reply.SubmitReply.{SubmitReply}
use Rattle.model.specs.declared.reply.MarkReply.{MarkReply}
use Rattle.model.specs.Valid.{fault_over, fault, connects, branch_connects, first_to_fail}
use Rattle.model.specs.Settle.{is_best, can_be_active, active, is_candidate, on_candidate, becomes_seen, becomes_bad, settle, best, tips}
use Rattle.model.specs.Context.{fault_on, first_fault}
use Rattle.model.specs.Submission.{answer_known, answer_added, outcome_by_fault, outcome_of_submission}
use Rattle.model.specs.Step.{Request, Submit, Invalidate, Reconsider, Precious, outcome_of_invalidate, outcome_of_reconsider, outcome_of_precious, step}
use Rattle.model.specs.computed.Toy.{Toy, toy}

pub data Line : Type 0 where
  Do : Request Toy ℕ → Line
  Best : Line
  Tips : Line

pub data Shown : Type 0 where
  Said : Reply → Shown
  BestIs : ℕ → Shown
  TipsAre : List (TipOf ℕ) → Shown

-- what the lines show, from the state s on
unfoldable pub answers_of : State Toy → List Line → List Shown
unfolding down_from branch before on height block_at id_at place_of union_where rank_in has_no_mark rank beats without_marks is_tip goes_first put_in sort_places last_shared status tip tree_tips.tips fault_over fault connects branch_connects first_to_fail is_best can_be_active active is_candidate on_candidate becomes_seen becomes_bad settle best fault_on first_fault answer_known answer_added outcome_by_fault outcome_of_submission outcome_of_invalidate outcome_of_reconsider outcome_of_precious step
answers_of s [] = []
answers_of s (Do command ∷ lines) = Said (step toy s command).1 ∷ answers_of (step toy s command).0 lines
answers_of s (Best ∷ lines) = BestIs (best toy s) ∷ answers_of s lines
answers_of s (Tips ∷ lines) = TipsAre (tips toy s) ∷ answers_of s lines

abbrev pub submit : Toy → Line
submit b = Do (Submit 0 b)

abbrev pub invalidate : Toy → Line
invalidate b = Do (Invalidate b.id)

abbrev pub reconsider : Toy → Line
reconsider b = Do (Reconsider b.id)

abbrev pub precious : Toy → Line
precious b = Do (Precious b.id)

abbrev pub submit_reply_is : SubmitReply → Shown
submit_reply_is answer = Said (reply.Submit answer)

abbrev pub mark_reply_is : MarkReply → Shown
mark_reply_is answer = Said (reply.Mark answer)

abbrev pub best_is : Toy → Shown
best_is b = BestIs b.id

-- a tip: its height, the length of its branch off the active one, and its status
abbrev pub at : Toy → ℕ → ℕ → Status → TipOf ℕ
at b height length status = record { id = b.id; height = height; length = length; status = status }
