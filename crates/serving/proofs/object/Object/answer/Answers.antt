use Rattle.std.proofs.Common.{sym, subst}
use Rattle.serving.specs.Answers.{Adds, answer_members, members}
use Rattle.serving.proofs.TokenLists.{then, coins_closed, tips_closed, steps_closed}
use Rattle.serving.proofs.object.Object.answer.Goals as goal

pub returns-in_ok-id-in-Best : goal.returns-in_ok-id-in-Best
returns-in_ok-id-in-Best c =
    subst (λ answer. Adds c.end.result c.args.self.now c.end.new.self (members (answer_members answer))) (sym c.in-Best.is)
    (then (then c.in_ok-begin-in-Best.ensures c.in_ok-id-in-Best.ensures) c.end.ensures)

pub returns-in_ok-tips-in-Tips : goal.returns-in_ok-tips-in-Tips
returns-in_ok-tips-in-Tips c =
    subst (λ answer. Adds c.end_list.result c.args.self.now c.end_list.new.self (members (answer_members answer))) (sym c.in-Tips.is)
    (then c.in_ok-begin_list-in-Tips.ensures (rw (tips_closed c.in-Tips.tips.now) at (then c.in_ok-tips-in-Tips.ensures c.end_list.ensures)))

pub returns-in_ok-steps-in-Steps : goal.returns-in_ok-steps-in-Steps
returns-in_ok-steps-in-Steps c =
    subst (λ answer. Adds c.end_list-in-Steps.result c.args.self.now c.end_list-in-Steps.new.self (members (answer_members answer)))
    (sym c.in-Steps.is)
    (then c.in_ok-begin_list-in-Steps.ensures
    (rw (steps_closed c.in-Steps.steps.now) at (then c.in_ok-steps-in-Steps.ensures c.end_list-in-Steps.ensures)))

pub returns-in-Block : goal.returns-in-Block
returns-in-Block c =
    subst (λ answer. Adds c.bytes.result c.args.self.now c.bytes.new.self (members (answer_members answer))) (sym c.in-Block.is) c.bytes.ensures

pub returns-in_ok-coins-in-Coins : goal.returns-in_ok-coins-in-Coins
returns-in_ok-coins-in-Coins c =
    subst (λ answer. Adds c.end_list-in-Coins.result c.args.self.now c.end_list-in-Coins.new.self (members (answer_members answer)))
    (sym c.in-Coins.is)
    (then c.in_ok-begin_list-in-Coins.ensures
    (rw (coins_closed c.in-Coins.coins.now) at (then c.in_ok-coins-in-Coins.ensures c.end_list-in-Coins.ensures)))
