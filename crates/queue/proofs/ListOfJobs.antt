-- Early jobs that are listed one after the other.
use Rattle.std.proofs.Common.{◌≡◌, ℕ, ◌+◌, ◌<◌, List, [], ◌∷◌, ◌++◌, All, length, get_or, map, take, sym, ap, ap₂, subst, ◌∙◌}
use Rattle.std.proofs.lemmas.Grind.{take_at_read}
use Rattle.std.proofs.lemmas.List.{map-append}
use Rattle.std.proofs.lemmas.List.Elements.{All-push}
use Rattle.txn.specs.Tx.{Tx}
use Rattle.interp.specs.declared.flags.Flags.{Flags}
use Rattle.interp.specs.declared.job.Job.{Job}
use Rattle.queue.specs.declared.early_jobs.Listed.{Listed}
use Rattle.interp.specs.Question.{Question, question, question_of}
use Rattle.queue.specs.Jobs.{HasInput, Spending, questions, tx_at}
use Rattle.queue.specs.inside.KnownAnswers.{spending_of}
use Rattle.queue.proofs.Pairs.{batch_of, tx_read}

pub asked_push : (before after : List Job) (job : Job) (asked : List Question) (q : Question) → after ≡ before ++ job ∷ [] → map question_of before ≡ asked → question_of job ≡ q → map question_of after ≡ asked ++ q ∷ []
asked_push before after job asked q pushed same is =
    ap (map question_of) pushed ∙ map-append question_of before (job ∷ []) ∙ ap₂ (λ (l : List Question) (x : Question). l ++ x ∷ []) same is

pub inputs_push : (before after : List Job) (job : Job) → after ≡ before ++ job ∷ [] → All HasInput before → HasInput job → All HasInput after
inputs_push before after job pushed all has = subst (λ (l : List Job). All HasInput l) (sym pushed) (All-push HasInput before job all has)

pub asked_next : (txs : List Tx) (flags : Flags) (items : List Listed) (k : ℕ) (listed : Listed) → k < length items → listed ≡ get_or items k listed
    → questions (batch_of txs flags (take (k + 1) items)) ≡ questions (batch_of txs flags (take k items)) ++ question (tx_at txs listed.place) listed.input listed.spent.items flags ∷ []
asked_next txs flags items k listed lt is =
    let asks : Spending → Question = λ s. question (tx_at txs s.place) s.input s.spent flags in
    ap (λ (l : List Listed). map asks (map spending_of l)) ((take_at_read items k listed lt).1 ∙ ap (λ (x : Listed). take k items ++ x ∷ []) (sym is))
    ∙ ap (map asks) (map-append spending_of (take k items) (listed ∷ []))
    ∙ map-append asks (map spending_of (take k items)) (spending_of listed ∷ [])

-- the transaction that is lent is the one at the place
pub tx_lent : (txs : List Tx) (place : ℕ) (tx : Tx) → place < length txs → tx ≡ get_or txs place tx → tx_at txs place ≡ get_or txs place tx
tx_lent txs place tx within is = tx_read txs place (get_or txs place tx) within (ap (λ (x : Tx). get_or txs place x) is)
