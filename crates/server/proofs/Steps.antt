-- Steps one after the other, and the elements of arrays.
use Rattle.std.specs.Prelude.{◌⊎◌, map, codes, Result, Ok, Err, IfOk, Vec}
use Rattle.std.specs.Global.{Global}
use Rattle.std.proofs.Common.{◌≡◌, ◌∙◌, ℕ, suc, ◌+◌, ◌<◌, List, [], ◌∷◌, ◌++◌, length, take, get_or, refl, subst, sym, ap, arith, inl, inr}
use Rattle.std.proofs.lemmas.List.{length-take-le, map-append, take_more}
use Rattle.json.specs.Json.{Json, array, object, Items, no_items, item, no_members, member}
use Rattle.model.specs.declared.entry.Entry.{Entry}
use Rattle.serving.specs.Answers.{coin_members, coin_items, spent_members, spent_items, step_members, step_items}
use Rattle.serving.specs.declared.answer.CoinAt.{CoinAt}
use Rattle.serving.specs.declared.answer.SpentCoin.{SpentCoin}
use Rattle.serving.specs.declared.answer.Step.{Step}
use Rattle.serving.specs.declared.refusal.Refusal.TheVariants as refusal
use Rattle.serving.specs.declared.request_id.RequestId.{RequestId}
use Rattle.server.specs.inside.Lists.{AreSteps, items, IsTextOf, text_json}
use Rattle.server.specs.inside.Answers.{IsReadLine, answer_at, error_of}
use Rattle.server.specs.declared.lists.EntryText.{EntryText}

one_more : (n : ℕ) (es : List Entry) (js : List Json) (e : Entry) (j : Json)
    → AreSteps n es js → IsTextOf (n + length es) e j → AreSteps n (es ++ e ∷ []) (js ++ j ∷ [])
one_more n [] [] e j are is = (subst (λ k. IsTextOf k e j) (omega arith) is, tt)
one_more n (x ∷ es) [] e j are is = absurd are
one_more n [] (y ∷ js) e j are is = absurd are
one_more n (x ∷ es) (y ∷ js) e j are is =
    (are.0, one_more (suc n) es js e j are.1 (subst (λ k. IsTextOf k e j) (omega arith) is))

-- the text of the step at a place is made
pub next_step : (first n number : ℕ) (es : List Entry) (e : Entry) (texts : List EntryText) (text : EntryText) → n < length es → e ≡ get_or es n e → number ≡ first + n
    → AreSteps first (take n es) (map text_json texts) → IsTextOf number e (text_json text) → AreSteps first (take (n + 1) es) (map text_json (texts ++ text ∷ []))
next_step first n number es e texts text lt is at are made =
    let more : take (n + 1) es ≡ take n es ++ e ∷ [] = take_more es n e lt ∙ ap (λ (x : Entry). take n es ++ x ∷ []) (sym is) in
    subst (λ l. AreSteps first (take (n + 1) es) l) (sym (map-append text_json texts (text ∷ [])))
    (subst (λ l. AreSteps first l (map text_json texts ++ text_json text ∷ [])) (sym more)
    (one_more first (take n es) (map text_json texts) e (text_json text) are
    (subst (λ k. IsTextOf k e (text_json text)) (omega (arith, at, length-take-le n es (omega (arith, lt)))) made)))

pub coins_are : (rows : List CoinAt) → coin_items rows ≡ items (map (λ row. object (coin_members row)) rows)
coins_are [] = refl
coins_are (row ∷ rows) = ap (λ (rest : Items). item (object (coin_members row)) rest) (coins_are rows)

pub spent_are : (rows : List SpentCoin) → spent_items rows ≡ items (map (λ row. object (spent_members row)) rows)
spent_are [] = refl
spent_are (row ∷ rows) = ap (λ (rest : Items). item (object (spent_members row)) rest) (spent_are rows)

pub steps_are : (steps : List Step) → step_items steps ≡ items (map (λ step. object (step_members step)) steps)
steps_are [] = refl
steps_are (step ∷ steps) = ap (λ (rest : Items). item (object (step_members step)) rest) (steps_are steps)

-- the line of steps by their texts
pub steps_told : {E : Type 0} (first : ℕ) (i : RequestId) (at : ℕ) (es : List Entry) (texts : List EntryText) (steps : List Step) (line : Result (Vec ℕ Global) E)
    → AreSteps first es (map text_json texts) → map (λ step. object (step_members step)) steps ≡ map text_json texts
    → IfOk line (λ l. IsReadLine i at (member (codes "answer") (array (step_items steps)) no_members) l.items)
    → IfOk line (λ l. ((js : List Json) × AreSteps first es js × (l.items ≡ answer_at i at (member (codes "answer") (array (items js)) no_members))) ⊎ (l.items ≡ error_of i refusal.Memory))
steps_told first i at es texts steps (Err e) are same told = told
steps_told first i at es texts steps (Ok l) are same (inl told) =
    inl (map text_json texts, are, told ∙ ap (λ (its : Items). answer_at i at (member (codes "answer") (array its) no_members)) (steps_are steps ∙ ap items same))
steps_told first i at es texts steps (Ok l) are same (inr none) = inr none
