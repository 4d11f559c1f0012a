-- How often a script asks, and an input.
use Rattle.std.specs.Prelude.{if◌then◌else◌, ◌&&◌, nat_le}
use Rattle.std.proofs.Common.{◌≡◌, ℕ, ◌+◌, List, [], ◌∷◌, ◌++◌, Bool, true, false, ltb, Option, Some, None, length, slice_get, refl, ap, ◌∙◌, arith}
use borrow.Author.Tests.{leb-true}
use Rattle.std.specs.List.{concat, list_all}
use Rattle.std.specs.Option.{option_and_then}
use Rattle.script.specs.Op.{number_of}
use Rattle.script.specs.Ops.{ops, rest, is_whole}
use Rattle.script.specs.Kinds.{is_push_only, is_p2sh}
use Rattle.txn.specs.declared.input.TxIn.{TxIn}
use Rattle.signatures.specs.Known.{Known}
use Rattle.interp.specs.Answer.{Answer, Says, Wants, answer_map, and_then}
use Rattle.interp.specs.Question.{Question}
use Rattle.interp.specs.Running.{Running, base}
use Rattle.interp.specs.Stack.{Stack}
use Rattle.interp.specs.State.{State, start}
use Rattle.interp.specs.computed.Step.{step, run, outcome, end_of, has_true_top, ends_true, inner_verdict, verdict_on, verdict_after, verdict_with, verdict_of_input, verdict}
use Rattle.rounds.specs.laws.Inquiry.{End, AsksWithin, alike, says, follow, follows, maps, left_in, thens, alsos, before, chosen}
use Rattle.rounds.specs.laws.Table.{room}
use Rattle.rounds.specs.laws.Questions.{IsQuiet, step-within, step-quiet}

module _ (r : Running) where
  -- ---- a script
  run-within : (left : List ℕ) (list : List (List ℕ)) (s : State) → AsksWithin (left_in room) (room s) (λ known. run known r left list s)
  unfolding run
  run-within left [] s = says (left_in room) (room s) (Some s) (omega arith)
  run-within left (op ∷ others) s =
      thens room room (room s) (λ known. step known r (concat others ++ left) op s) (λ t known. run known r left others t) (step-within r (concat others ++ left) op s) (run-within left others)

  both : (a b : Bool) → (a && b) ≡ true → (a ≡ true) × (b ≡ true)
  both true true e = (refl, refl)
  both true false e = cc
  both false b e = cc

  run-quiet : (left : List ℕ) (list : List (List ℕ)) (s : State) → list_all (λ op. nat_le (number_of op) 96) list ≡ true → IsQuiet (λ known. run known r left list s)
  unfolding run step
  run-quiet left [] s low = (Some s, λ known. refl)
  run-quiet left ([] ∷ others) s low = (None, λ known. refl)
  run-quiet left ((number ∷ bytes) ∷ others) s low =
      let each = both (nat_le number 96) (list_all (λ op. nat_le (number_of op) 96) others) low in
      let told = step-quiet r (concat others ++ left) number bytes s (leb-true number 96 each.0) in
      by told.0 told.1 (λ t. run-quiet left others t each.1)
    where
      by : (o : Option State) → ((known : Known) → step known r (concat others ++ left) (number ∷ bytes) s ≡ Says o)
          → ((t : State) → IsQuiet (λ known. run known r left others t))
          → IsQuiet (λ known. run known r left ((number ∷ bytes) ∷ others) s)
      by (Some t) is rest = let end = rest t in (end.0, λ known. ap (and_then (run known r left others)) (is known) ∙ end.1 known)
      by None is rest = (None, λ known. ap (and_then (run known r left others)) (is known))

  outcome-within : (script : List ℕ) (stack : Stack) → AsksWithin (λ end. 0) 201 (λ known. outcome known r script stack)
  unfolding outcome
  outcome-within script stack =
      chosen (λ end. 0) 201 (ltb 10000 (length script)) _ _ (says (λ end. 0) 201 None (omega arith))
      (maps (left_in room) (λ end. 0) 201 (option_and_then (end_of (is_whole script))) _ (λ o. omega arith) (run-within (rest script) (ops script) (start script stack)))

  outcome-quiet : (script : List ℕ) (stack : Stack) → is_push_only script ≡ true → IsQuiet (λ known. outcome known r script stack)
  unfolding outcome is_push_only
  outcome-quiet script stack only =
      let told = run-quiet (rest script) (ops script) (start script stack) (both (list_all (λ op. nat_le (number_of op) 96) (ops script)) (is_whole script) only).0 in
      by (ltb 10000 (length script)) told.0 told.1
    where
      by : (long : Bool) (o : Option State) → ((known : Known) → run known r (rest script) (ops script) (start script stack) ≡ Says o)
          → IsQuiet (λ known. if long then Says None else answer_map (option_and_then (end_of (is_whole script))) (run known r (rest script) (ops script) (start script stack)))
      by true o is = (None, λ known. refl)
      by false o is = (option_and_then (end_of (is_whole script)) o, λ known. ap (answer_map (option_and_then (end_of (is_whole script)))) (is known))

  -- ---- an input
  ends-within : (script : List ℕ) (stack : Stack) → AsksWithin (λ answer. 0) 201 (λ known. ends_true (outcome known r script stack))
  unfolding ends_true
  ends-within script stack = maps (λ end. 0) (λ answer. 0) 201 has_true_top _ (λ end. omega arith) (outcome-within script stack)

module _ (q : Question) where
  -- only with an input script that is push only there is an inner one
  inner-within : (script : List ℕ) (left : Stack) (only : Bool) → is_push_only script ≡ only
      → AsksWithin (λ answer. 0) (if only then 201 else 0) (λ known. inner_verdict known q script left)
  unfolding inner_verdict ends_true
  inner-within script left false only = (End false, omega arith, λ known. rw only refl)
  inner-within script [] true only = (End false, omega arith, λ known. rw only refl)
  inner-within script (inner ∷ others) true only =
      alike (λ answer. 0) 201 (λ known. ends_true (outcome known (base q) inner others)) _ (λ known. rw only refl) (ends-within (base q) inner others)

  abbrev for_inner : Bool → ℕ
  for_inner only = if only then 201 else 0

  on-within : (script : List ℕ) (left : Stack) (only : Bool) → is_push_only script ≡ only
      → AsksWithin (λ answer. 0) (201 + for_inner only) (λ known. verdict_on known q script left)
  unfolding verdict_on
  on-within script left only is =
      alsos (201 + for_inner only) (for_inner only) (λ known. ends_true (outcome known (base q) q.spent left)) (λ known. if q.flags.p2sh && is_p2sh q.spent then inner_verdict known q script left else Says true)
      (before 201 (for_inner only) (λ known. ends_true (outcome known (base q) q.spent left)) (ends-within (base q) q.spent left))
      (chosen (λ answer. 0) (for_inner only) (q.flags.p2sh && is_p2sh q.spent) _ _ (inner-within script left only is) (says (λ answer. 0) (for_inner only) true (omega arith)))

  after-within : (script : List ℕ) (o : Option Stack) (only : Bool) → is_push_only script ≡ only
      → AsksWithin (λ answer. 0) (201 + for_inner only) (λ known. verdict_after known q script (Says o))
  after-within script (Some left) only is = on-within script left only is
  after-within script None only is = says (λ answer. 0) (201 + for_inner only) false (omega arith)

  after-follow : (known : Known) (script : List ℕ) (a : Answer (Option Stack)) → verdict_after known q script a ≡ follow (λ o. verdict_after known q script (Says o)) a
  after-follow known script (Says (Some left)) = refl
  after-follow known script (Says None) = refl
  after-follow known script (Wants t) = refl

  with-within : (script : List ℕ) (only : Bool) → is_push_only script ≡ only → AsksWithin (λ answer. 0) 402 (λ known. verdict_with known q script)
  unfolding verdict_with
  with-within script true is =
      let told = outcome-quiet (base q) script [] is in
      alike (λ answer. 0) 402 (λ known. verdict_after known q script (Says told.0)) _ (λ known. ap (verdict_after known q script) (told.1 known)) (after-within script told.0 true is)
  with-within script false is =
      alike (λ answer. 0) 402 (λ known. follow (λ o. verdict_after known q script (Says o)) (outcome known (base q) script [])) _ (λ known. after-follow known script (outcome known (base q) script []))
      (follows (λ end. 201) (λ answer. 0) 402 (λ known. outcome known (base q) script []) (λ o known. verdict_after known q script (Says o)) (before 201 201 (λ known. outcome known (base q) script []) (outcome-within (base q) script []))
      (λ o. after-within script o false is))

  input-within : (own : Option TxIn) → AsksWithin (λ answer. 0) 402 (λ known. verdict_of_input known q own)
  input-within (Some own) = with-within own.script (is_push_only own.script) refl
  input-within None = says (λ answer. 0) 402 false (omega arith)

  pub verdict-within : AsksWithin (λ answer. 0) 402 (λ known. verdict known q)
  unfolding verdict
  verdict-within = input-within (slice_get q.tx.inputs q.input)
