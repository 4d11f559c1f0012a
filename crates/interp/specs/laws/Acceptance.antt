-- What is answered of scripts with a table is what the relations say.
use Rattle.std.specs.Prelude.{if◌then◌else◌, ◌&&◌}
use Rattle.std.proofs.Common.{◌≡◌, ℕ, ◌≤◌, List, [], ◌∷◌, ◌++◌, Bool, true, false, eqb, Option, Some, None, length, slice_get, refl, sym, ap, ◌∙◌, ⊎_elim, append-nil, arith}
use Rattle.std.specs.Option.{option_and_then}
use Rattle.std.specs.List.{concat}
use Rattle.std.proofs.lemmas.Bool.{cases_lt}
use Rattle.std.proofs.lemmas.List.{nil_from_length}
use borrow.Author.Tests.{ne_eqb, eqb-true}
use Rattle.script.specs.Ops.{ops, rest, is_whole}
use Rattle.script.specs.Kinds.{is_push_only, is_p2sh}
use Rattle.txn.specs.declared.input.TxIn.{TxIn}
use Rattle.signatures.specs.Known.{all_known}
use Rattle.signatures.specs.Triple.{Triples}
use Rattle.interp.specs.Answer.{Answer, Says, Wants, and_then, also}
use Rattle.interp.specs.Question.{Question}
use Rattle.interp.specs.Running.{base}
use Rattle.interp.specs.Stack.{Stack}
use Rattle.interp.specs.inside.JobContext.{spending_for}
use Rattle.interp.specs.State.{State, start}
use Rattle.interp.specs.computed.Step.{run, step, end_of, outcome, has_true_top, ends_true, inner_outcome, inner_verdict, verdict_on, verdict_after, verdict_with, verdict_of_input, verdict}
use Rattle.interp.specs.Rules.{Steps, Run, RunsToTrue, AcceptsInner, Accepts}
use Rattle.interp.specs.laws.Answers.{then-some, map-says, then-says}
use Rattle.interp.specs.laws.Runs.{outcome-long, outcome-ran}
use Rattle.interp.specs.laws.OpcodeSteps.{step-sound, step-again}

module _ (q : Question) (triples : Triples) where
  -- ---- a run
  run-sound : (list : List (List ℕ)) (s t : State) → run (all_known triples) (base q) [] list s ≡ Says (Some t) → Steps (spending_for q triples) list s t
  unfolding run
  run-sound [] s t e = cc
  run-sound (op ∷ others) s t e =
      let h = then-says (run (all_known triples) (base q) [] others) (step (all_known triples) (base q) (concat others ++ []) op s) t e in
      (h.0, step-sound q triples (concat others) op s h.0 (ap (λ after. step (all_known triples) (base q) after op s) (sym (append-nil (concat others))) ∙ h.1), run-sound others h.0 t h.2)

  run-again : (list : List (List ℕ)) (s t : State) → Steps (spending_for q triples) list s t → run (all_known triples) (base q) [] list s ≡ Says (Some t)
  unfolding run
  run-again [] s t r = ap (λ u. Says (Some u)) (sym r)
  run-again (op ∷ others) s t r =
      ap (and_then (run (all_known triples) (base q) [] others)) (ap (λ after. step (all_known triples) (base q) after op s) (append-nil (concat others)) ∙ step-again q triples (concat others) op s r.0 r.1) ∙ run-again others r.0 t r.2

  finished-by : (s : State) (end : Stack) (cs : List Bool) → s.conditions ≡ cs → (if eqb (length cs) 0 then Some s.main else None) ≡ Some end → (s.conditions ≡ []) × (end ≡ s.main)
  finished-by s end [] is e = (is, sym (cc))
  finished-by s end (c ∷ cs) is e = let f = rw (ne_eqb (length (c ∷ cs)) 0 (λ z. omega arith)) at e in cc

  ran-sound : (script : List ℕ) (stack end : Stack) (s : State) (whole : Bool) → length script ≤ 10000 → is_whole script ≡ whole
      → run (all_known triples) (base q) (rest script) (ops script) (start script stack) ≡ Says (Some s) → end_of whole s ≡ Some end → Run (spending_for q triples) script stack end
  ran-sound script stack end s true small whole ran e =
      let none : rest script ≡ [] = nil_from_length (rest script) (eqb-true (length (rest script)) 0 whole) in
      let over = finished-by s end s.conditions refl e in
      record {
        short = small;
        whole = none;
        last = s;
        steps = run-sound (ops script) (start script stack) s (ap (λ left. run (all_known triples) (base q) left (ops script) (start script stack)) (sym none) ∙ ran);
        closed = over.0;
        left = over.1;
      }
  ran-sound script stack end s false small whole ran e = cc

  outcome-sound : (script : List ℕ) (stack end : Stack) → outcome (all_known triples) (base q) script stack ≡ Says (Some end) → Run (spending_for q triples) script stack end
  outcome-sound script stack end e =
      ⊎_elim (λ long. let f = sym (outcome-long (all_known triples) (base q) script stack long) ∙ e in cc)
      (λ small.
      let o = map-says (option_and_then (end_of (is_whole script))) (run (all_known triples) (base q) (rest script) (ops script) (start script stack)) (Some end) (sym (outcome-ran (all_known triples) (base q) script stack small) ∙ e) in
      let h = then-some o.0 (end_of (is_whole script)) end o.2 in
      ran-sound script stack end h.0 (is_whole script) small refl (o.1 ∙ ap Says h.1) h.2) (cases_lt 10000 (length script))

  outcome-again : (script : List ℕ) (stack end : Stack) → Run (spending_for q triples) script stack end → outcome (all_known triples) (base q) script stack ≡ Says (Some end)
  outcome-again script stack end r =
      let ran : run (all_known triples) (base q) (rest script) (ops script) (start script stack) ≡ Says (Some r.last) = ap (λ left. run (all_known triples) (base q) left (ops script) (start script stack)) r.whole ∙ run-again (ops script) (start script stack) r.last r.steps in
      let whole : is_whole script ≡ true = ap (λ l. eqb (length l) 0) r.whole in
      outcome-ran (all_known triples) (base q) script stack r.short ∙ rw (ran, whole, r.closed) (ap (λ u. Says (Some u)) (sym r.left))

  -- ---- a true top
  ends-by : (script : List ℕ) (stack : Stack) (o : Option Stack) → outcome (all_known triples) (base q) script stack ≡ Says o → has_true_top o ≡ true → RunsToTrue (spending_for q triples) script stack
  ends-by script stack None is e = cc
  ends-by script stack (Some end) is e = (end, outcome-sound script stack end is, e)

  ends-sound : (script : List ℕ) (stack : Stack) → ends_true (outcome (all_known triples) (base q) script stack) ≡ Says true → RunsToTrue (spending_for q triples) script stack
  unfolding ends_true
  ends-sound script stack e =
      let h = map-says has_true_top (outcome (all_known triples) (base q) script stack) true e in ends-by script stack h.0 h.1 h.2

  ends-again : (script : List ℕ) (stack : Stack) → RunsToTrue (spending_for q triples) script stack → ends_true (outcome (all_known triples) (base q) script stack) ≡ Says true
  unfolding ends_true
  ends-again script stack r = rw (outcome-again script stack r.0 r.1) (ap Says r.2)

  -- ---- the inner script
  inner-by : (script : List ℕ) (left : Stack) (only : Bool) → is_push_only script ≡ only → (if only then ends_true (inner_outcome (all_known triples) (base q) left) else Says false) ≡ Says true → AcceptsInner (spending_for q triples) script left
  unfolding ends_true
  inner-by script left false only e = cc
  inner-by script [] true only e = cc
  inner-by script (inner ∷ others) true only e = (only, (inner, others, refl, ends-sound inner others e))

  inner-sound : (script : List ℕ) (left : Stack) → inner_verdict (all_known triples) q script left ≡ Says true → AcceptsInner (spending_for q triples) script left
  unfolding inner_verdict
  inner-sound script left e = inner-by script left (is_push_only script) refl e

  inner-again : (script : List ℕ) (left : Stack) → AcceptsInner (spending_for q triples) script left → inner_verdict (all_known triples) q script left ≡ Says true
  unfolding inner_verdict
  inner-again script left (only, (inner, others, is, r)) = rw (only, is) (ends-again inner others r)

  -- ---- the input
  both-say : (a b : Answer Bool) → also a b ≡ Says true → (a ≡ Says true) × (b ≡ Says true)
  both-say (Says true) b e = (refl, e)
  both-say (Says false) b e = cc
  both-say (Wants t) b e = cc

  both-on : (a b : Bool) (x y : Answer Bool) → a ≡ true → b ≡ true → (if a && b then x else y) ≡ x
  both-on true true x y on is = refl
  both-on true false x y on is = absurd (cc)
  both-on false b x y on is = absurd (cc)

  on-sound : (script : List ℕ) (left : Stack) → verdict_on (all_known triples) q script left ≡ Says true → RunsToTrue (spending_for q triples) q.spent left × (q.flags.p2sh ≡ true → is_p2sh q.spent ≡ true → AcceptsInner (spending_for q triples) script left)
  unfolding verdict_on
  on-sound script left e =
      let both = both-say (ends_true (outcome (all_known triples) (base q) q.spent left)) (if q.flags.p2sh && is_p2sh q.spent then inner_verdict (all_known triples) q script left else Says true) e in
      (ends-sound q.spent left both.0, λ on is. inner-sound script left (sym (both-on q.flags.p2sh (is_p2sh q.spent) _ _ on is) ∙ both.1))

  on-again : (script : List ℕ) (left : Stack) → RunsToTrue (spending_for q triples) q.spent left → (q.flags.p2sh ≡ true → is_p2sh q.spent ≡ true → AcceptsInner (spending_for q triples) script left) → verdict_on (all_known triples) q script left ≡ Says true
  unfolding verdict_on
  on-again script left r inner = rw (ends-again q.spent left r) (by q.flags.p2sh (is_p2sh q.spent) (λ on is. inner-again script left (inner on is)))
    where
      by : (on b : Bool) → (on ≡ true → b ≡ true → inner_verdict (all_known triples) q script left ≡ Says true) → (if on && b then inner_verdict (all_known triples) q script left else Says true) ≡ Says true
      by true true h = h refl refl
      by true false h = refl
      by false b h = refl

  after-by : (script : List ℕ) (o : Answer (Option Stack)) → outcome (all_known triples) (base q) script [] ≡ o → verdict_after (all_known triples) q script o ≡ Says true
      → (left : Stack) × Run (spending_for q triples) script [] left × RunsToTrue (spending_for q triples) q.spent left × (q.flags.p2sh ≡ true → is_p2sh q.spent ≡ true → AcceptsInner (spending_for q triples) script left)
  after-by script (Says None) is e = cc
  after-by script (Wants t) is e = cc
  after-by script (Says (Some left)) is e = let h = on-sound script left e in (left, outcome-sound script [] left is, h.0, h.1)

  accepted-by : (own : Option TxIn) → slice_get q.tx.inputs q.input ≡ own → verdict_of_input (all_known triples) q own ≡ Says true → Accepts q.tx q.input q.spent q.flags triples
  unfolding verdict_with
  accepted-by None is e = cc
  accepted-by (Some own) is e = (own, is, after-by own.script (outcome (all_known triples) (base q) own.script []) refl e)

  pub accepted-sound : verdict (all_known triples) q ≡ Says true → Accepts q.tx q.input q.spent q.flags triples
  unfolding verdict
  accepted-sound e = accepted-by (slice_get q.tx.inputs q.input) refl e

  pub accepted-again : Accepts q.tx q.input q.spent q.flags triples → verdict (all_known triples) q ≡ Says true
  unfolding verdict verdict_with
  accepted-again (own, is, (left, ran, to_true, inner)) = rw (is, outcome-again own.script [] left ran) (on-again own.script left to_true inner)
