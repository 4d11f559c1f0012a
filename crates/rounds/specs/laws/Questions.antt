-- How often an opcode asks.
use Rattle.std.specs.Prelude.{if◌then◌else◌}
use Rattle.std.proofs.Common.{◌≡◌, ℕ, suc, ◌+◌, ◌-◌, ◌≤◌, List, [], ◌∷◌, Bool, true, false, ltb, eqb, Option, Some, None, length, take, refl, sym, ap, ◌∙◌, ⊎_elim, arith}
use Rattle.std.proofs.lemmas.Bool.{cases_lt}
use Rattle.std.proofs.lemmas.List.{length-take-le}
use borrow.Author.Tests.{lt-ltb, le-ltb}
use Rattle.std.specs.Option.{option_map, option_and_then}
use Rattle.signatures.specs.Known.{Known}
use Rattle.signatures.specs.Triple.{Triple}
use Rattle.interp.specs.declared.flags.Flags.{Flags}
use Rattle.interp.specs.Answer.{Answer, Says, answer_map}
use Rattle.interp.specs.Limits.{max_ops, max_keys}
use Rattle.interp.specs.Running.{Running, code_with}
use Rattle.interp.specs.Elements.{truth_bytes}
use Rattle.interp.specs.Stack.{Stack, Bytes, pop}
use Rattle.interp.specs.State.{State, is_executing}
use Rattle.interp.specs.Effects.{verify, on_main, ask_if}
use Rattle.interp.specs.Row.{Check, Of, Sig, Multisig, Row, Does, Controls, Tests, AndVerifies, Separates, Asks, row_of}
use Rattle.interp.specs.Rules.{Taken, pop_count, pop_many, multisig_of, with_answer, skipped, with_count}
use Rattle.interp.specs.computed.Signatures.{may_be_tried, may_be_dummy, triple_for, verdict_or_wanted, pair_verdict, pairs_verdict}
use Rattle.interp.specs.computed.Step.{after_sig, after_taking, after_multisig, dummy_of, after_dummy, after_test, after_executing, after_acting, within_bounds, after_counting, step_at, step}
use Rattle.interp.specs.laws.Answers.{then-some}
use Rattle.rounds.specs.laws.Inquiry.{End, Ask, asked, AsksWithin, more, says, maps, left_in, somes, thens, chosen}
use Rattle.rounds.specs.laws.Table.{room, Stays, main-keeps, ask-keeps, IsCounted, IsOrderly, skipped-keeps, places, places_in, row-orderly, counted-room}

-- whatever is known, the same is said
abbrev pub IsQuiet : {A : Type 0} → (Known → Answer A) → Type 0
IsQuiet {A} f = (x : A) × ((known : Known) → f known ≡ Says x)

-- ---- what CHECKMULTISIG takes
many-taken : (n : ℕ) (s : Stack) (keys : List Bytes × Stack) → pop_many n s ≡ Some keys → length keys.0 ≡ n
many-taken n s keys e =
    ⊎_elim (λ short. let g = rw (lt-ltb (length s) n short) at e in cc)
    (λ long. let g = rw (le-ltb (length s) n long) at e in let is : take n s ≡ keys.0 = cc in ap length (sym is) ∙ length-take-le n s long) (cases_lt (length s) n)

counted-few : (count : ℕ) (found taken : Taken) → (if ltb max_ops count then None else Some found) ≡ Some taken → (count ≤ max_ops) × (found ≡ taken)
counted-few count found taken e =
    ⊎_elim (λ over. let g = rw (lt-ltb max_ops count over) at e in cc) (λ few. let g = rw (le-ltb max_ops count few) at e in (few, cc)) (cases_lt max_ops count)

-- its keys are counted
few-keys : (s : State) (taken : Taken) → multisig_of s ≡ Some taken → s.count + length taken.keys ≤ max_ops
unfolding multisig_of
few-keys s taken e =
    let n = then-some (pop_count max_keys s.main) _ taken e in
    let keys = then-some (pop_many n.0.0 n.0.1) _ taken n.2 in
    let m = then-some (pop_count n.0.0 keys.0.1) _ taken keys.2 in
    let signatures = then-some (pop_many m.0.0 m.0.1) _ taken m.2 in
    let extra = then-some (pop signatures.0.1) _ taken signatures.2 in
    let long = many-taken n.0.0 n.0.1 keys.0 keys.1 in
    let few = counted-few (s.count + n.0.0) _ taken extra.2 in
    let same = ap (λ t. length t.keys) few.1 in
    omega (arith, few.0, long, same)

-- ---- what follows a check
verified-stays : (o : Option State) → left_in room (option_and_then (on_main verify) o) ≤ left_in room o
verified-stays (Some s) = main-keeps verify s
verified-stays None = omega arith

dummy-stays : (flags : Flags) (s : State) (o : Option State) → left_in room (option_and_then (after_dummy flags s) o) ≤ left_in room o
unfolding after_dummy
dummy-stays flags s None = omega arith
dummy-stays flags s (Some answered) = by (may_be_dummy flags (dummy_of s))
  where
    by : (may : Bool) → left_in room (if may then Some answered else None) ≤ left_in room (Some answered)
    by true = omega arith
    by false = omega arith

bounds-stay : (o : Option State) → left_in room (option_and_then within_bounds o) ≤ left_in room o
unfolding within_bounds
bounds-stay None = omega arith
bounds-stay (Some s) = by (ltb 1000 (length s.main + length s.alt))
  where
    by : (b : Bool) → Stays s (if b then None else Some s)
    by true = omega arith
    by false = omega arith

module _ (r : Running) where
  one : (t : Triple) (m : ℕ) → AsksWithin (λ answer. m) (suc m) (λ known. verdict_or_wanted (known t) t)
  one t m = (Ask t (End true) (End false), (m, omega arith, omega arith, omega arith), λ known. by (known t))
    where
      by : (o : Option Bool) → verdict_or_wanted o t ≡ asked o t (Says true) (Says false)
      by (Some true) = refl
      by (Some false) = refl
      by None = refl

  pair : (m : ℕ) (code : List ℕ) (signature key : Bytes) → AsksWithin (left_in (λ answer. m)) (suc m) (λ known. pair_verdict known r code signature key)
  unfolding pair_verdict
  pair m code signature key =
      let left : Option Bool → ℕ = left_in (λ answer. m) in
      chosen left (suc m) (may_be_tried r.flags signature) _ _
      (chosen left (suc m) (eqb (length signature) 0) _ _ (says left (suc m) (Some false) (omega arith)) (maps (λ answer. m) left (suc m) Some _ (λ valid. omega arith) (one (triple_for r code signature key) m)))
      (says left (suc m) None (omega arith))

  -- one for each key
  pairs : (m : ℕ) (code : List ℕ) (signatures keys : List Bytes)
      → AsksWithin (left_in (λ answer. m)) (length keys + m) (λ known. pairs_verdict known r code signatures keys)
  unfolding pairs_verdict
  pairs m code [] keys = says (left_in (λ answer. m)) (length keys + m) (Some true) (omega arith)
  pairs m code (signature ∷ signatures) [] = says (left_in (λ answer. m)) (0 + m) (Some false) (omega arith)
  pairs m code (signature ∷ signatures) (key ∷ keys) =
      let left : Option Bool → ℕ = left_in (λ answer. m) in
      more left (suc (length keys + m)) (suc (length keys) + m) _ (omega arith)
      (chosen left (suc (length keys + m)) (ltb (length keys) (length signatures)) _ _ (says left (suc (length keys + m)) (Some false) (omega arith))
      (thens (λ answer. length keys + m) (λ answer. m) (suc (length keys + m)) _
      (λ valid known. if valid then pairs_verdict known r code signatures keys else pairs_verdict known r code (signature ∷ signatures) keys) (pair (length keys + m) code signature key)
      (λ valid. chosen left (length keys + m) valid _ _ (pairs m code signatures keys) (pairs m code (signature ∷ signatures) keys))))

  sig : (s : State) (main : Stack) → AsksWithin (left_in room) (1 + room s) (λ known. after_sig known r s main)
  unfolding after_sig
  sig s [] = says (left_in room) (1 + room s) None (omega arith)
  sig s (key ∷ []) = says (left_in room) (1 + room s) None (omega arith)
  sig s (key ∷ signature ∷ rest) =
      maps (left_in (λ answer. room s)) (left_in room) (1 + room s) (option_map (λ valid. record s { main = truth_bytes valid ∷ rest })) _ by
      (more (left_in (λ answer. room s)) (suc (room s)) (1 + room s) _ (omega arith) (pair (room s) (code_with r.value s.code (signature ∷ [])) signature key))
    where
      by : (o : Option Bool) → left_in room (option_map (λ valid. record s { main = truth_bytes valid ∷ rest }) o) ≤ left_in (λ answer. room s) o
      by (Some valid) = omega arith
      by None = omega arith

  taking : (s : State) (taken : Taken) → s.count + length taken.keys ≤ max_ops → AsksWithin (left_in room) (room s) (λ known. after_taking known r s taken)
  taking s taken few =
      let m = max_ops - (s.count + length taken.keys) in
      more (left_in room) (length taken.keys + m) (room s) _ (omega (arith, few))
      (maps (left_in (λ answer. m)) (left_in room) (length taken.keys + m) (option_map (with_answer s taken)) _ by (pairs m (code_with r.value s.code taken.signatures) taken.signatures taken.keys))
    where
      by : (o : Option Bool) → left_in room (option_map (with_answer s taken) o) ≤ left_in (λ answer. max_ops - (s.count + length taken.keys)) o
      by (Some valid) = omega arith
      by None = omega arith

  multisig : (s : State) → AsksWithin (left_in room) (room s) (λ known. after_multisig known r s)
  unfolding after_multisig
  multisig s =
      somes (left_in room) (room s) (multisig_of s) (λ taken known. after_taking known r s taken) (omega arith) (λ taken is. taking s taken (few-keys s taken is))

  -- ---- an opcode
  test-within : (check : Check) (s : State) → AsksWithin (left_in room) (places check + room s) (λ known. after_test known r check s)
  test-within (Of f) s = says (left_in room) (0 + room s) (on_main f s) (let h = main-keeps f s in omega (arith, h))
  test-within Sig s = sig s s.main
  test-within Multisig s =
      more (left_in room) (room s) (0 + room s) _ (omega arith)
      (maps (left_in room) (left_in room) (room s) (option_and_then (after_dummy r.flags s)) _ (dummy-stays r.flags s) (multisig s))

  -- it does the same whatever is known
  done : (o : Option State) (s : State) → Stays s o → AsksWithin (left_in room) (0 + room s) (λ known. Says o)
  done o s stays = says (left_in room) (0 + room s) o (omega (arith, stays))

  executing-within : (after : List ℕ) (number : ℕ) (row : Row) (s : State) → IsOrderly number row
      → AsksWithin (left_in room) (places_in row + room s) (λ known. after_executing known r after row s)
  executing-within after number (Does f) s orderly = done (f s) s (orderly s)
  executing-within after number (Controls f untaken) s orderly = done (f s) s (orderly.0 s)
  executing-within after number (Tests check) s orderly = test-within check s
  executing-within after number (AndVerifies check) s orderly =
      maps (left_in room) (left_in room) (places check + room s) (option_and_then (on_main verify)) _ verified-stays (test-within check s)
  executing-within after number Separates s orderly = done (Some record s { code = after }) s (omega arith)
  executing-within after number (Asks in_force test) s orderly = done _ s (ask-keeps (in_force r.flags) (test r.tx r.input) s)

  acting-within : (after : List ℕ) (number : ℕ) (row : Row) (s : State) → IsOrderly number row
      → AsksWithin (left_in room) (places_in row + room s) (λ known. after_acting known r after row s)
  unfolding after_acting
  acting-within after number row s orderly =
      chosen (left_in room) (places_in row + room s) (is_executing s) _ _ (executing-within after number row s orderly)
      (says (left_in room) (places_in row + room s) (skipped row s) (let h = skipped-keeps number row orderly s in omega (arith, h)))

  counting-within : (after : List ℕ) (number : ℕ) (row : Row) (s : State) → IsOrderly number row
      → AsksWithin (left_in room) (places_in row + room s) (λ known. after_counting known r after row s)
  counting-within after number row s orderly = maps (left_in room) (left_in room) (places_in row + room s) (option_and_then within_bounds) _ bounds-stay (acting-within after number row s orderly)

  pub step-within : (after op : List ℕ) (s : State) → AsksWithin (left_in room) (room s) (λ known. step known r after op s)
  unfolding step step_at
  step-within after [] s = says (left_in room) (room s) None (omega arith)
  step-within after (number ∷ bytes) s =
      let row = row_of (number ∷ bytes) in
      somes (left_in room) (room s) (with_count number s) (λ counted known. after_counting known r after row counted) (omega arith)
      (λ counted is. more (left_in room) (places_in row + room counted) (room s) _ (counted-room number bytes s counted is) (counting-within after number row counted (row-orderly number bytes)))

  -- ---- an opcode up to 60
  test-quiet : (number : ℕ) (check : Check) (s : State) → IsCounted number check → number ≤ 96 → IsQuiet (λ known. after_test known r check s)
  test-quiet number (Of f) s counted low = (on_main f s, λ known. refl)
  test-quiet number Sig s counted low = absurd (omega (arith, counted, low))
  test-quiet number Multisig s counted low = absurd (omega (arith, counted, low))

  executing-quiet : (after : List ℕ) (number : ℕ) (row : Row) (s : State) → IsOrderly number row → number ≤ 96 → IsQuiet (λ known. after_executing known r after row s)
  executing-quiet after number (Does f) s orderly low = (f s, λ known. refl)
  executing-quiet after number (Controls f untaken) s orderly low = (f s, λ known. refl)
  executing-quiet after number (Tests check) s orderly low = test-quiet number check s orderly low
  executing-quiet after number (AndVerifies check) s orderly low =
      let told = test-quiet number check s orderly low in
      (option_and_then (on_main verify) told.0, λ known. ap (answer_map (option_and_then (on_main verify))) (told.1 known))
  executing-quiet after number Separates s orderly low = (Some record s { code = after }, λ known. refl)
  executing-quiet after number (Asks in_force test) s orderly low = (ask_if (in_force r.flags) (test r.tx r.input) s, λ known. refl)

  acting-quiet : (after : List ℕ) (number : ℕ) (row : Row) (s : State) → IsOrderly number row → number ≤ 96 → IsQuiet (λ known. after_acting known r after row s)
  unfolding after_acting
  acting-quiet after number row s orderly low = by (is_executing s) (executing-quiet after number row s orderly low)
    where
      by : (b : Bool) → IsQuiet (λ known. after_executing known r after row s)
          → IsQuiet (λ known. if b then after_executing known r after row s else Says (skipped row s))
      by true told = told
      by false told = (skipped row s, λ known. refl)

  pub step-quiet : (after : List ℕ) (number : ℕ) (bytes : List ℕ) (s : State) → number ≤ 96 → IsQuiet (λ known. step known r after (number ∷ bytes) s)
  unfolding step step_at with_count
  step-quiet after number bytes s low =
      let told = acting-quiet after number (row_of (number ∷ bytes)) s (row-orderly number bytes) low in
      (option_and_then within_bounds told.0, λ known. rw (le-ltb 96 number low, told.1 known) refl)
