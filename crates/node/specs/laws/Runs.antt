-- What a seat was answered is explained by every legal history that begins with what it has seen.
use Rattle.std.proofs.Common.{◌≡◌, ℕ, zero, suc, ◌+◌, ◌<◌, ◌≤◌, max, List, [], ◌∷◌, ◌++◌, length, take, drop, slice_get, Option, Some, None, Ok, Err, refl, ap, sym, ◌∙◌, subst, append_assoc, append-nil, length-append, arith, ⊎_elim, inl, inr, Bool, not}
use mathlib.Core.List.{IsPrefix}
use Rattle.txn.specs.declared.outpoint.OutPoint.{OutPoint}
use Rattle.signatures.specs.Known.{Agrees}
use Rattle.signatures.specs.Triple.{Triple, Triples}
use Rattle.coins.specs.Coins.{Coins}
use Rattle.coins.specs.declared.coin.Coin.{Coin}
use Rattle.model.specs.declared.command.Command.{Command}
use Rattle.model.specs.declared.command.Command.TheVariants as command
use Rattle.model.specs.declared.reply.Reply.{Reply}
use Rattle.model.specs.declared.reply.Reply.TheVariants as reply
use Rattle.model.specs.declared.reply.SubmitReply.{SubmitReply}
use Rattle.model.specs.declared.reply.SubmitReply.TheVariants.{Accepted, Inconclusive, Duplicate, DuplicateInvalid, DuplicateInconclusive, Rejected, DecodeFailed, TreeFull}
use Rattle.model.specs.declared.entry.Entry.{Entry}
use Rattle.model.specs.History.{state_left, state_after_entries, state_at, Answers, Stands, own_of, entry_of}
use Rattle.model.specs.declared.reply.MarkReply.TheVariants.{Done}
use Rattle.model.specs.Learnt.{AreNews}
use Rattle.model.specs.laws.History.{state_after-append, stands_within}
use Rattle.model.specs.laws.Learnt.{agreed_with_front}
use Rattle.view.specs.Origin.{Origin, known_in, machine}
use Rattle.view.specs.ViewState.{IsLegal, IsLegalWith}
use Rattle.node.specs.declared.answer.Learning.{Learning}
use Rattle.node.specs.declared.answer.Learning.TheVariants as learning
use Rattle.node.specs.declared.fault.Fault.{Fault}
use Rattle.node.specs.declared.fault.Fault.TheVariants.{Memory, Owed, Closed, Unknown}
use Rattle.node.specs.Pass.{Pass, Heard, opening_pass, settled, IsLater, IsLonger, IsWrite, IsRead, AreCoins, IsListed, IsStanding}
use Rattle.node.specs.Calls.{IsSubmitAnswer, IsLearnAnswer, IsVerdict, IsWriteFault, IsJudgeFault, IsReadFault, IsClosedFault}
use Rattle.node.specs.Told.{AreNext, coins_in}
use Rattle.node.specs.Runs.{Call, Submit, Mark, Learn, Judge, Spent, GetTxOut, CoinsFrom, GetBestBlockHash, GetChainTips, Journal, Note, Told, Ensures, Makes, step_of_reply, step_of_learning, step_of_fault, step_of, steps_of, IsStep, IsSubmission, IsLearnt, IsLeft, Explains, ExplainsAll}

-- beginnings of a list
begins_all : {A : Type 0} (xs ys zs : List A) → IsPrefix xs ys → IsPrefix ys zs → IsPrefix xs zs
begins_all xs ys zs p q = (p.0 ++ q.0, sym (append_assoc xs p.0 q.0) ∙ ap (λ (l : List _). l ++ q.0) p.1 ∙ q.1)

take_front : {A : Type 0} (xs ys : List A) → take (length xs) (xs ++ ys) ≡ xs
take_front [] ys = refl
take_front (x ∷ xs) ys = ap (λ (l : List _). x ∷ l) (take_front xs ys)

take_next : {A : Type 0} (xs : List A) (y : A) (ys : List A) → take (suc (length xs)) (xs ++ y ∷ ys) ≡ xs ++ y ∷ []
take_next [] y ys = refl
take_next (x ∷ xs) y ys = ap (λ (l : List _). x ∷ l) (take_next xs y ys)

get_next : {A : Type 0} (xs : List A) (y : A) (ys : List A) → slice_get (xs ++ y ∷ ys) (length xs) ≡ Some y
get_next [] y ys = refl
get_next (x ∷ xs) y ys = get_next xs y ys

take_begun : {A : Type 0} (xs ys : List A) → IsPrefix xs ys → take (length xs) ys ≡ xs
take_begun xs ys p = ap (take (length xs)) (sym p.1) ∙ take_front xs p.0

length_begun : {A : Type 0} (xs ys : List A) → IsPrefix xs ys → length xs ≤ length ys
length_begun xs ys p =
    let l : length xs + length p.0 ≡ length ys = sym (length-append xs p.0) ∙ ap length p.1 in
    omega (arith, l)

-- what a step gives that has this reply
answered : {S : Type 0} (s : S) (r : Reply) (x : Option (S × Reply)) → Answers (Some r) x → x ≡ Some (state_left s x, r)
answered s r None a = absurd a
answered s r (Some x) a = ap (λ (v : Reply). Some (x.0, v)) (sym a)

-- an entry of a legal history is a step of the chainstate
module _ (o : Origin) (valid : Triples) (seat : ℕ) (c : Command) (r : Reply) (before rest : List Entry) where
  abbrev its_entry : Entry
  its_entry = entry_of seat c (Some r)

  abbrev its_history : List Entry
  its_history = before ++ its_entry ∷ rest

  before_it : state_at (machine o valid) its_history (length before) ≡ state_after_entries (machine o valid) (machine o valid).opening before
  before_it = ap (λ (l : List Entry). state_after_entries (machine o valid) (machine o valid).opening l) (take_front before (its_entry ∷ rest))

  after_it : state_at (machine o valid) its_history (suc (length before)) ≡ state_after_entries (machine o valid) (machine o valid).opening (before ++ its_entry ∷ [])
  after_it = ap (λ (l : List Entry). state_after_entries (machine o valid) (machine o valid).opening l) (take_next before its_entry rest)

  step_there : IsLegalWith o valid its_history → IsStep o its_history valid seat c (suc (length before)) r
  step_there legal =
      let m = machine o valid in
      let s = state_after_entries m m.opening before in
      let stands : Stands m o.seats s its_entry = stands_within m o.seats m.opening before rest its_entry legal in
      let steps : m.step s c ≡ Some (state_left s (m.step s c), r) = answered s r (m.step s c) stands.reply_is in
      let left : state_at m its_history (suc (length before)) ≡ state_left s (m.step s c) = after_it ∙ state_after-append m m.opening before (its_entry ∷ []) in
      (get_next before its_entry rest, ap (λ t. m.step t c) before_it ∙ steps ∙ ap (λ t. Some (t, r)) (sym left))

-- what a call does to a seat's pass
pub record Moves (p q : Pass) : Type 0 where
  pub number : q.number ≡ p.number
  pub origin : q.origin ≡ p.origin
  pub grows : IsPrefix p.seen q.seen

of_later : (p q : Pass) → IsLater p q → Moves p q
of_later p q l = record { number = l.number; origin = l.origin; grows = l.grows }

of_same : (p q : Pass) → q ≡ p → Moves p q
of_same p q e = record { number = ap (λ (x : Pass). x.number) e; origin = ap (λ (x : Pass). x.origin) e; grows = ([], append-nil p.seen ∙ sym (ap (λ (x : Pass). x.seen) e)) }

moves : (p q : Pass) (c : Call) → Ensures p q c → Moves p q
moves p q (Submit bytes now r) e = of_later p q e.later
moves p q (Mark c r) e = of_later p q e.later
moves p q (Learn t v r) e = of_later p q e.later
moves p q (Judge bytes now r) e = of_later p q e.later
moves p q (Spent id r) e = of_later p q e.later
moves p q (GetTxOut outpoint r) e = of_later p q e.later
moves p q (GetBestBlockHash r) e = of_later p q e.later
moves p q (CoinsFrom above most r) e = of_later p q e.later
moves p q (GetChainTips r) e = of_later p q e.later
moves p q (Journal first last r) e = of_later p q e.later
moves p q (Note x) e = of_same p q e.0
moves p q (Told x) e = of_later p q e.0

all_move : (p z : Pass) (cs : List Call) → Makes p cs z → Moves p z
all_move p z [] e = of_same p z e
all_move p z (c ∷ cs) e =
    let one = moves p e.0 c e.1 in
    let rest = all_move e.0 z cs e.2 in
    record { number = rest.number ∙ one.number; origin = rest.origin ∙ one.origin; grows = begins_all p.seen e.0.seen z.seen one.grows rest.grows }

-- what a refused call leaves
module _ (p q : Pass) where
  write_fault : (c : Command) (f : Fault) → IsPrefix p.seen q.seen → IsWriteFault p q c f → IsLeft (length p.seen) (length q.seen) f
  write_fault c Memory b e = ap (λ (x : Pass). length x.seen) e
  write_fault c Owed b e = ap length e.0
  write_fault c Closed b e = ap (λ (x : Pass). length x.seen) e
  write_fault c Unknown b e = length_begun p.seen q.seen b

  judge_fault : (c : Command) (f : Fault) → IsPrefix p.seen q.seen → IsJudgeFault p q c f → IsLeft (length p.seen) (length q.seen) f
  judge_fault c Memory b e = ap (λ (x : Pass). length x.seen) e
  judge_fault c Owed b e = absurd e
  judge_fault c Closed b e = ap (λ (x : Pass). length x.seen) e
  judge_fault c Unknown b e = length_begun p.seen q.seen b

  read_fault : (f : Fault) → IsReadFault p q f → q ≡ p
  read_fault Memory e = e
  read_fault Owed e = absurd e
  read_fault Closed e = e
  read_fault Unknown e = absurd e

  closed_fault : (f : Fault) → IsClosedFault p q f → q ≡ p
  closed_fault Memory e = absurd e
  closed_fault Owed e = absurd e
  closed_fault Closed e = e
  closed_fault Unknown e = absurd e

-- each answer, at its place
module _ (h : List Entry) (p q : Pass) (legal : IsLegal p.origin h) (begins : IsPrefix q.seen h) (grows : IsPrefix p.seen q.seen) (valid : Triples) (agrees : Agrees (known_in p.origin h) valid) where
  -- what agrees with the whole agreed with what was seen
  agreed : Agrees (known_in p.origin q.seen) valid
  agreed =
      agreed_with_front p.origin.table q.seen begins.0 valid
      (subst (λ (l : List Entry). AreNews p.origin.table l) (sym begins.1) legal.news)
      (subst (λ (l : List Entry). Agrees (known_in p.origin l) valid) (sym begins.1) agrees)

  written : (c : Command) (at : ℕ) (r : Reply) → IsWrite p q c at r → (at ≡ length q.seen) × (length p.seen < length q.seen) × IsStep p.origin h valid p.number c (length q.seen) r
  written c at r w =
      let before = w.last.0 in
      let e = entry_of p.number c (Some r) in
      let long : length q.seen ≡ suc (length before) = let l = ap length w.last.1 ∙ length-append before (e ∷ []) in omega (arith, l) in
      let less = length_begun p.seen before w.last.2 in
      let whole : before ++ e ∷ begins.0 ≡ h = sym (append_assoc before (e ∷ []) begins.0) ∙ ap (λ (l : List Entry). l ++ begins.0) (sym w.last.1) ∙ begins.1 in
      let there : IsStep p.origin h valid p.number c (suc (length before)) r =
      subst (λ (l : List Entry). IsStep p.origin l valid p.number c (suc (length before)) r) whole
      (step_there p.origin valid p.number c r before begins.0 (subst (IsLegalWith p.origin valid) (sym whole) (legal.legal valid agrees))) in
      (w.at_is, omega (arith, long, less), subst (λ (n : ℕ). IsStep p.origin h valid p.number c n r) (sym long) there)

  submitted : (bytes : List ℕ) (now at : ℕ) (v : SubmitReply) → IsSubmitAnswer p q bytes now at v → (at ≡ length q.seen) × IsSubmission p.origin h valid p.number (length p.seen) (length q.seen) bytes now v
  submitted bytes now at DecodeFailed a =
      let same : length q.seen ≡ length p.seen = ap (λ (x : Pass). length x.seen) a.1.same in
      (a.1.at_is ∙ sym same, (same, a.0))
  submitted bytes now at Accepted a = let w = written (command.Submit bytes now) at (reply.Submit Accepted) a in (w.0, (w.1, w.2))
  submitted bytes now at Inconclusive a = let w = written (command.Submit bytes now) at (reply.Submit Inconclusive) a in (w.0, (w.1, w.2))
  submitted bytes now at Duplicate a = let w = written (command.Submit bytes now) at (reply.Submit Duplicate) a in (w.0, (w.1, w.2))
  submitted bytes now at DuplicateInvalid a = let w = written (command.Submit bytes now) at (reply.Submit DuplicateInvalid) a in (w.0, (w.1, w.2))
  submitted bytes now at DuplicateInconclusive a = let w = written (command.Submit bytes now) at (reply.Submit DuplicateInconclusive) a in (w.0, (w.1, w.2))
  submitted bytes now at (Rejected reason) a = let w = written (command.Submit bytes now) at (reply.Submit (Rejected reason)) a in (w.0, (w.1, w.2))
  submitted bytes now at TreeFull a = let w = written (command.Submit bytes now) at (reply.Submit TreeFull) a in (w.0, (w.1, w.2))

  -- a verdict that is known after what was seen is known there
  verdict : (t : Triple) (v : Bool) (at : ℕ) → IsVerdict p q t v at → (at ≡ length q.seen) × (known_in p.origin (take (length q.seen) h) t ≡ Some v)
  verdict t v at k = (k.at_is, ap (λ (l : List Entry). known_in p.origin l t) (take_begun q.seen h begins) ∙ k.known_is)

  learnt : (t : Triple) (v : Bool) (at : ℕ) (x : Learning) → IsLearnAnswer p q t v at x → (at ≡ length q.seen) × IsLearnt p.origin h valid p.number (length p.seen) (length q.seen) t v x
  learnt t v at learning.New a = let w = written (command.Learn t v) at (reply.Mark Done) a in (w.0, (w.1, w.2))
  learnt t v at learning.Known a = verdict t v at a
  learnt t v at learning.Contradicted a = verdict t (not v) at a

  -- what was seen at the place of an answer
  seen_there : (at : ℕ) → at ≡ length q.seen → take at q.seen ≡ take (length q.seen) h
  seen_there at is = ap (λ (n : ℕ). take n q.seen) is ∙ take_begun q.seen q.seen ([], append-nil q.seen) ∙ sym (take_begun q.seen h begins)

  read : {V : Type 0} (value : (valid : Triples) → (machine p.origin valid).State → V) (at : ℕ) (answer : V) → IsRead p q value at answer → (at ≡ length q.seen) × (answer ≡ value valid (state_at (machine p.origin valid) h (length q.seen)))
  read value at answer r =
      let m = machine p.origin valid in
      (r.at_is, r.value_is valid agreed ∙ ap (λ (l : List Entry). value valid (state_after_entries m m.opening l)) (seen_there at r.at_is))

  -- so it is of a dry run, behind which nothing is wanted
  judged : {V : Type 0} (value : (valid : Triples) → (machine p.origin valid).State → V) (at : ℕ) (answer : V) → IsRead (settled p) q value at answer → (at ≡ length q.seen) × (answer ≡ value valid (state_at (machine p.origin valid) h (length q.seen)))
  judged value at answer r =
      let m = machine p.origin valid in
      (r.at_is, r.value_is valid agreed ∙ ap (λ (l : List Entry). value valid (state_after_entries m m.opening l)) (seen_there at r.at_is))

  coins : (above : Option OutPoint) (most at : ℕ) (answer : List (OutPoint × Coin)) → AreCoins p q above most at answer
      → (at ≡ length q.seen) × AreNext (coins_in p.origin valid (state_at (machine p.origin valid) h (length q.seen))) above most answer
  coins above most at answer a =
      let m = machine p.origin valid in
      let same : coins_in p.origin valid (state_at m q.seen at) ≡ coins_in p.origin valid (state_at m h (length q.seen)) =
      ap (λ (l : List Entry). coins_in p.origin valid (state_after_entries m m.opening l)) (seen_there at a.at_is) in
      (a.at_is, subst (λ (x : Coins). AreNext x above most answer) same (a.answer_is valid agreed))

  listed : (first last at : ℕ) (answer : List Entry) → IsListed p q first last at answer → (at ≡ length q.seen) × (answer ≡ drop first (take last (take (length q.seen) h)))
  listed first last at answer l = (l.at_is, l.answer_is ∙ ap (λ (xs : List Entry). drop first (take last xs)) (sym (take_begun q.seen h begins)))

  noted : (x : Heard) → (q ≡ p) × (x.seen ≡ p.seen) → (length q.seen ≡ length p.seen) × (length x.seen ≡ length p.seen) × IsPrefix x.seen h
  noted x e =
      let same : q.seen ≡ p.seen = ap (λ (y : Pass). y.seen) e.0 in
      (ap length same, ap length e.1, subst (λ (l : List Entry). IsPrefix l h) (same ∙ sym e.1) begins)

  told : (x : Heard) → IsLonger p.seen x.seen q.seen → (length q.seen ≡ max (length p.seen) (length x.seen)) × IsPrefix x.seen h
  told x l = ⊎_elim (λ a. was a.0 a.1) (λ a. is a.0 a.1) l
    where
      was : q.seen ≡ p.seen → IsPrefix x.seen p.seen → (length q.seen ≡ max (length p.seen) (length x.seen)) × IsPrefix x.seen h
      was e b =
          let n : length q.seen ≡ length p.seen = ap length e in
          let less = length_begun x.seen p.seen b in
          (omega (arith, n, less), begins_all x.seen p.seen h b (subst (λ (l : List Entry). IsPrefix l h) e begins))

      is : q.seen ≡ x.seen → IsPrefix p.seen x.seen → (length q.seen ≡ max (length p.seen) (length x.seen)) × IsPrefix x.seen h
      is e b =
          let n : length q.seen ≡ length x.seen = ap length e in
          let less = length_begun p.seen x.seen b in
          (omega (arith, n, less), subst (λ (l : List Entry). IsPrefix l h) e begins)

  stays : (f : Fault) → q ≡ p → IsLeft (length p.seen) (length q.seen) f
  stays Memory e = ap (λ (x : Pass). length x.seen) e
  stays Owed e = ap (λ (x : Pass). length x.seen) e
  stays Closed e = ap (λ (x : Pass). length x.seen) e
  stays Unknown e = length_begun p.seen q.seen grows

  explained : (c : Call) → Ensures p q c → Explains p.origin h valid p.number (length p.seen) (length q.seen) c
  explained (Submit bytes now (Ok r)) e = submitted bytes now r.at r.value e.answer
  explained (Submit bytes now (Err f)) e = write_fault p q (command.Submit bytes now) f grows e.fault
  explained (Mark c (Ok r)) e = let w = written c r.at (reply.Mark r.value) e.answer in (w.0, (w.1, w.2))
  explained (Mark c (Err f)) e = write_fault p q c f grows e.fault
  explained (Learn t v (Ok r)) e = learnt t v r.at r.value e.answer
  explained (Learn t v (Err f)) e = write_fault p q (command.Learn t v) f grows e.fault
  explained (Judge bytes now (Ok r)) e = judged _ r.at (reply.Submit r.value) e.answer
  explained (Judge bytes now (Err f)) e = judge_fault p q (command.Submit bytes now) f grows e.fault
  explained (Spent id (Ok r)) e = read _ r.at r.value e.answer
  explained (Spent id (Err f)) e = stays f (read_fault p q f e.fault)
  explained (GetTxOut outpoint (Ok r)) e = read _ r.at r.value e.answer
  explained (GetTxOut outpoint (Err f)) e = stays f (read_fault p q f e.fault)
  explained (GetBestBlockHash (Ok r)) e = read _ r.at r.value e.answer
  explained (GetBestBlockHash (Err f)) e = stays f (closed_fault p q f e.fault)
  explained (CoinsFrom above most (Ok r)) e = coins above most r.at r.value.items e.answer
  explained (CoinsFrom above most (Err f)) e = stays f (read_fault p q f e.fault)
  explained (GetChainTips (Ok r)) e = read _ r.at r.value.items e.answer
  explained (GetChainTips (Err f)) e = stays f (read_fault p q f e.fault)
  explained (Journal first last (Ok r)) e = listed first last r.at r.value.items e.answer
  explained (Journal first last (Err f)) e = stays f (read_fault p q f e.fault)
  explained (Note x) e = noted x e
  explained (Told x) e = told x e.2

all_explained : (h : List Entry) (valid : Triples) (p z : Pass) (cs : List Call) → IsLegal p.origin h → Agrees (known_in p.origin h) valid → Makes p cs z → IsPrefix z.seen h
    → ExplainsAll p.origin h valid p.number (length p.seen) cs
all_explained h valid p z [] legal agrees e begins = tt
all_explained h valid p z (c ∷ cs) legal agrees e begins =
    let q = e.0 in
    let one = moves p q c e.1 in
    let begun : IsPrefix q.seen h = begins_all q.seen z.seen h (all_move q z cs e.2).grows begins in
    let rest = all_explained h valid q z cs (subst (λ o. IsLegal o h) (sym one.origin) legal) (subst (λ o. Agrees (known_in o h) valid) (sym one.origin) agrees) e.2 begins in
    let here = subst (λ o. ExplainsAll o h valid q.number (length q.seen) cs) one.origin rest in
    (length q.seen, length_begun p.seen q.seen one.grows, length_begun q.seen h begun, explained h p q legal begun one.grows valid agrees c e.1, subst (λ n. ExplainsAll p.origin h valid n (length q.seen) cs) one.number here)

pub one_history : (o : Origin) (h : List Entry) (valid : Triples) (seat : ℕ) (cs : List Call) (z : Pass) → IsLegal o h → Agrees (known_in o h) valid → Makes (opening_pass o seat) cs z → IsPrefix z.seen h
    → ExplainsAll o h valid seat 0 cs
one_history o h valid seat cs z legal agrees e begins = all_explained h valid (opening_pass o seat) z cs legal agrees e begins

-- the seat's own entries
module _ (p q : Pass) where
  same_mine : q ≡ p → q.mine ≡ p.mine ++ []
  same_mine e = ap (λ (x : Pass). x.mine) e ∙ sym (append-nil p.mine)

  kept : q.mine ≡ p.mine → q.mine ≡ p.mine ++ []
  kept e = e ∙ sym (append-nil p.mine)

  left_unanswered : (c : Command) (f : Fault) → IsWriteFault p q c f → q.mine ≡ p.mine ++ step_of_fault p.number c f
  left_unanswered c Memory e = same_mine e
  left_unanswered c Owed e = e.1
  left_unanswered c Closed e = same_mine e
  left_unanswered c Unknown e = kept e.0

  left_unjudged : (c : Command) (f : Fault) → IsJudgeFault p q c f → q.mine ≡ p.mine ++ []
  left_unjudged c Memory e = same_mine e
  left_unjudged c Owed e = absurd e
  left_unjudged c Closed e = same_mine e
  left_unjudged c Unknown e = kept e.0

  left_by_submission : (bytes : List ℕ) (now at : ℕ) (v : SubmitReply) → IsSubmitAnswer p q bytes now at v → q.mine ≡ p.mine ++ step_of_reply p.number (command.Submit bytes now) (reply.Submit v)
  left_by_submission bytes now at DecodeFailed a = kept (ap (λ (x : Pass). x.mine) a.1.same)
  left_by_submission bytes now at Accepted a = a.mine_is
  left_by_submission bytes now at Inconclusive a = a.mine_is
  left_by_submission bytes now at Duplicate a = a.mine_is
  left_by_submission bytes now at DuplicateInvalid a = a.mine_is
  left_by_submission bytes now at DuplicateInconclusive a = a.mine_is
  left_by_submission bytes now at (Rejected reason) a = a.mine_is
  left_by_submission bytes now at TreeFull a = a.mine_is

  left_by_learning : (t : Triple) (v : Bool) (at : ℕ) (x : Learning) → IsLearnAnswer p q t v at x → q.mine ≡ p.mine ++ step_of_learning p.number (command.Learn t v) x
  left_by_learning t v at learning.New a = a.mine_is
  left_by_learning t v at learning.Known a = kept a.mine_is
  left_by_learning t v at learning.Contradicted a = kept a.mine_is

  left : (c : Call) → Ensures p q c → q.mine ≡ p.mine ++ step_of p.number c
  left (Submit bytes now (Ok r)) e = left_by_submission bytes now r.at r.value e.answer
  left (Submit bytes now (Err f)) e = left_unanswered (command.Submit bytes now) f e.fault
  left (Mark c (Ok r)) e = e.answer.mine_is
  left (Mark c (Err f)) e = left_unanswered c f e.fault
  left (Learn t v (Ok r)) e = left_by_learning t v r.at r.value e.answer
  left (Learn t v (Err f)) e = left_unanswered (command.Learn t v) f e.fault
  left (Judge bytes now (Ok r)) e = kept e.answer.mine_is
  left (Judge bytes now (Err f)) e = left_unjudged (command.Submit bytes now) f e.fault
  left (Spent id (Ok r)) e = kept e.answer.mine_is
  left (Spent id (Err f)) e = same_mine (read_fault p q f e.fault)
  left (GetTxOut outpoint (Ok r)) e = kept e.answer.mine_is
  left (GetTxOut outpoint (Err f)) e = same_mine (read_fault p q f e.fault)
  left (GetBestBlockHash (Ok r)) e = kept e.answer.mine_is
  left (GetBestBlockHash (Err f)) e = same_mine (closed_fault p q f e.fault)
  left (CoinsFrom above most (Ok r)) e = kept e.answer.mine_is
  left (CoinsFrom above most (Err f)) e = same_mine (read_fault p q f e.fault)
  left (GetChainTips (Ok r)) e = kept e.answer.mine_is
  left (GetChainTips (Err f)) e = same_mine (read_fault p q f e.fault)
  left (Journal first last (Ok r)) e = kept e.answer.mine_is
  left (Journal first last (Err f)) e = same_mine (read_fault p q f e.fault)
  left (Note x) e = same_mine e.0
  left (Told x) e = kept e.1

all_left : (p z : Pass) (cs : List Call) → Makes p cs z → z.mine ≡ p.mine ++ steps_of p.number cs
all_left p z [] e = same_mine p z e
all_left p z (c ∷ cs) e =
    let q = e.0 in
    let rest : z.mine ≡ q.mine ++ steps_of p.number cs = all_left q z cs e.2 ∙ ap (λ n. q.mine ++ steps_of n cs) (moves p q c e.1).number in
    rest ∙ ap (λ (l : List Entry). l ++ steps_of p.number cs) (left p q c e.1) ∙ append_assoc p.mine (step_of p.number c) (steps_of p.number cs)

pub own_steps : (o : Origin) (h : List Entry) (seat : ℕ) (cs : List Call) (z : Pass) → Makes (opening_pass o seat) cs z → IsStanding h z → own_of seat h ≡ steps_of seat cs
own_steps o h seat cs z e s =
    let moved = all_move (opening_pass o seat) z cs e in
    ap (λ n. own_of n h) (sym moved.number) ∙ s.own ∙ all_left (opening_pass o seat) z cs e

-- at one place there is one seat's step
pub one_seat : (o : Origin) (h : List Entry) (valid : Triples) (k l at : ℕ) (c d : Command) (r s : Reply) → IsStep o h valid k c at r → IsStep o h valid l d at s → k ≡ l
one_seat o h valid k l zero c d r s a b = absurd a
one_seat o h valid k l (suc n) c d r s a b =
    let same : entry_of k c (Some r) ≡ entry_of l d (Some s) = cc (a.0, b.0) in
    ap (λ (e : Entry). e.seat) same

-- of two lists the longer is the same, whichever is named first
pub longer_turned : (xs ys zs : List Entry) → IsLonger xs ys zs → IsLonger ys xs zs
longer_turned xs ys zs l = ⊎_elim inr inl l
