-- A command takes no more rounds than its blocks, one after the other.
use Rattle.std.specs.Prelude.{All, if◌then◌else◌}
use Rattle.std.proofs.Common.{◌≡◌, ◌≢◌, ℕ, zero, suc, ◌+◌, ◌*◌, ◌<◌, ◌≤◌, List, [], ◌∷◌, ◌++◌, Bool, true, false, None, Option, Some, length, refl, sym, ap, ◌∙◌, subst, ⊎_elim, arith}
use Rattle.std.proofs.lemmas.Bool.{cases_eq}
use Rattle.std.proofs.lemmas.List.Elements.{All-nil, All-cons, All-head, All-tail}
use Rattle.std.specs.List.{filter, flat_map}
use Rattle.std.specs.Option.{option_and_then, option_map}
use Rattle.hash.specs.declared.id.Id.{Id}
use Rattle.block.specs.declared.block.Block.{Block}
use Rattle.signatures.specs.Known.{Known, Agrees}
use Rattle.signatures.specs.Triple.{Triple, Triples}
use Rattle.signatures.specs.laws.Growth.{Grows}
use Rattle.rounds.specs.Rounds.{AreRounds, max_rounds}
use Rattle.rounds.specs.laws.Rounds.{rounds-within, rounds-weaker}
use Rattle.connect.specs.Scripts.{Check, script_checks}
use Rattle.rounds.specs.laws.Blocks.{block_left, block-within, block-some, block-fewer, block-found}
use Rattle.tree.specs.Branches.{block_at, down_from, parent_at, places}
use Rattle.tree.specs.Names.{names}
use Rattle.tree.specs.State.{State, with_block, with_call, with_mark, without_marks}
use Rattle.model.specs.Regtest.{setting_on}
use Rattle.model.specs.Step.{Request, Submit, Invalidate, Reconsider, Precious}
use Rattle.model.specs.declared.command.Command.{Command}
use Rattle.model.specs.declared.command.Command.TheVariants as command
use Rattle.activate.specs.CoreState.{CoreState, branch_blocks, coins_after}
use Rattle.rounds.specs.Tries.{may_be_tried, most_tries, request_of, state_to_settle, tries_in}
use Rattle.activate.specs.Wants.{AreJoined, AreWantedBy, AreWantedByStep, AreWantedByTried, AreWantedToSettle}

-- ---- the first of several lists one behind the other
all-first : (P : Triple → Type 0) (first others : List Triple) → All P (first ++ others) → All P first
all-first P [] others all = All-nil P
all-first P (t ∷ first) others all = All-cons P t first (All-head P t (first ++ others) all) (all-first P first others (All-tail P t (first ++ others) all))

first-of : (Is : List Triple → Type 0) (list : List Triple) → AreJoined Is list → (first : List Triple) × (others : List Triple) × Is first × (list ≡ first ++ others)
first-of Is list w = by w.parts w.some w.each w.list_is
  where
    by : (parts : List (List Triple)) → 0 < length parts → All Is parts → list ≡ flat_map (λ part. part) parts → (first : List Triple) × (others : List Triple) × Is first × (list ≡ first ++ others)
    by [] some each is = absurd (omega (arith, some))
    by (part ∷ parts) some each is = (part, flat_map (λ part. part) parts, All-head Is part parts each, is)

-- ---- the blocks that may be tried
module _ (c : CoreState) (triples : Triples) (s : State Block) where
  -- the scripts of the block at a place
  abbrev checks_at : ℕ → List Check
  checks_at p =
      let parent = parent_at s.blocks p in
      script_checks (setting_on c.params (branch_blocks s.blocks parent)) (coins_after s.blocks parent) (block_at names s.blocks p).txs

  -- what is left to be asked for by each block that may be tried, one after the other
  abbrev one_left : Known → ℕ → ℕ
  one_left known p = if may_be_tried c triples s p then block_left known (checks_at p) else 0

  abbrev tries_left : Known → List ℕ → ℕ
  tries_left known [] = 0
  tries_left known (p ∷ ps) = one_left known p + tries_left known ps

  tries-within : (known : Known) (ps : List ℕ) → tries_left known ps ≤ 402 * length (filter (may_be_tried c triples s) ps)
  tries-within known [] = omega arith
  tries-within known (p ∷ ps) = by (may_be_tried c triples s p) (tries-within known ps)
    where
      by : (b : Bool) → tries_left known ps ≤ 402 * length (filter (may_be_tried c triples s) ps)
          → (if b then block_left known (checks_at p) else 0) + tries_left known ps ≤ 402 * length (if b then p ∷ filter (may_be_tried c triples s) ps else filter (may_be_tried c triples s) ps)
      by true others = let one = block-within known (checks_at p) in omega (arith, one, others)
      by false others = omega (arith, others)

  module _ (known next : Known) (grows : Grows known next) where
    one-fewer : (p : ℕ) → one_left next p ≤ one_left known p
    one-fewer p = by (may_be_tried c triples s p)
      where
        by : (b : Bool) → (if b then block_left next (checks_at p) else 0) ≤ (if b then block_left known (checks_at p) else 0)
        by true = block-fewer known next grows (checks_at p)
        by false = omega arith

    tries-fewer : (ps : List ℕ) → tries_left next ps ≤ tries_left known ps
    tries-fewer [] = omega arith
    tries-fewer (p ∷ ps) = let one = one-fewer p in let others = tries-fewer ps in omega (arith, one, others)

    -- one of the blocks has what it wanted
    tries-found : (n p : ℕ) → p ≤ n → one_left next p < one_left known p → tries_left next (down_from n) < tries_left known (down_from n)
    unfolding down_from
    tries-found zero p low less = let at : p ≡ 0 = omega (arith, low) in let here : one_left next 0 < one_left known 0 = subst (λ x. one_left next x < one_left known x) at less in omega (arith, here)
    tries-found (suc n) p low less =
        let fewer = tries-fewer (down_from n) in
        let first = one-fewer (suc n) in
        ⊎_elim
        (λ (at : p ≡ suc n). let here : one_left next (suc n) < one_left known (suc n) = subst (λ x. one_left next x < one_left known x) at less in omega (arith, here, fewer))
        (λ (other : p ≡ suc n → ⊥). let there = tries-found n p (omega (arith, low, other)) less in omega (arith, there, first))
        (cases_eq p (suc n))

  tries-some : (known : Known) (n p : ℕ) → p ≤ n → 0 < one_left known p → 0 < tries_left known (down_from n)
  unfolding down_from
  tries-some known zero p low some = let at : p ≡ 0 = omega (arith, low) in let here : 0 < one_left known 0 = subst (λ x. 0 < one_left known x) at some in omega (arith, here)
  tries-some known (suc n) p low some =
      ⊎_elim
      (λ (at : p ≡ suc n). let here : 0 < one_left known (suc n) = subst (λ x. 0 < one_left known x) at some in omega (arith, here))
      (λ (other : p ≡ suc n → ⊥). let there = tries-some known n p (omega (arith, low, other)) some in omega (arith, there))
      (cases_eq p (suc n))

  -- the block that wants may be tried
  abbrev Wants : Known → List Triple → Type 0
  Wants known list = AreWantedToSettle (record c { state = s }) known list × Agrees known triples

  tried : (known : Known) (list : List Triple) (w : AreWantedByTried (record c { state = s }) known list) → Agrees known triples → may_be_tried c triples s w.place ≡ true
  tried known list w agrees = rw (w.candidate triples agrees, w.inactive) refl

  pub tries-rounds : (rounds : List Known) → AreRounds Wants rounds → length rounds ≤ max_rounds * tries_in c triples (Some s)
  tries-rounds rounds h =
      rounds-within Wants (λ known. tries_left known (places s.blocks)) (402 * length (filter (may_be_tried c triples s) (places s.blocks))) some lowers (λ known. tries-within known (places s.blocks)) rounds h
    where
      some : (known : Known) (list : List Triple) → Wants known list → 0 < tries_left known (places s.blocks)
      some known list (all, agrees) =
          let first = first-of (AreWantedByTried (record c { state = s }) known) list all in
          let w = first.2 in
          let wants = w.wanted.scripts in
          let left = block-some known (checks_at w.place) (subst (λ (l : List Triple). 0 < length l) wants.1 wants.0) in
          tries-some known (length s.blocks) w.place w.kept (rw (tried known first.0 w agrees) left)

      lowers : (known next : Known) (list : List Triple) → Wants known list → Grows known next → All (λ t. next t ≢ None) list → tries_left next (places s.blocks) < tries_left known (places s.blocks)
      lowers known next list (all, agrees) grows found =
          let first = first-of (AreWantedByTried (record c { state = s }) known) list all in
          let w = first.2 in
          let wants = w.wanted.scripts in
          let here = all-first (λ t. next t ≢ None) first.0 first.1 (subst (All (λ t. next t ≢ None)) first.3 found) in
          let less = block-found known next grows (checks_at w.place) (subst (λ (l : List Triple). 0 < length l) wants.1 wants.0) (subst (All (λ t. next t ≢ None)) wants.1 here) in
          tries-found known next grows (length s.blocks) w.place w.kept (rw (tried known first.0 w agrees) less)

-- ---- a command
-- the state in which blocks are tried is the same in each round
pub record Settles (c : CoreState) (triples : Triples) (known : Known) (list : List Triple) (to_settle : Option (State Block)) : Type 0 where
  pub state : State Block
  pub is : to_settle ≡ Some state
  pub wanted : AreWantedToSettle (record c { state = state }) known list

request-settles : (c : CoreState) (triples : Triples) (known : Known) (list : List Triple) (request : Request Block Id) → Agrees known triples → AreWantedBy c request known list
    → Settles c triples known list (state_to_settle c.state request)
request-settles c triples known list (Submit now b) agrees w =
    record { state = w.state; is = ap (option_map (with_block c.state b)) (w.to_settle.1 triples agrees).parent ∙ ap Some (sym w.to_settle.2); wanted = w.wanted }
request-settles c triples known list (Invalidate id) agrees w = record { state = w.state; is = ap (option_map (with_mark c.state)) w.to_settle.1 ∙ ap Some (sym w.to_settle.3); wanted = w.wanted }
request-settles c triples known list (Reconsider id) agrees w = record { state = w.state; is = ap (option_map (without_marks c.state)) w.to_settle.1 ∙ ap Some (sym w.to_settle.2); wanted = w.wanted }
request-settles c triples known list (Precious id) agrees w = record { state = w.state; is = ap (option_map (with_call c.state)) w.to_settle.1 ∙ ap Some (sym w.to_settle.3); wanted = w.wanted }

settles : (c : CoreState) (triples : Triples) (known : Known) (list : List Triple) (command : Command) → Agrees known triples → AreWantedByStep c command known list
    → Settles c triples known list (option_and_then (state_to_settle c.state) (request_of command))
settles c triples known list (command.Submit bytes now) agrees w =
    subst (λ o. Settles c triples known list (option_and_then (state_to_settle c.state) (option_map (Submit now) o))) (sym w.1) (request-settles c triples known list (Submit now w.0) agrees w.2)
settles c triples known list (command.Invalidate id) agrees w = request-settles c triples known list (Invalidate id) agrees w
settles c triples known list (command.Reconsider id) agrees w = request-settles c triples known list (Reconsider id) agrees w
settles c triples known list (command.Precious id) agrees w = request-settles c triples known list (Precious id) agrees w
settles c triples known list (command.Learn triple valid) agrees w = absurd w

some_one : {A : Type 0} {x y : A} → Some x ≡ Some y → x ≡ y
some_one e = cc

pub command-rounds : (c : CoreState) (command : Command) (triples : Triples) (rounds : List Known) → All (λ known. Agrees known triples) rounds → AreRounds (AreWantedByStep c command) rounds
    → length rounds ≤ max_rounds * most_tries c triples command
command-rounds c command triples [] all h = omega arith
command-rounds c command triples (known ∷ later) all h =
    let first = settles c triples known h.0.0 command (All-head (λ k. Agrees k triples) known later all) h.0.1 in
    let bound = tries-rounds c triples first.state (known ∷ later) (rounds-weaker (λ k. Agrees k triples) (AreWantedByStep c command) (Wants c triples first.state) (same first.state first.is) (known ∷ later) all h) in
    subst (λ o. length (known ∷ later) ≤ max_rounds * tries_in c triples o) (sym first.is) bound
  where
    same : (s : State Block) → option_and_then (state_to_settle c.state) (request_of command) ≡ Some s → (k : Known) (list : List Triple) → Agrees k triples → AreWantedByStep c command k list → Wants c triples s k list
    same s is k list agrees w =
        let this = settles c triples k list command agrees w in
        let one : this.state ≡ s = some_one (sym this.is ∙ is) in
        (subst (λ (x : State Block). AreWantedToSettle (record c { state = x }) k list) one this.wanted, agrees)
