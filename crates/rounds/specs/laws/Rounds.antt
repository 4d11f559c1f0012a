-- How many rounds there are.
use Rattle.std.proofs.Common.{◌≡◌, ◌≢◌, ℕ, ◌<◌, ◌≤◌, List, [], ◌∷◌, None, length, sym, ◌∙◌, subst, arith}
use Rattle.std.specs.Prelude.{All}
use Rattle.std.proofs.lemmas.List.Elements.{All-head, All-tail}
use Rattle.signatures.specs.Known.{Known}
use Rattle.signatures.specs.Triple.{Triple}
use Rattle.signatures.specs.laws.Growth.{Grows}
use Rattle.interp.specs.Answer.{Wants}
use Rattle.interp.specs.Question.{Question}
use Rattle.interp.specs.computed.Step.{verdict}
use Rattle.rounds.specs.Rounds.{AreRounds, WantsOne, max_rounds}
use Rattle.rounds.specs.laws.Inquiry.{asks_left, within-left, fewer-left, one-found, one-left}
use Rattle.rounds.specs.laws.Scripts.{verdict-within}

-- where each round lowers a number, none begins at 0 and none above a bound, there are no more rounds than that
module _ (Want : Known → List Triple → Type 0) (measure : Known → ℕ) (some : (known : Known) (wanted : List Triple) → Want known wanted → 0 < measure known)
    (lowers : (known next : Known) (wanted : List Triple) → Want known wanted → Grows known next → All (λ t. next t ≢ None) wanted → measure next < measure known) where
  rounds-below : (known : Known) (later : List Known) → AreRounds Want (known ∷ later) → length (known ∷ later) ≤ measure known
  rounds-below known [] h = let one = some known h.0.0 h.0.1 in omega (arith, one)
  rounds-below known (next ∷ later) h =
      let rounds = rounds-below next later h.1 in
      let lower = lowers known next h.0.0 h.0.1 h.0.2.0 h.0.2.1 in
      omega (arith, rounds, lower)

pub rounds-within : (Want : Known → List Triple → Type 0) (measure : Known → ℕ) (most : ℕ) → ((known : Known) (wanted : List Triple) → Want known wanted → 0 < measure known)
    → ((known next : Known) (wanted : List Triple) → Want known wanted → Grows known next → All (λ t. next t ≢ None) wanted → measure next < measure known)
    → ((known : Known) → measure known ≤ most) → (rounds : List Known) → AreRounds Want rounds → length rounds ≤ most
rounds-within Want measure most some lowers within [] h = omega arith
rounds-within Want measure most some lowers within (known ∷ later) h =
    let rounds = rounds-below Want measure some lowers known later h in
    let bound = within known in
    omega (arith, rounds, bound)

-- what is wanted so is wanted in another way, by what holds of each round
pub rounds-weaker : (P : Known → Type 0) (Want Other : Known → List Triple → Type 0) → ((known : Known) (wanted : List Triple) → P known → Want known wanted → Other known wanted)
    → (rounds : List Known) → All P rounds → AreRounds Want rounds → AreRounds Other rounds
rounds-weaker P Want Other weaker [] all h = tt
rounds-weaker P Want Other weaker (known ∷ later) all h =
    ((h.0.0, weaker known h.0.0 (All-head P known later all) h.0.1, h.0.2), rounds-weaker P Want Other weaker later (All-tail P known later all) h.1)

-- ---- what an input may still ask
abbrev pub questions_left : Known → Question → ℕ
questions_left known q = asks_left known (verdict-within q).0

pub left-within : (known : Known) (q : Question) → questions_left known q ≤ 402
left-within known q = within-left (λ answer. 0) known 402 (verdict-within q).0 (verdict-within q).1

pub left-some : (known : Known) (q : Question) (t : Triple) → verdict known q ≡ Wants t → 0 < questions_left known q
left-some known q t e = one-left known (verdict-within q).0 t (sym ((verdict-within q).2 known) ∙ e)

pub left-fewer : (known next : Known) → Grows known next → (q : Question) → questions_left next q ≤ questions_left known q
left-fewer known next grows q = fewer-left known next grows (verdict-within q).0

pub left-found : (known next : Known) → Grows known next → (q : Question) (t : Triple) → verdict known q ≡ Wants t → next t ≢ None → questions_left next q < questions_left known q
left-found known next grows q t e found = one-found known next grows (verdict-within q).0 t (sym ((verdict-within q).2 known) ∙ e) found

pub few-rounds : (q : Question) (rounds : List Known) → AreRounds (WantsOne q) rounds → length rounds ≤ max_rounds
few-rounds q rounds h = rounds-within (WantsOne q) (λ known. questions_left known q) 402 some lowers (λ known. left-within known q) rounds h
  where
    some : (known : Known) (wanted : List Triple) → WantsOne q known wanted → 0 < questions_left known q
    some known wanted h = left-some known q h.0 h.1

    lowers : (known next : Known) (wanted : List Triple) → WantsOne q known wanted → Grows known next → All (λ t. next t ≢ None) wanted → questions_left next q < questions_left known q
    lowers known next wanted h grows found =
        left-found known next grows q h.0 h.1 (All-head (λ t. next t ≢ None) h.0 [] (subst (All (λ t. next t ≢ None)) h.2 found))
