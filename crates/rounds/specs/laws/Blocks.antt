-- A block takes no more rounds than one of its scripts.
use Rattle.std.specs.Prelude.{All}
use Rattle.std.proofs.Common.{◌≡◌, ◌≢◌, ℕ, ◌-◌, ◌<◌, ◌≤◌, max, List, [], ◌∷◌, Bool, true, false, None, length, refl, subst, arith}
use Rattle.std.proofs.Math.Nat.{le-max_left, le-max_right, max-le}
use Rattle.std.proofs.lemmas.List.Elements.{All-head, All-tail}
use Rattle.txn.specs.Tx.{Tx}
use Rattle.signatures.specs.Known.{Known}
use Rattle.signatures.specs.Triple.{Triple}
use Rattle.signatures.specs.laws.Growth.{Grows}
use Rattle.interp.specs.Answer.{Answer, Says, Wants}
use Rattle.rounds.specs.Rounds.{AreRounds, max_rounds}
use Rattle.interp.specs.computed.Step.{verdict}
use Rattle.interp.specs.laws.KnownVerdicts.{verdict-kept}
use Rattle.rounds.specs.laws.Rounds.{questions_left, left-within, left-some, left-fewer, left-found, rounds-within}
use Rattle.coins.specs.Coins.{Coins}
use Rattle.connect.specs.BlockContext.{Setting}
use Rattle.connect.specs.Scripts.{Check, script_checks, want_first, wants_of, AreWantedByBlock}

-- the most that one of these scripts before the first that is refused may still ask
abbrev left_first : Answer Bool → ℕ → ℕ → ℕ
left_first (Says true) own others = others
left_first (Says false) own others = 0
left_first (Wants t) own others = max own others

abbrev pub block_left : Known → List Check → ℕ
block_left known [] = 0
block_left known (check ∷ checks) = left_first (verdict known check.1) (questions_left known check.1) (block_left known checks)

first-within : (a : Answer Bool) (own others n : ℕ) → own ≤ n → others ≤ n → left_first a own others ≤ n
first-within (Says true) own others n h k = k
first-within (Says false) own others n h k = omega arith
first-within (Wants t) own others n h k = max-le h k

pub block-within : (known : Known) (checks : List Check) → block_left known checks ≤ 402
block-within known [] = omega arith
block-within known (check ∷ checks) =
    first-within (verdict known check.1) (questions_left known check.1) (block_left known checks) 402 (left-within known check.1) (block-within known checks)

-- where something is wanted, something is left to be asked
pub block-some : (known : Known) (checks : List Check) → 0 < length (wants_of known checks) → 0 < block_left known checks
block-some known [] some = absurd (omega (arith, some))
block-some known (check ∷ checks) some = by (verdict known check.1) refl (block-some known checks) some
  where
    by : (a : Answer Bool) → verdict known check.1 ≡ a → (0 < length (wants_of known checks) → 0 < block_left known checks) → 0 < length (want_first a (wants_of known checks))
        → 0 < left_first a (questions_left known check.1) (block_left known checks)
    by (Says true) is others some = others some
    by (Says false) is others some = absurd (omega (arith, some))
    by (Wants t) is others some =
        let own = left-some known check.1 t is in
        let m = le-max_left (questions_left known check.1) (block_left known checks) in
        omega (arith, own, m)

module _ (known next : Known) (grows : Grows known next) where
  said-within : (answer : Bool) (own others more : ℕ) → others ≤ more → left_first (Says answer) own others ≤ left_first (Says answer) own more
  said-within true own others more h = h
  said-within false own others more h = omega arith

  pub block-fewer : (checks : List Check) → block_left next checks ≤ block_left known checks
  block-fewer [] = omega arith
  block-fewer (check ∷ checks) = by (verdict known check.1) refl (block-fewer checks)
    where
      by : (a : Answer Bool) → verdict known check.1 ≡ a → block_left next checks ≤ block_left known checks
          → block_left next (check ∷ checks) ≤ left_first a (questions_left known check.1) (block_left known checks)
      by (Says true) is fewer = rw (verdict-kept known next grows check.1 true is) fewer
      by (Says false) is fewer = rw (verdict-kept known next grows check.1 false is) (omega arith)
      by (Wants t) is fewer =
          let own = questions_left known check.1 in
          let others = block_left known checks in
          let own_fewer = left-fewer known next grows check.1 in
          let l = le-max_left own others in
          let r = le-max_right own others in
          first-within (verdict next check.1) (questions_left next check.1) (block_left next checks) (max own others) (omega (arith, own_fewer, l)) (omega (arith, fewer, r))

  -- where all that was wanted is known there is one less
  one-less : (checks : List Check) → All (λ t. next t ≢ None) (wants_of known checks) → block_left next checks ≤ block_left known checks - 1
  one-less [] found = omega arith
  one-less (check ∷ checks) found = by (verdict known check.1) refl (one-less checks) found
    where
      by : (a : Answer Bool) → verdict known check.1 ≡ a → (All (λ t. next t ≢ None) (wants_of known checks) → block_left next checks ≤ block_left known checks - 1)
          → All (λ t. next t ≢ None) (want_first a (wants_of known checks)) → block_left next (check ∷ checks) ≤ left_first a (questions_left known check.1) (block_left known checks) - 1
      by (Says true) is less found = rw (verdict-kept known next grows check.1 true is) (less found)
      by (Says false) is less found = rw (verdict-kept known next grows check.1 false is) (omega arith)
      by (Wants t) is less found =
          let own = questions_left known check.1 in
          let others = block_left known checks in
          let own_less = left-found known next grows check.1 t is (All-head (λ u. next u ≢ None) t (wants_of known checks) found) in
          let others_less = less (All-tail (λ u. next u ≢ None) t (wants_of known checks) found) in
          let l = le-max_left own others in
          let r = le-max_right own others in
          first-within (verdict next check.1) (questions_left next check.1) (block_left next checks) (max own others - 1) (omega (arith, own_less, l)) (omega (arith, others_less, r))

  pub block-found : (checks : List Check) → 0 < length (wants_of known checks) → All (λ t. next t ≢ None) (wants_of known checks) → block_left next checks < block_left known checks
  block-found checks some found =
      let left = block-some known checks some in
      let less = one-less checks found in
      omega (arith, left, less)

pub block-rounds : (s : Setting) (m : Coins) (txs : List Tx) (rounds : List Known) → AreRounds (AreWantedByBlock s m txs) rounds → length rounds ≤ max_rounds
block-rounds s m txs rounds h = rounds-within (AreWantedByBlock s m txs) (λ known. block_left known (script_checks s m txs)) 402 some lowers (λ known. block-within known (script_checks s m txs)) rounds h
  where
    some : (known : Known) (list : List Triple) → AreWantedByBlock s m txs known list → 0 < block_left known (script_checks s m txs)
    some known list wanted = block-some known (script_checks s m txs) (subst (λ (l : List Triple). 0 < length l) wanted.scripts.1 wanted.scripts.0)

    lowers : (known next : Known) (list : List Triple) → AreWantedByBlock s m txs known list → Grows known next → All (λ t. next t ≢ None) list
        → block_left next (script_checks s m txs) < block_left known (script_checks s m txs)
    lowers known next list wanted grows found =
        block-found known next grows (script_checks s m txs) (subst (λ (l : List Triple). 0 < length l) wanted.scripts.1 wanted.scripts.0) (subst (All (λ t. next t ≢ None)) wanted.scripts.1 found)
