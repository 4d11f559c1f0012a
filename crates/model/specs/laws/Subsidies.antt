-- What all subsidies come to.
use Rattle.std.proofs.Common.{◌≡◌, ℕ, zero, suc, ◌+◌, ◌-◌, ◌*◌, ◌/◌, ◌%◌, ◌<◌, ◌≤◌, Bool, true, false, if◌then◌else◌, nat_lt, ap, arith, suc-mul, inl, inr}
use Rattle.std.proofs.lemmas.Bool.{cases_lt}
use Rattle.block.specs.Reward.{halve, subsidy_of}
use Rattle.model.specs.Total.{subsidies}
use Rattle.model.specs.Regtest.{most_satoshis}

-- one halving more is half of it at most
halved-twice : (k x : ℕ) → halve (suc k) x + halve (suc k) x ≤ halve k x
halved-twice zero x = omega arith
halved-twice (suc k) x = halved-twice k (x / 2)

-- the subsidy of a height, if halving never ended
abbrev share : ℕ → ℕ
share height = halve (height / 150) (50 * 100000000)

share-most : (height : ℕ) → subsidy_of height ≤ share height
share-most height = at (nat_lt (height / 150) 64)
  where
    at : (b : Bool) → (if b then share height else 0) ≤ share height
    at true = omega arith
    at false = omega arith

-- so many shares of a height are above what all later heights can have: those to come before the next halving, and
-- as many as two whole spans after it
later-room : (height more : ℕ) → more + height % 150 ≡ 299 → subsidies subsidy_of height + more * share height ≤ most_satoshis
unfolding subsidies
later-room zero more h = let all = ap (λ (k : ℕ). k * share 0) h in omega arith
later-room (suc n) more h =
    elim (cases_lt (n % 150) 149) [
      | inl before ↦
          let room = later-room n (suc more) (omega arith) in
          let split : suc more * share n ≡ more * share n + share n = suc-mul more (share n) in
          let here = share-most (suc n) in
          let same_span : suc n / 150 ≡ n / 150 = omega arith in
          let same : share (suc n) ≡ share n = ap (λ (k : ℕ). halve k (50 * 100000000)) same_span in
          let others = ap (λ (x : ℕ). more * x) same in
          omega arith
      | inr at_end ↦
          let room = later-room n 150 (omega arith) in
          let here = share-most (suc n) in
          let next_span : suc n / 150 ≡ suc (n / 150) = omega arith in
          let halving : share (suc n) ≡ halve (suc (n / 150)) (50 * 100000000) = ap (λ (k : ℕ). halve k (50 * 100000000)) next_span in
          let half = halved-twice (n / 150) (50 * 100000000) in
          let whole : more ≡ 299 = omega arith in
          let others : more * share (suc n) ≡ 299 * share (suc n) = ap (λ (k : ℕ). k * share (suc n)) whole in
          omega arith
    ]

pub subsidies-end : (height : ℕ) → subsidies subsidy_of height ≤ most_satoshis
subsidies-end height =
    let small : height % 150 < 150 = omega arith in
    let room = later-room height (299 - height % 150) (omega arith) in
    omega arith
