-- The rules of a transaction in its turn, one after the other.
use Rattle.std.proofs.Common.{◌≡◌, Bool, true, false, cond, nat_lt, [], ◌∷◌, Some, None, refl, ap, ◌∙◌}
use Rattle.txn.specs.declared.reason.Reason.{Reason}
use Rattle.txn.specs.declared.reason.Reason.TheVariants.{TooManySigops, NonFinal, OverwritesCoin, InputsMissingOrSpent, PrematureCoinbaseSpend, InputsBelowOutputs}
use Rattle.txn.specs.First.{Rules, first_broken}
use Rattle.rules.specs.Alone.{max_block_sigops}
use Rattle.connect.specs.BlockContext.{Setting}
use Rattle.connect.specs.Turns.{Turn, plain_count, full_count}
use Rattle.connect.specs.Faults.{overwrites, is_missing, spends_immature, pays_too_much, is_locked, turn_rules}

pub skip : (b : Bool) (r : Reason) (rs : Rules) → b ≡ false → first_broken ((b, r) ∷ rs) ≡ first_broken rs
skip b r rs e = ap (λ x. cond x (Some r) (first_broken rs)) e

pub stop : (b : Bool) (r : Reason) (rs : Rules) → b ≡ true → first_broken ((b, r) ∷ rs) ≡ Some r
stop b r rs e = ap (λ x. cond x (Some r) (first_broken rs)) e

-- a first rule that isn't broken
pub head_clear : (b : Bool) (r : Reason) (rs : Rules) → first_broken ((b, r) ∷ rs) ≡ None → b ≡ false
head_clear false r rs h = refl
head_clear true r rs h = cc

pub tail_clear : (b : Bool) (r : Reason) (rs : Rules) → first_broken ((b, r) ∷ rs) ≡ None → first_broken rs ≡ None
tail_clear false r rs h = h
tail_clear true r rs h = cc

module _ (s : Setting) (t : Turn) where
  abbrev plain : Bool
  plain = nat_lt max_block_sigops (plain_count t)

  abbrev full : Bool
  full = nat_lt max_block_sigops (full_count t)

  abbrev clashes : Bool
  clashes = overwrites t.coins t.tx

  abbrev last : Rules
  last = (clashes, OverwritesCoin) ∷ []

  abbrev from_full : Rules
  from_full = (full, TooManySigops) ∷ last

  abbrev from_locked : Rules
  from_locked = (is_locked s t, NonFinal) ∷ from_full

  abbrev from_amount : Rules
  from_amount = (pays_too_much t, InputsBelowOutputs) ∷ from_locked

  abbrev from_early : Rules
  from_early = (spends_immature s t, PrematureCoinbaseSpend) ∷ from_amount

  abbrev from_missing : Rules
  from_missing = (is_missing t, InputsMissingOrSpent) ∷ from_early

  -- which rules aren't broken, up to a place
  pub record UpToCoins : Type 0 where
    pub plain : nat_lt max_block_sigops (plain_count t) ≡ false
    pub there : is_missing t ≡ false

  pub record UpToAge : Type 0 where
    pub coins : UpToCoins
    pub aged : spends_immature s t ≡ false

  pub record UpToAmount : Type 0 where
    pub age : UpToAge
    pub enough : pays_too_much t ≡ false

  pub record UpToLocks : Type 0 where
    pub amount : UpToAmount
    pub unlocked : is_locked s t ≡ false

  pub record UpToCount : Type 0 where
    pub locks : UpToLocks
    pub few : nat_lt max_block_sigops (full_count t) ≡ false

  pub record IsClear : Type 0 where
    pub count : UpToCount
    pub new : overwrites t.coins t.tx ≡ false

  pub at_plain : nat_lt max_block_sigops (plain_count t) ≡ true → first_broken (turn_rules s t) ≡ Some TooManySigops
  unfolding turn_rules
  at_plain e = stop plain TooManySigops from_missing e

  pub at_missing : nat_lt max_block_sigops (plain_count t) ≡ false → is_missing t ≡ true → first_broken (turn_rules s t) ≡ Some InputsMissingOrSpent
  unfolding turn_rules
  at_missing h e = skip plain TooManySigops from_missing h ∙ stop (is_missing t) InputsMissingOrSpent from_early e

  past_coins : UpToCoins → first_broken (turn_rules s t) ≡ first_broken from_early
  unfolding turn_rules
  past_coins h = skip plain TooManySigops from_missing h.plain ∙ skip (is_missing t) InputsMissingOrSpent from_early h.there

  pub at_early : UpToCoins → spends_immature s t ≡ true → first_broken (turn_rules s t) ≡ Some PrematureCoinbaseSpend
  at_early h e = past_coins h ∙ stop (spends_immature s t) PrematureCoinbaseSpend from_amount e

  past_age : UpToAge → first_broken (turn_rules s t) ≡ first_broken from_amount
  past_age h = past_coins h.coins ∙ skip (spends_immature s t) PrematureCoinbaseSpend from_amount h.aged

  pub at_amount : UpToAge → pays_too_much t ≡ true → first_broken (turn_rules s t) ≡ Some InputsBelowOutputs
  at_amount h e = past_age h ∙ stop (pays_too_much t) InputsBelowOutputs from_locked e

  past_amount : UpToAmount → first_broken (turn_rules s t) ≡ first_broken from_locked
  past_amount h = past_age h.age ∙ skip (pays_too_much t) InputsBelowOutputs from_locked h.enough

  pub at_locked : UpToAmount → is_locked s t ≡ true → first_broken (turn_rules s t) ≡ Some NonFinal
  at_locked h e = past_amount h ∙ stop (is_locked s t) NonFinal from_full e

  past_locks : UpToLocks → first_broken (turn_rules s t) ≡ first_broken from_full
  past_locks h = past_amount h.amount ∙ skip (is_locked s t) NonFinal from_full h.unlocked

  pub at_full : UpToLocks → nat_lt max_block_sigops (full_count t) ≡ true → first_broken (turn_rules s t) ≡ Some TooManySigops
  at_full h e = past_locks h ∙ stop full TooManySigops last e

  past_count : UpToCount → first_broken (turn_rules s t) ≡ first_broken last
  past_count h = past_locks h.locks ∙ skip full TooManySigops last h.few

  pub at_clash : UpToCount → overwrites t.coins t.tx ≡ true → first_broken (turn_rules s t) ≡ Some OverwritesCoin
  at_clash h e = past_count h ∙ stop clashes OverwritesCoin [] e

  pub none_broken : IsClear → first_broken (turn_rules s t) ≡ None
  none_broken h = past_count h.count ∙ skip clashes OverwritesCoin [] h.new

  pub cleared : first_broken (turn_rules s t) ≡ None → IsClear
  unfolding turn_rules
  cleared h =
      let h1 = tail_clear plain TooManySigops from_missing h in
      let h2 = tail_clear (is_missing t) InputsMissingOrSpent from_early h1 in
      let h3 = tail_clear (spends_immature s t) PrematureCoinbaseSpend from_amount h2 in
      let h4 = tail_clear (pays_too_much t) InputsBelowOutputs from_locked h3 in
      let h5 = tail_clear (is_locked s t) NonFinal from_full h4 in
      let h6 = tail_clear full TooManySigops last h5 in
      let coins : UpToCoins = record { plain = head_clear plain TooManySigops from_missing h; there = head_clear (is_missing t) InputsMissingOrSpent from_early h1 } in
      let age : UpToAge = record { coins = coins; aged = head_clear (spends_immature s t) PrematureCoinbaseSpend from_amount h2 } in
      let amount : UpToAmount = record { age = age; enough = head_clear (pays_too_much t) InputsBelowOutputs from_locked h3 } in
      let locks : UpToLocks = record { amount = amount; unlocked = head_clear (is_locked s t) NonFinal from_full h4 } in
      let count : UpToCount = record { locks = locks; few = head_clear full TooManySigops last h5 } in
      record { count = count; new = head_clear clashes OverwritesCoin [] h6 }
