-- A chainstate with what is known of signatures.
use Rattle.std.specs.Prelude.{◌≡◌, ℕ, ◌⊎◌, Bool, List, [], Option, None, Some, if◌then◌else◌}
use Rattle.std.specs.FinSet as set
use Rattle.std.specs.FinMap as coin_map
use Rattle.hash.specs.declared.id.Id.{Id}
use Rattle.block.specs.declared.block.Block.{Block}
use Rattle.signatures.specs.Known.{Known, Verdicts, verdict_in, with_verdict}
use Rattle.signatures.specs.Triple.{Triple, Triples}
use Rattle.rules.specs.declared.params.Params.{Params}
use Rattle.tree.specs.State.{State}
use Rattle.model.specs.Rules.{Rules}
use Rattle.model.specs.Regtest.{regtest}
use Rattle.model.specs.declared.command.Command.{Command}
use Rattle.activate.specs.CoreState.{WithCoins, opened_core}
use Rattle.activate.specs.Wants.{AreWantedByStep}

pub record SessionState : Type 0 where
  pub chain : WithCoins
  -- the signatures that are known to be valid, and others that are known not to be
  pub triples : Triples
  pub invalid : Triples
  -- whether nothing is known of all others; else they aren't valid
  pub by_need : Bool
  -- those that have to be verified before the step that was asked for last can be taken
  pub wanted : List Triple

-- ---- what it judges by
abbrev pub found_of : SessionState → Verdicts
found_of s = record { valid = s.triples; invalid = s.invalid }

-- what is known of signatures
abbrev pub known_of : SessionState → Known
known_of s = if s.by_need then verdict_in (found_of s) else (λ t. Some (set.contains s.triples t))

-- the rules under some valid signatures
abbrev pub rules_under : SessionState → Triples → Rules Block Id
rules_under s triples = regtest s.chain.core.params triples

-- and under those that are known to be valid, by which the session is read: it is the same under each set that agrees
abbrev pub rules_of : SessionState → Rules Block Id
rules_of s = rules_under s s.triples

-- its blocks and their marks
abbrev pub tree_of : SessionState → State Block
tree_of s = s.chain.core.state

-- genesis alone, under these heights of soft forks and these valid signatures; or signatures are found out by need
abbrev pub new_session : Params → Triples → Bool → SessionState
new_session params triples by_need = record {
  chain = record { core = opened_core params; coins = coin_map.empty };
  triples = triples;
  invalid = set.empty;
  by_need = by_need;
  wanted = [];
}

-- a session that judges as another one does
pub record KeepsRules (before after : SessionState) : Type 0 where
  pub params : after.chain.core.params ≡ before.chain.core.params
  pub known : known_of after ≡ known_of before
  pub triples : after.triples ≡ before.triples

-- ---- a step that isn't taken
-- signatures have to be verified first: all that scripts of a block that this step tries ask for. All else stays
pub record IsWanting (before after : SessionState) (command : Command) : Type 0 where
  pub wanted : List Triple
  pub after_is : after ≡ record before { wanted = wanted }
  pub asked : AreWantedByStep before.chain.core command (known_of before) wanted

-- or there was no memory
abbrev pub IsNoStep : SessionState → SessionState → Command → ℕ → Type 0
IsNoStep before after command code = ((code ≡ 31) × IsWanting before after command) ⊎ ((code ≡ 1) × (after ≡ before))

-- ---- a verdict more
abbrev pub learnt : SessionState → Triple → Bool → SessionState
learnt s t valid = record s { triples = (with_verdict (found_of s) t valid).valid; invalid = (with_verdict (found_of s) t valid).invalid }

-- Where none was known it is learnt, or there was no memory. One that is known stays: it is answered whether it is the same.
abbrev pub IsLearntBy : SessionState → SessionState → Triple → Bool → Option Bool → ℕ → Type 0
IsLearntBy before after t valid None code = ((code ≡ 0) × (after ≡ learnt before t valid)) ⊎ ((code ≡ 1) × (after ≡ before))
IsLearntBy before after t valid (Some known) code = ((code ≡ 0) × (known ≡ valid) × (after ≡ before)) ⊎ ((code ≡ 30) × (known ≡ valid → ⊥) × (after ≡ before))
