-- The scripts of a block that can be run before the lock is taken.
use Rattle.std.specs.Prelude.{◌≡◌, ◌⊎◌, ◌+◌, List, [], Option, None, Some}
use Rattle.txn.specs.Tx.{Tx}
use Rattle.signatures.specs.Known.{Under}
use Rattle.signatures.specs.Triple.{Triples}
use Rattle.tree.specs.Branches.{height}
use Rattle.queue.specs.Jobs.{Batch}
use Rattle.rules.specs.declared.params.Params.{Params}
use Rattle.rules.specs.Params.{at}
use Rattle.connect.specs.Scripts.{flags_of}
use Rattle.connect.specs.Early.{early_spendings}
use Rattle.model.specs.declared.submission.SubmittedBlock.{SubmittedBlock}
use Rattle.model.specs.Regtest.{regtest}
use Rattle.model.specs.Settle.{active, best}
use Rattle.view.specs.Origin.{known_in}
use Rattle.view.specs.ViewState.{ViewState, state_after}

-- the block stands on the best block of a view, where these signatures are valid
abbrev pub StandsOnBest : Triples → ViewState → SubmittedBlock → Type 0
StandsOnBest valid v b = b.block.header.prev ≡ best (regtest v.origin.params valid) (state_after v.origin valid v.journal)

-- of each input whose coin the view has, or an earlier transaction of the block makes, its script, under the rules of the
-- height above the view's
abbrev pub scripts_over : Triples → ViewState → Params → SubmittedBlock → Batch
scripts_over valid v params b =
    let s = state_after v.origin valid v.journal in
    record {
      txs = b.block.txs;
      flags = flags_of (at params (height s.blocks (active (regtest v.origin.params valid) s) + 1));
      spendings = early_spendings v.coins b.block.txs;
    }

-- these, where the block stands on the best one and there are any
abbrev pub AreEarlyWith : Triples → ViewState → Params → SubmittedBlock → Option Batch → Type 0
AreEarlyWith valid v params b (Some jobs) = StandsOnBest valid v b × (jobs ≡ scripts_over valid v params b)
AreEarlyWith valid v params b None = (StandsOnBest valid v b → ⊥) ⊎ (early_spendings v.coins b.block.txs ≡ [])

abbrev pub AreEarly : ViewState → Params → SubmittedBlock → Option Batch → Type 0
AreEarly v params b jobs = Under (known_in v.origin v.journal) (λ valid. AreEarlyWith valid v params b jobs)
