-- What a publication brings of the entry that is owed, beside its changes.
use Rattle.std.specs.Prelude.{◌≡◌, List, [], ◌∷◌, ◌++◌, map, Option}
use Rattle.signatures.specs.Triple.{Triples}
use Rattle.tree.specs.Branches.{height}
use Rattle.tree.specs.Tips.{tip_of_id}
use Rattle.model.specs.declared.reply.Reply.{Reply}
use Rattle.model.specs.declared.entry.Entry.{Entry}
use Rattle.model.specs.Regtest.{regtest}
use Rattle.model.specs.Settle.{active, best, tips}
use Rattle.activate.specs.CoreState.{CoreState, Follows}
use Rattle.view.specs.declared.chain_info.ChainInfo.{ChainInfo}
use Rattle.node.specs.inside.PublishedState.{entry_with_reply}

-- what stands after a core, under these valid signatures
pub record IsInfoOfCore (triples : Triples) (c : CoreState) (info : ChainInfo) : Type 0 where
  pub best_is : info.best ≡ best (regtest c.params triples) c.state
  pub height_is : info.height ≡ height c.state.blocks (active (regtest c.params triples) c.state)
  pub tips_are : info.tips ≡ map tip_of_id (tips (regtest c.params triples) c.state)

-- the last entry of a journal, with this reply, and what stands after its core
pub record IsBrought (c : CoreState) (journal : List Entry) (reply : Option Reply) (entry : Entry) (info : ChainInfo) : Type 0 where
  pub entry_is : (before : List Entry) (e : Entry) → journal ≡ before ++ e ∷ [] → entry ≡ entry_with_reply e reply
  pub info_is : (triples : Triples) → Follows c triples → IsInfoOfCore triples c info
