-- What is published, as plain data, and what a publication does to it.
use Rattle.std.specs.Prelude.{◌≡◌, ◌<◌, ◌-◌, if◌then◌else◌, List, [], ◌∷◌, ◌++◌, fold, map, take, length, Option, None, Some}
use Rattle.std.specs.Option.{option_to_list}
use Rattle.std.specs.FinMap as coin_map
use Rattle.block.specs.declared.block.Block.{Block}
use Rattle.signatures.specs.Triple.{Triples}
use Rattle.signatures.specs.Known.{Under}
use Rattle.coins.specs.Coins.{Coins}
use Rattle.coins.specs.Changes.{after_changes}
use Rattle.tree.specs.Branches.{height}
use Rattle.tree.specs.Limits.{max_blocks}
use Rattle.tree.specs.State.{State}
use Rattle.tree.specs.Tips.{tip_of_id}
use Rattle.model.specs.declared.entry.Entry.{Entry}
use Rattle.model.specs.History.{Legal, state_after_entries}
use Rattle.model.specs.Learnt.{AreNews}
use Rattle.model.specs.Regtest.{ledger, regtest}
use Rattle.model.specs.Replay.{coins}
use Rattle.model.specs.Settle.{active}
use Rattle.view.specs.Origin.{Origin, known_in, machine}
use Rattle.view.specs.declared.chain_info.ChainInfo.{ChainInfo}
use Rattle.view.specs.declared.publication.Publication.{Publication}

-- the state after a history, where these signatures are valid
abbrev pub state_after : Origin → Triples → List Entry → State Block
state_after o valid journal = let m = machine o valid in state_after_entries m m.opening journal

-- the coins after it
abbrev pub coins_after : Origin → Triples → List Entry → Coins
coins_after o valid journal = coins (regtest o.params valid) ledger (state_after o valid journal)

-- the best block, its height and the tips after it
pub record IsInfo (o : Origin) (valid : Triples) (journal : List Entry) (x : ChainInfo) : Type 0 where
  pub best_is : x.best ≡ (machine o valid).best (state_after o valid journal)
  pub height_is : x.height ≡ height (state_after o valid journal).blocks (active (regtest o.params valid) (state_after o valid journal))
  pub tips_are : x.tips ≡ map tip_of_id ((machine o valid).tips (state_after o valid journal))

-- the history that the readers' token knows, without and with its last entry; the published entries; and what
-- stands after them
pub record ViewState : Type 0 where
  pub origin : Origin
  pub before : List Entry
  pub last : Option Entry
  pub journal : List Entry
  pub coins : Coins
  pub info : ChainInfo

-- the entries may be a history where these signatures are valid
abbrev pub IsLegalWith : Origin → Triples → List Entry → Type 0
IsLegalWith o valid journal = Legal (machine o valid) o.seats journal

-- the entries may be a history: each verdict is told once, and under every set that agrees with all of them each entry may
-- come at its place
pub record IsLegal (o : Origin) (journal : List Entry) : Type 0 where
  pub news : AreNews o.table journal
  pub legal : Under (known_in o journal) (λ valid. IsLegalWith o valid journal)

-- what is published beside the entries is the state after them, where these signatures are valid
pub record IsStateWith (valid : Triples) (x : ViewState) : Type 0 where
  pub coins_are : x.coins ≡ coins_after x.origin valid x.journal
  pub info_is : IsInfo x.origin valid x.journal x.info

-- the entries are the token's, they are legal, and what is published beside them is the state after them, under every set
-- that agrees
pub record IsExact (x : ViewState) : Type 0 where
  pub whole : x.journal ≡ x.before ++ option_to_list x.last
  pub legal : IsLegal x.origin x.journal
  pub state_is : Under (known_in x.origin x.journal) (λ valid. IsStateWith valid x)
  pub height_fits : x.info.height < max_blocks

-- before any entry there are no coins
abbrev pub opening_view : Origin → ChainInfo → ViewState
opening_view o info = record {
  origin = o;
  before = [];
  last = None;
  journal = [];
  coins = coin_map.empty;
  info = info;
}

-- all entries but the last
abbrev pub but_last : List Entry → List Entry
but_last es = take (length es - 1) es

-- one entry more, with its changes laid over the coins; or another last entry
abbrev pub after_publication : ViewState → Publication → ViewState
after_publication x p = record {
  origin = record x.origin { book = p.before.book };
  before = p.before.entries;
  last = Some p.entry;
  journal = (if p.is_new then x.journal else but_last x.journal) ++ p.entry ∷ [];
  coins = if p.is_new then after_changes x.coins p.changes else x.coins;
  info = p.info;
}

-- the same for one after the other
abbrev pub after_publications : ViewState → List Publication → ViewState
after_publications = fold after_publication
