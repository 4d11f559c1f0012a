-- Genesis alone.
use Rattle.std.proofs.Common.{[], sym, arith}
use Rattle.std.specs.FinMap as coin_map
use Rattle.signatures.specs.Triple.{Triples}
use Rattle.rules.specs.declared.params.Params.{Params}
use Rattle.tree.specs.State.{opening}
use Rattle.model.specs.Regtest.{ledger, regtest}
use Rattle.activate.specs.CoreState.{IsChainstate, opened_core}
use Rattle.model.specs.laws.Actives.{active_kept}
use Rattle.model.specs.laws.Coins.{coins-genesis}
use Rattle.model.specs.laws.Steps.{opening_sound}

pub opens : (params : Params) (triples : Triples) → IsChainstate (record { core = opened_core params; coins = coin_map.empty }) triples
opens params triples =
    let r = regtest params triples in
    let sound = opening_sound r in
    let low = active_kept r opening sound.genesis in
    record {
      follows = record { sound = sound; kept = tt; active_is = omega arith };
      coins_are = sym (coins-genesis r ledger []);
    }
