use Rattle.coins.proofs.MovedCoins.{on_some, popped}
use Rattle.coins.proofs.coin_map.drop_first.Goals as goal

pub returns-clause-changed : goal.returns-clause-changed
returns-clause-changed c = λ k v h.
    let e = c.pop_first.ensures in
    popped c.args.entries.now.entries c.pop_first.new.self.entries c.pop_first.result k v e.variant.1 e.removal (on_some c.pop_first.result e.updates (λ p u q. u.0 q)) h
