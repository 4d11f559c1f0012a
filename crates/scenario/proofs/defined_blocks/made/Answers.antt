use Rattle.std.proofs.Common.{rules, ◌≡◌, ◌+◌, List, ap, subst, sym, ◌∙◌, option_map}
use Rattle.txn.specs.Tx.{Tx}
use Rattle.scenario.specs.inside.DefinedBlocks.{IsMade, IsSealed, coinbase_said, with_first, txs_of, header_to_seal}
use Rattle.scenario.proofs.defined_blocks.made.Goals as goal

pub returns : goal.returns
returns c =
    let recipe = c.args.recipe in
    let name = c.args.name.now in
    let txs : List Tx = c.put_first.new.transactions.items in
    let height : c.in_ok-height.height ≡ c.args.parent.now.height + 1 = search rules in
    let said : option_map (λ known. known.tx) c.in_ok-coinbase.coinbase ≡ coinbase_said recipe.has_coinbase recipe.coinbase name c.in_ok-height.height = c.in_ok-coinbase.ensures.tx in
    let put : txs ≡ with_first (option_map (λ known. known.tx) c.in_ok-coinbase.coinbase) recipe.transactions.items = c.in_ok-put_first.ensures in
    let coinbase : option_map (λ known. known.tx) c.in_ok-coinbase.coinbase ≡ coinbase_said recipe.has_coinbase recipe.coinbase name (c.args.parent.now.height + 1) = said ∙ ap (coinbase_said recipe.has_coinbase recipe.coinbase name) height in
    let all : txs ≡ txs_of recipe name (c.args.parent.now.height + 1) = put ∙ ap (λ first. with_first first recipe.transactions.items) coinbase in
    let unsealed_is : c.in_ok-unsealed.unsealed ≡ header_to_seal recipe.header c.args.parent.now txs = search rules in
    let sealed : IsSealed recipe.header.nonce c.in_ok-unsealed.unsealed c.in-Some.header = c.in-Some.ensures in
    record {
      whole = record { header = c.in-Some.header; txs = txs };
      txs = all;
      header = subst (λ h. IsSealed recipe.header.nonce h c.in-Some.header) unsealed_is sealed;
      named = search rules;
      id = search rules;
      height = height;
      time = search rules;
      bytes = search rules;
      coinbase = coinbase;
      coinbase_id = c.in_ok-coinbase.ensures.id;
    }
