-- A view that shows what a new core tells is exact.
use Rattle.std.proofs.Common.{◌≡◌, ℕ, ◌<◌, [], ap, sym, ◌∙◌, subst, map, arith}
use Rattle.std.specs.FinSet as set
use Rattle.signatures.specs.Triple.{Triples}
use Rattle.tree.specs.Branches.{height}
use Rattle.tree.specs.Limits.{max_blocks}
use Rattle.block.specs.declared.block.Block.{Block}
use Rattle.tree.specs.State.{State, opening}
use Rattle.tree.specs.Tips.{tip_of_id}
use Rattle.tree.specs.laws.Branches.{height-genesis}
use Rattle.model.specs.Regtest.{regtest}
use Rattle.model.specs.Settle.{active, best, tips}
use Rattle.model.specs.laws.Actives.{active_kept}
use Rattle.model.specs.laws.Steps.{opening_sound}
use Rattle.activate.specs.CoreState.{CoreState, opened_core}
use Rattle.view.specs.Origin.{Origin}
use Rattle.view.specs.ViewState.{IsExact, IsInfo, opening_view}
use Rattle.view.specs.declared.chain_info.ChainInfo.{ChainInfo}
use Rattle.view.specs.laws.Exact.{opening_exact}

module _ (o : Origin) (core : CoreState) (x : ChainInfo) (is : core ≡ opened_core o.params)
    (best_is : (valid : Triples) → x.best ≡ best (regtest core.params valid) core.state)
    (height_is : (valid : Triples) → x.height ≡ height core.state.blocks (active (regtest core.params valid) core.state))
    (tips_are : (valid : Triples) → x.tips ≡ map tip_of_id (tips (regtest core.params valid) core.state)) where
  abbrev start : State Block
  start = opening {B = Block}

  at : (valid : Triples) → 0 ≡ active (regtest o.params valid) start
  at valid = let r = regtest o.params valid in
      let low = active_kept r start (opening_sound r).genesis in omega (arith, low)

  high : (valid : Triples) → x.height ≡ height start.blocks (active (regtest o.params valid) start)
  high valid = height_is valid ∙ ap (λ (c : CoreState). height c.state.blocks (active (regtest c.params valid) c.state)) is

  none : x.height ≡ 0
  none = high set.empty ∙ ap (λ (p : ℕ). height start.blocks p) (sym (at set.empty)) ∙ height-genesis start.blocks

  told : (valid : Triples) → IsInfo o valid [] x
  told valid = record {
    best_is = best_is valid ∙ ap (λ (c : CoreState). best (regtest c.params valid) c.state) is;
    height_is = high valid;
    tips_are = tips_are valid ∙ ap (λ (c : CoreState). map tip_of_id (tips (regtest c.params valid) c.state)) is;
  }

  pub exact_at_first : IsExact (opening_view o x)
  exact_at_first = opening_exact o x (λ valid agrees. told valid) (subst (λ (n : ℕ). n < max_blocks) (sym none) (omega arith))
