use Rattle.std.proofs.Common.{◌≡◌, ℕ, List, [], ◌∷◌, ◌++◌, ap, refl, ◌∙◌}
use Rattle.coins.specs.declared.coin.Coin.{Coin}
use Rattle.undo.specs.declared.coin_head.CoinHead.{CoinHead}
use Rattle.undo.specs.inside.PackedCoins.{coin_at, head_of, packed_coins}
use Rattle.undo.proofs.PackedList.{own-head, packed-push}
use Rattle.undo.proofs.packed_coins.PackedCoins.push.Goals as goal

pub returns : goal.returns
returns c =
    let heads = c.self.inside.heads.items in
    let bytes = c.self.inside.scripts.items in
    let coin = c.args.coin.now in
    let head = head_of coin in
    let more : ◌≡◌ {A = List CoinHead} c.push_reserved.new.self.items (heads ++ head ∷ []) =
    c.push_reserved.ensures.items ∙ ap (λ (l : List CoinHead). l ++ c.of-head.result ∷ []) c.in_ok-reserve.ensures.items ∙ ap (λ (h : CoinHead). heads ++ h ∷ []) c.of-head.ensures in
    let longer : ◌≡◌ {A = List ℕ} c.extend_from_slice.new.self.items (bytes ++ coin.script) = c.in_ok-extend_from_slice.ensures.items ∙ ap (λ (l : List ℕ). bytes ++ l) c.as_slice.ensures in
    ap (λ (l : List CoinHead). packed_coins l c.extend_from_slice.new.self.items) more
    ∙ ap (packed_coins (heads ++ head ∷ [])) longer
    ∙ packed-push heads bytes head coin.script c.self.invariant refl
    ∙ ap (λ (l : List Coin). l ++ coin_at head coin.script ∷ []) c.self.view_is
    ∙ ap (λ (k : Coin). c.args.self.now ++ k ∷ []) (own-head coin)
