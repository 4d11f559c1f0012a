-- Lists of coins that lead from one outpoint to another.
use Rattle.std.proofs.Common.{◌≡◌, inl, inr, ℕ, zero, suc, ◌≤◌, List, [], ◌∷◌, ◌++◌, Option, Some, None, length, refl, sym, subst, arith}
use Rattle.txn.specs.declared.outpoint.OutPoint.{OutPoint}
use Rattle.coins.specs.Coins.{Coins}
use Rattle.coins.specs.declared.coin.Coin.{Coin}
use Rattle.coins.specs.Next.{IsNext}
use Rattle.node.specs.Told.{AreNext}
use Rattle.node.specs.inside.CoinOrder.{Leads}

-- one more
pub one-more : (m : Coins) (above last : Option OutPoint) (es : List (OutPoint × Coin)) (e : OutPoint × Coin) → Leads m above es last → IsNext m last (Some e) → Leads m above (es ++ e ∷ []) (Some e.0)
one-more m above last [] e h next = (subst (λ (o : Option OutPoint). IsNext m o (Some e)) h next, refl)
one-more m above last (x ∷ es) e h next = (h.0, one-more m (Some x.0) last es e h.1 next)

-- as many as were asked for
pub as-many : (m : Coins) (above last : Option OutPoint) (most : ℕ) (es : List (OutPoint × Coin)) → Leads m above es last → length es ≡ most → AreNext m above most es
as-many m above last most [] h e = inl (sym e)
as-many m above last zero (x ∷ es) h e = absurd (omega (arith, e))
as-many m above last (suc most) (x ∷ es) h e = (h.0, as-many m (Some x.0) last most es h.1 (omega (arith, e)))

-- or all that there are
pub all-there : (m : Coins) (above last : Option OutPoint) (most : ℕ) (es : List (OutPoint × Coin)) → Leads m above es last → length es ≤ most → IsNext m last None → AreNext m above most es
all-there m above last most [] h few ended = inr (subst (λ (o : Option OutPoint). IsNext m o None) h ended)
all-there m above last zero (x ∷ es) h few ended = absurd (omega (arith, few))
all-there m above last (suc most) (x ∷ es) h few ended = (h.0, all-there m (Some x.0) last most es h.1 (omega (arith, few)) ended)
