-- With a table one set agrees, and no history tells a verdict.
use Rattle.std.proofs.Common.{◌≡◌, ◌≤◌, ◌↔◌, ℕ, Bool, true, false, cond, List, [], ◌∷◌, length, Some, refl, ap, sym, ◌∙◌, subst, arith}
use Rattle.logbook.specs.Pages.{Book}
use Rattle.signatures.specs.Triple.{Triples}
use Rattle.signatures.specs.Known.{Verdicts}
use Rattle.signatures.specs.laws.Agreement.{table_agrees}
use Rattle.rules.specs.declared.params.Params.{Params}
use Rattle.model.specs.declared.command.Command.{Command}
use Rattle.model.specs.declared.command.Command.TheVariants.{Submit, Invalidate, Reconsider, Precious, Learn}
use Rattle.model.specs.declared.entry.Entry.{Entry}
use Rattle.model.specs.Chainstate.{chainstate}
use Rattle.model.specs.History.{Legal}
use Rattle.model.specs.Learnt.{AreNewsFrom, IsNews, found_by, found_in, known_by, none_found}
use Rattle.model.specs.laws.Learnt.{table_only}
use Rattle.view.specs.Origin.{origin}
use Rattle.view.specs.ViewState.{IsLegal}
use Rattle.histories.specs.Histories.{is_verdict, without_verdicts}

module _ (table : Triples) where
  no_verdict : (found : Verdicts) (c : Command) → IsNews (known_by (Some table) found) c → is_verdict c ≡ false
  no_verdict found (Submit bytes now) h = refl
  no_verdict found (Invalidate id) h = refl
  no_verdict found (Reconsider id) h = refl
  no_verdict found (Precious id) h = refl
  no_verdict found (Learn t valid) h = absurd (cc h)

  news : (found : Verdicts) (c : Command) → is_verdict c ≡ false → IsNews (known_by (Some table) found) c
  news found (Submit bytes now) h = tt
  news found (Invalidate id) h = tt
  news found (Reconsider id) h = tt
  news found (Precious id) h = tt
  news found (Learn t valid) h = absurd (cc h)

  none_told : (found : Verdicts) (es : List Entry) → AreNewsFrom (Some table) found es → without_verdicts es ≡ es
  none_told found [] h = refl
  none_told found (e ∷ es) h =
      ap (λ (b : Bool). cond b (without_verdicts es) (e ∷ without_verdicts es)) (no_verdict found e.command h.0)
      ∙ ap (λ (l : List Entry). e ∷ l) (none_told (found_by found e.command) es h.1)

  shorter : (es : List Entry) → length (without_verdicts es) ≤ length es
  shorter [] = omega arith
  shorter (e ∷ es) = at (is_verdict e.command) (shorter es)
    where
      at : (b : Bool) → length (without_verdicts es) ≤ length es → length (cond b (without_verdicts es) (e ∷ without_verdicts es)) ≤ length (e ∷ es)
      at true h = omega (arith, h)
      at false h = omega (arith, h)

  all_news : (found : Verdicts) (es : List Entry) → without_verdicts es ≡ es → AreNewsFrom (Some table) found es
  all_news found [] h = tt
  all_news found (e ∷ es) h = at (all_news (found_by found e.command) es) (is_verdict e.command) refl h
    where
      at : (without_verdicts es ≡ es → AreNewsFrom (Some table) (found_by found e.command) es) → (b : Bool) → is_verdict e.command ≡ b
          → cond b (without_verdicts es) (e ∷ without_verdicts es) ≡ e ∷ es
          → IsNews (known_by (Some table) found) e.command × AreNewsFrom (Some table) (found_by found e.command) es
      at rest true q same = let n = ap length same in absurd (omega (arith, shorter es, n))
      at rest false q same = (news found e.command q, rest (cc same))

  pub legal_with_table : (book : Book) (params : Params) (seats : ℕ) (es : List Entry)
      → IsLegal (origin book params table seats) es ↔ (without_verdicts es ≡ es) × Legal (chainstate params table) seats es
  legal_with_table book params seats es = (
    λ h. (none_told none_found es h.news, h.legal table (table_agrees table)),
    λ h. record {
      news = all_news none_found es h.0;
      legal = λ valid agrees.
          subst (λ (v : Triples). Legal (chainstate params v) seats es) (sym ((table_only table (found_in es) valid).0 agrees)) h.1;
    },
  )
