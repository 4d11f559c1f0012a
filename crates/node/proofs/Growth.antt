-- What is known only grows along a history, and so do the verdicts that a seat keeps.
use Rattle.std.proofs.Common.{◌≡◌, Bool, true, false, List, [], ◌∷◌, Option, Some, None, refl, ap, sym, ◌∙◌, subst}
use mathlib.Core.List.{IsPrefix}
use Rattle.std.specs.Ordering.{eq_by_cmp}
use Rattle.signatures.specs.Known.{Verdicts, all_known, verdict_in, with_verdict}
use Rattle.signatures.specs.Triple.{Triple, Triples, triple_cmp}
use Rattle.signatures.specs.laws.Growth.{Grows, learning-grows, learnt-at, one-same}
use Rattle.queue.specs.Jobs.{Answered, IsEarly}
use Rattle.model.specs.declared.command.Command.{Command}
use Rattle.model.specs.declared.command.Command.TheVariants.{Submit, Invalidate, Reconsider, Precious, Learn}
use Rattle.model.specs.declared.entry.Entry.{Entry}
use Rattle.model.specs.Learnt.{AreNewsFrom, IsNews, found_by, found_from, found_in, known_by, none_found}
use Rattle.model.specs.laws.Learnt.{are_news-rest, found_from-append}
use Rattle.view.specs.HistoryPrefix.{Beginning}
use Rattle.view.specs.Origin.{Origin, known_in}
use Rattle.view.specs.ViewState.{IsLegal}
use Rattle.node.specs.inside.Learnt.{IsLearnt}

-- behind a command what was known is known
grows_one : (table : Option Triples) (found : Verdicts) (c : Command) → IsNews (known_by table found) c → Grows (known_by table found) (known_by table (found_by found c))
grows_one (Some table) found c new t valid is = is
grows_one None found (Submit bytes now) new t valid is = is
grows_one None found (Invalidate id) new t valid is = is
grows_one None found (Reconsider id) new t valid is = is
grows_one None found (Precious id) new t valid is = is
grows_one None found (Learn triple verdict) new t valid is = learning-grows found triple verdict new t valid is

grows_from : (table : Option Triples) (found : Verdicts) (es : List Entry) → AreNewsFrom table found es → Grows (known_by table found) (known_by table (found_from found es))
grows_from table found [] news t valid is = is
grows_from table found (e ∷ es) news t valid is = grows_from table (found_by found e.command) es news.1 t valid (grows_one table found e.command news.0 t valid is)

-- and along a history that goes on
pub grows_along : (o : Origin) (xs ys : List Entry) → IsLegal o ys → IsPrefix xs ys → Grows (known_in o xs) (known_in o ys)
grows_along o xs ys legal goes t valid is =
    let news = subst (λ (l : List Entry). AreNewsFrom o.table none_found l) (sym goes.1) legal.news in
    let rest = are_news-rest o.table none_found xs goes.0 news in
    ap (λ (l : List Entry). known_in o l t) (sym goes.1)
    ∙ ap (λ found. known_by o.table found t) (found_from-append none_found xs goes.0)
    ∙ grows_from o.table (found_in xs) goes.0 rest t valid is

-- of a table all is known from the first
pub listed_early : (o : Origin) (t : Triples) (es : List Entry) → o.table ≡ Some t → Grows (all_known t) (known_in o es)
listed_early o t es is q valid known = ap (λ table. known_by table (found_in es) q) is ∙ known

-- verdicts that were got early are early in a history that goes on
pub early_along : (o : Origin) (xs ys : List Entry) (answered : Answered) → IsLegal o ys → IsPrefix xs ys → IsEarly (known_in o xs) answered → IsEarly (known_in o ys) answered
early_along o xs ys answered legal goes early t valid is = grows_along o xs ys legal goes t valid (early t valid is)

same_some : (a b : Bool) → Some a ≡ Some b → a ≡ b
same_some a b e = cc

-- one verdict more, which the longer history has
pub learnt_more : (o : Origin) (seen history : Beginning) (found : Verdicts) (t : Triple) (valid : Bool) → IsLearnt o seen found → history.book ≡ o.book → IsLegal o history.entries → IsPrefix seen.entries history.entries
    → known_in o history.entries t ≡ Some valid → verdict_in found t ≡ None → IsLearnt o history (with_verdict found t valid)
learnt_more o seen history found t valid h book legal goes known none = record {
  book_is = book;
  known = λ q was is. by q was is (eq_by_cmp triple_cmp q t) refl;
}
  where
    by : (q : Triple) (was : Bool) → verdict_in (with_verdict found t valid) q ≡ Some was → (e : Bool) → eq_by_cmp triple_cmp q t ≡ e → known_in o history.entries q ≡ Some was
    by q was is true tied = ap (known_in o history.entries) (one-same q t tied) ∙ known ∙ sym (learnt-at found t valid none q true tied) ∙ is
    by q was is false other = grows_along o seen.entries history.entries legal goes q was (h.known q was (sym (learnt-at found t valid none q false other) ∙ is))
