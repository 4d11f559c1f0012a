-- What is known of signatures only grows along a history, and some set agrees with it.
use Rattle.std.proofs.Common.{◌≡◌, ◌↔◌, Bool, true, List, [], ◌∷◌, ◌++◌, Option, Some, None, refl, ap, subst}
use mathlib.Core.List.{IsPrefix}
use Rattle.signatures.specs.Triple.{Triples}
use Rattle.signatures.specs.Known.{Agrees, Under, Verdicts, all_known, verdict_in}
use Rattle.signatures.specs.laws.Growth.{learning-agrees, table-alone}
use Rattle.signatures.specs.laws.Agreement.{found_agrees, table_agrees}
use Rattle.model.specs.declared.command.Command.{Command}
use Rattle.model.specs.declared.command.Command.TheVariants.{Submit, Invalidate, Reconsider, Precious, Learn}
use Rattle.model.specs.declared.entry.Entry.{Entry}
use Rattle.model.specs.Learnt.{none_found, found_by, found_from, found_in, known_by, known_after, IsNews, AreNewsFrom, AreNews}

pub found_from-append : (found : Verdicts) (xs ys : List Entry) → found_from found (xs ++ ys) ≡ found_from (found_from found xs) ys
found_from-append found [] ys = refl
found_from-append found (x ∷ xs) ys = found_from-append (found_by found x.command) xs ys

pub found_in-push : (es : List Entry) (e : Entry) → found_in (es ++ e ∷ []) ≡ found_by (found_in es) e.command
found_in-push es e = found_from-append none_found es (e ∷ [])

pub are_news-push : (table : Option Triples) (found : Verdicts) (es : List Entry) (e : Entry) → AreNewsFrom table found es → IsNews (known_by table (found_from found es)) e.command
    → AreNewsFrom table found (es ++ e ∷ [])
are_news-push table found [] e h new = (new, tt)
are_news-push table found (x ∷ xs) e h new = (h.0, are_news-push table (found_by found x.command) xs e h.1 new)

pub are_news-front : (table : Option Triples) (found : Verdicts) (xs ys : List Entry) → AreNewsFrom table found (xs ++ ys) → AreNewsFrom table found xs
are_news-front table found [] ys h = tt
are_news-front table found (x ∷ xs) ys h = (h.0, are_news-front table (found_by found x.command) xs ys h.1)

pub are_news-rest : (table : Option Triples) (found : Verdicts) (xs ys : List Entry) → AreNewsFrom table found (xs ++ ys) → AreNewsFrom table (found_from found xs) ys
are_news-rest table found [] ys h = h
are_news-rest table found (x ∷ xs) ys h = are_news-rest table (found_by found x.command) xs ys h.1

-- a set that agrees behind a command agreed before it
before_one : (table : Option Triples) (found : Verdicts) (c : Command) (triples : Triples) → IsNews (known_by table found) c → Agrees (known_by table (found_by found c)) triples → Agrees (known_by table found) triples
before_one None found (Submit bytes now) triples new h = h
before_one None found (Invalidate id) triples new h = h
before_one None found (Reconsider id) triples new h = h
before_one None found (Precious id) triples new h = h
before_one None found (Learn triple valid) triples new h = ((learning-agrees found triple valid new triples).0 h).0
before_one (Some table) found c triples new h = h

pub agreed_before : (table : Option Triples) (found : Verdicts) (es : List Entry) (triples : Triples) → AreNewsFrom table found es → Agrees (known_by table (found_from found es)) triples → Agrees (known_by table found) triples
agreed_before table found [] triples new h = h
agreed_before table found (e ∷ es) triples new h = before_one table found e.command triples new.0 (agreed_before table (found_by found e.command) es triples new.1 h)

-- what agrees with a history agreed with each beginning of it
pub agreed_with_front : (table : Option Triples) (xs ys : List Entry) (triples : Triples) → AreNews table (xs ++ ys) → Agrees (known_after table (xs ++ ys)) triples → Agrees (known_after table xs) triples
agreed_with_front table xs ys triples new h =
    agreed_before table (found_in xs) ys triples (are_news-rest table none_found xs ys new)
    (subst (λ (found : Verdicts). Agrees (known_by table found) triples) (found_from-append none_found xs ys) h)

-- some set agrees with whatever is known
pub one_agrees : (table : Option Triples) (found : Verdicts) → (triples : Triples) × Agrees (known_by table found) triples
one_agrees None found = (found.valid, found_agrees found)
one_agrees (Some table) found = (table, table_agrees table)

-- where all of a table is known, its set alone agrees
pub table_only : (table : Triples) (found : Verdicts) (triples : Triples) → Agrees (known_by (Some table) found) triples ↔ triples ≡ table
table_only table found triples = table-alone table triples
