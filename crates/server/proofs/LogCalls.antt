-- What is kept over several calls of a log.
use Rattle.std.proofs.Common.{◌≡◌, ℕ, List, [], ◌∷◌, ◌++◌, refl, sym, ◌∙◌, ap, subst, append_assoc}
use Rattle.std.proofs.lemmas.List.{append-nil}
use mathlib.Core.List.{IsPrefix}
use Rattle.durable.specs.declared.log.Log.{Log}
use Rattle.durable.specs.Crash.{Event}
use Rattle.durable.specs.KeptSteps.{KeepsBetween}
use Rattle.durable.specs.Log.{history, IsSound, KeepsThrough}
use Rattle.durable.proofs.FileCalls.{joined, keeps_longer}
use Rattle.durable.proofs.Sound.{at_start}
use Rattle.server.specs.inside.Delivery.{GoesOn, KeepsToTheEnd}

further : (first mid last : List (List ℕ)) → IsPrefix first mid → IsPrefix mid last → IsPrefix first last
further first mid last p q = (p.0 ++ q.0, sym (append_assoc first p.0 q.0) ∙ ap (λ (l : List (List ℕ)). l ++ q.0) p.1 ∙ q.1)

same_prefix : (first last : List (List ℕ)) → last ≡ first → IsPrefix first last
same_prefix first last is = ([], append-nil first ∙ sym is)

module _ {H F : Type 0} (calls : H → List Event) where
  pub goes_far : (log mid now : Log H F) → GoesOn calls log mid → GoesOn calls mid now → GoesOn calls log now
  goes_far log mid now one two = (
    further (history calls log) (history calls mid) (history calls now) one.0 two.0,
    joined (history calls now) (calls log.host) (calls mid.host) (calls now.host)
        (keeps_longer (history calls mid) (history calls now) two.0 (calls log.host) (calls mid.host) one.1) two.1,
  )

  pub ends_far : (log mid : Log H F) (host : H) → GoesOn calls log mid → KeepsToTheEnd calls mid host → KeepsToTheEnd calls log host
  ends_far log mid host one two = (
    two.0,
    further (history calls log) (history calls mid) two.0 one.0 two.1,
    joined two.0 (calls log.host) (calls mid.host) (calls host)
        (keeps_longer (history calls mid) two.0 two.1 (calls log.host) (calls mid.host) one.1) two.2,
  )

  -- nothing was done
  pub stays : (log : Log H F) → IsSound calls log → GoesOn calls log log
  stays log s = (same_prefix (history calls log) (history calls log) refl, at_start calls log s)

  pub ends : (log : Log H F) (host : H) → IsSound calls log → host ≡ log.host → KeepsToTheEnd calls log host
  ends log host s is = (
    history calls log,
    same_prefix (history calls log) (history calls log) refl,
    subst (λ (h : H). KeepsBetween (history calls log) (calls log.host) (calls h)) (sym is) (at_start calls log s),
  )

  -- a line more waits
  pub goes_line : (log now : Log H F) (line : List ℕ) → IsSound calls now → now.host ≡ log.host → history calls now ≡ history calls log ++ line ∷ [] → GoesOn calls log now
  goes_line log now line s is more = (
    (line ∷ [], sym more),
    subst (λ (h : H). KeepsBetween (history calls now) (calls h) (calls now.host)) is (at_start calls now s),
  )

  -- a round
  pub goes_round : (log now : Log H F) → history calls now ≡ history calls log → KeepsThrough calls log now → GoesOn calls log now
  goes_round log now same keeps = (
    same_prefix (history calls log) (history calls now) same,
    subst (λ (l : List (List ℕ)). KeepsBetween l (calls log.host) (calls now.host)) (sym same) keeps,
  )

  pub ends_round : (log : Log H F) (host : H) → KeepsBetween (history calls log) (calls log.host) (calls host) → KeepsToTheEnd calls log host
  ends_round log host keeps = (history calls log, same_prefix (history calls log) (history calls log) refl, keeps)
