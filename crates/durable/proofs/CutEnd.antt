-- What is left of a file while its end is cut off.
use Rattle.std.proofs.Common.{◌≡◌, ℕ, Bool, true, false, List, [], ◌∷◌, ◌++◌, length, take, drop, refl, sym, ◌∙◌, ap, subst, arith}
use Rattle.std.proofs.lemmas.List.{append-nil}
use mathlib.Core.List.{IsPrefix}
use Rattle.durable.specs.declared.host.Asked.TheVariants.{Cut, Sync}
use Rattle.durable.specs.Crash.{Event, File, Synced, Shortened, Leaves, cut, sync, file_after}
use Rattle.durable.specs.Lines.{lines, AreWhole}
use Rattle.durable.specs.KeptSteps.{Told, told, AreUpTo, Keeps, KeepsNow, KeepsBetween}
use Rattle.durable.proofs.Whole.{lines_cut, lines_rest}
use Rattle.durable.specs.Log.{opened, on_disk, file_of, IsUncut}
use Rattle.durable.proofs.Sound.{call}
use Rattle.durable.proofs.FileCalls.{file_next, told_same, started, goes_on}

module _ (bytes : List ℕ) (n : ℕ) (w : AreWhole false (take n bytes)) (none : lines (drop n bytes) ≡ []) where
  keeps_same : (history : List (List ℕ)) (left : List ℕ) (stamps : List Told) → lines left ≡ lines bytes → Keeps history bytes stamps → Keeps history left stamps
  keeps_same history left stamps is k = record {
    beginning = subst (λ (l : List (List ℕ)). IsPrefix l history) (sym is) k.beginning;
    has = subst (λ (l : List (List ℕ)). AreUpTo (length l) stamps) (sym is) k.has;
  }

  keeps_cut : (history : List (List ℕ)) (stamps : List Told) (done : Bool) (left : List ℕ) → Keeps history bytes stamps → Leaves (Shortened bytes n done) left → Keeps history left stamps
  keeps_cut history stamps done left k l = keeps_same history left stamps (ap lines l.2 ∙ lines_cut n l.0 bytes w none l.1) k

  keeps_synced_cut : (history : List (List ℕ)) (stamps : List Told) (was ok : Bool) (left : List ℕ) → Keeps history bytes stamps → Leaves (sync (Shortened bytes n was) ok) left → Keeps history left stamps
  keeps_synced_cut history stamps true true left k l = keeps_same history left stamps (ap lines l ∙ lines_cut n n bytes w none (omega arith)) k
  keeps_synced_cut history stamps true false left k l = keeps_cut history stamps false left k l
  keeps_synced_cut history stamps false true left k l = keeps_cut history stamps false left k l
  keeps_synced_cut history stamps false false left k l = keeps_cut history stamps false left k l

  module _ (old mid : List Event) (done : Bool) (opened : file_after old ≡ Synced bytes) (first : mid ≡ old ++ call (Cut n) done [] ∷ []) where
    cut_file : file_after mid ≡ Shortened bytes n done
    cut_file = ap file_after first ∙ file_next old (call (Cut n) done []) ∙ ap (λ (x : File). cut x n done) opened

    pub cut_told : told mid ≡ told old
    cut_told = ap told first ∙ told_same old (call (Cut n) done []) refl

    keeps_opened : (history : List (List ℕ)) → KeepsNow history old → Keeps history bytes (told old)
    keeps_opened history now = now bytes (subst (λ (x : File). Leaves x bytes) (sym opened) refl)

    pub cut_between : (history : List (List ℕ)) → KeepsNow history old → KeepsBetween history old mid
    cut_between history now = goes_on history old old mid (call (Cut n) done []) (started history old now) first
        (λ left l. subst (Keeps history left) (sym cut_told) (keeps_cut history (told old) done left (keeps_opened history now) (subst (λ (x : File). Leaves x left) cut_file l)))

    module _ (new : List Event) (ok : Bool) (second : new ≡ mid ++ call Sync ok [] ∷ []) where
      pub sync_file : file_after new ≡ sync (Shortened bytes n done) ok
      sync_file = ap file_after second ∙ file_next mid (call Sync ok []) ∙ ap (λ (x : File). sync x ok) cut_file

      pub sync_told : told new ≡ told old
      sync_told = ap told second ∙ told_same mid (call Sync ok []) refl ∙ cut_told

      pub synced_between : (history : List (List ℕ)) → KeepsNow history old → KeepsBetween history old new
      synced_between history now = goes_on history old mid new (call Sync ok []) (cut_between history now) second
          (λ left l. subst (Keeps history left) (sym sync_told) (keeps_synced_cut history (told old) done ok left (keeps_opened history now) (subst (λ (x : File). Leaves x left) sync_file l)))

-- a file that has only been opened
pub opened_now : (bytes : List ℕ) → KeepsNow (lines bytes) (opened bytes)
opened_now bytes left is = record {
  beginning = ([], append-nil (lines left) ∙ ap lines is);
  has = (omega (arith, ap (λ (l : List ℕ). length (lines l)) is), tt);
}

-- a host that has only opened its file
module _ {H : Type 0} (calls : H → List Event) (host : H) (count end len : ℕ) (u : IsUncut calls host count end len) where
  pub uncut_now : KeepsNow (lines (file_of calls host)) (calls host)
  uncut_now = subst (KeepsNow (lines (file_of calls host))) (sym u.only_opened) (opened_now (file_of calls host))

  pub cut_lines : (new : H) → file_after (calls new) ≡ Synced (take end (file_of calls host)) → lines (file_of calls new) ≡ lines (file_of calls host)
  cut_lines new is = ap (λ (x : File). lines (on_disk x)) is ∙ lines_rest end (file_of calls host) u.whole u.rest
