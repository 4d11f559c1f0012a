-- What a sound log is after each call.
use Rattle.std.proofs.Common.{◌≡◌, ℕ, ◌+◌, ◌≤◌, ◌<◌, Bool, true, false, if◌then◌else◌, List, [], ◌∷◌, ◌++◌, length, take, get_or, refl, sym, ◌∙◌, ap, subst, arith, append_assoc, length-append}
use Rattle.std.proofs.lemmas.List.{append-nil, map-append, take_more}
use Rattle.durable.specs.declared.host.Asked.{Asked}
use Rattle.durable.specs.declared.host.Asked.TheVariants.{Append, Sync, Tell}
use Rattle.durable.specs.declared.log.Log.{Log}
use Rattle.durable.specs.declared.log.Answer.{Answer}
use Rattle.durable.specs.Crash.{Event, File, Synced, Appended, Leaves, append, sync, file_after}
use Rattle.durable.specs.Lines.{lines, AreWhole, IsLine}
use Rattle.durable.specs.KeptSteps.{Told, told, AreUpTo, Keeps, KeepsNow, KeepsBetween}
use Rattle.durable.specs.Log.{on_disk, history, IsSound, as_told}
use Rattle.durable.proofs.Whole.{lines-append, lines_push, whole-append, whole_push}
use Rattle.durable.proofs.Torn.{keeps_torn, keeps_synced, up_to_more}
use Rattle.durable.proofs.FileCalls.{file_next, told_same, told-append, up_to_push, started, goes_on}

abbrev pub call : Asked → Bool → List ℕ → Event
call asked done bytes = (record { asked = asked; is_done = done }, bytes)

-- a sync behind what was appended
after_sync : (f p : List ℕ) (stamps : List Told) (was ok : Bool) (left : List ℕ) → AreWhole false f → AreUpTo (length (lines f)) stamps → Leaves (sync (Appended f p was) ok) left
    → Keeps (lines f ++ lines p) left stamps
after_sync f p stamps true true left w up is =
    let whole : lines (f ++ p) ≡ lines f ++ lines p = lines-append f p w in
    keeps_synced (lines f ++ lines p) [] (f ++ p) stamps left (sym whole ∙ sym (append-nil (lines (f ++ p))))
    (up_to_more (length (lines f)) (length (lines (f ++ p))) stamps (omega (arith, ap length whole, length-append (lines f) (lines p))) up) is
after_sync f p stamps true false left w up is = keeps_torn f p stamps false left w up is
after_sync f p stamps false true left w up is = keeps_torn f p stamps false left w up is
after_sync f p stamps false false left w up is = keeps_torn f p stamps false left w up is

module _ {H F : Type 0} (calls : H → List Event) (log : Log H F) (s : IsSound calls log) where
  abbrev f : List ℕ
  f = on_disk (file_after (calls log.host))

  up : AreUpTo (length (lines f)) (told (calls log.host))
  up = subst (λ (n : ℕ). AreUpTo n (told (calls log.host))) s.durable_is s.no_more

  sound_now : KeepsNow (history calls log) (calls log.host)
  sound_now left is = keeps_synced (history calls log) (lines log.pending.items) f (told (calls log.host)) left refl up (subst (λ (x : File). Leaves x left) s.synced is)

  pub at_start : KeepsBetween (history calls log) (calls log.host) (calls log.host)
  at_start = started (history calls log) (calls log.host) sound_now

  appended : (now : List Event) (done : Bool) → now ≡ calls log.host ++ call Append done log.pending.items ∷ [] → file_after now ≡ Appended f log.pending.items done
  appended now done is =
      ap file_after is ∙ file_next (calls log.host) (call Append done log.pending.items) ∙ ap (λ (x : File). append x log.pending.items done) s.synced

  pub appended_told : (now : List Event) (done : Bool) → now ≡ calls log.host ++ call Append done log.pending.items ∷ [] → told now ≡ told (calls log.host)
  appended_told now done is = ap told is ∙ told_same (calls log.host) (call Append done log.pending.items) refl

  pub append_between : (now : List Event) (done : Bool) → now ≡ calls log.host ++ call Append done log.pending.items ∷ [] → KeepsBetween (history calls log) (calls log.host) now
  append_between now done is = goes_on (history calls log) (calls log.host) (calls log.host) now (call Append done log.pending.items) at_start is
      (λ left l. keeps_torn f log.pending.items (told now) done left s.whole (subst (AreUpTo (length (lines f))) (sym (appended_told now done is)) up)
      (subst (λ (x : File). Leaves x left) (appended now done is) l))

  module _ (mid now : List Event) (done ok : Bool) (first : mid ≡ calls log.host ++ call Append done log.pending.items ∷ []) (second : now ≡ mid ++ call Sync ok [] ∷ []) where
    pub synced_file : file_after now ≡ sync (Appended f log.pending.items done) ok
    synced_file = ap file_after second ∙ file_next mid (call Sync ok []) ∙ ap (λ (x : File). sync x ok) (appended mid done first)

    pub synced_told : told now ≡ told (calls log.host)
    synced_told = ap told second ∙ told_same mid (call Sync ok []) refl ∙ appended_told mid done first

    pub sync_between : KeepsBetween (history calls log) (calls log.host) now
    sync_between = goes_on (history calls log) (calls log.host) mid now (call Sync ok []) (append_between mid done first) second
        (λ left l. after_sync f log.pending.items (told now) done ok left s.whole (subst (AreUpTo (length (lines f))) (sym synced_told) up)
        (subst (λ (x : File). Leaves x left) synced_file l))

  -- all that waited is on the disk
  module _ (new : Log H F) (mid : List Event) (first : mid ≡ calls log.host ++ call Append true log.pending.items ∷ []) (second : calls new.host ≡ mid ++ call Sync true [] ∷ [])
      (durable : new.durable ≡ log.count) (count : new.count ≡ log.count) (none : new.pending.items ≡ []) where
    whole_file : file_after (calls new.host) ≡ Synced (f ++ log.pending.items)
    whole_file = synced_file mid (calls new.host) true true first second

    disk : on_disk (file_after (calls new.host)) ≡ f ++ log.pending.items
    disk = ap on_disk whole_file

    all_lines : lines (on_disk (file_after (calls new.host))) ≡ lines f ++ lines log.pending.items
    all_lines = ap lines disk ∙ lines-append f log.pending.items s.whole

    nothing : lines new.pending.items ≡ []
    nothing = ap lines none

    pub committed_same : history calls new ≡ history calls log
    committed_same = ap (λ (l : List (List ℕ)). l ++ lines new.pending.items) all_lines ∙ ap (λ (l : List (List ℕ)). (lines f ++ lines log.pending.items) ++ l) nothing
        ∙ append-nil (lines f ++ lines log.pending.items)

    counted : log.count ≡ length (lines (on_disk (file_after (calls new.host))))
    counted = omega (arith, s.count_is, s.durable_is, ap length all_lines, length-append (lines f) (lines log.pending.items))

    pub committed_all : new.durable ≡ length (history calls log)
    committed_all = durable ∙ (omega (arith, s.count_is, s.durable_is) ∙ sym (length-append (lines f) (lines log.pending.items)))

    pub committed : IsSound calls new
    committed = record {
      synced = whole_file ∙ ap Synced (sym disk);
      whole = subst (AreWhole false) (sym disk) (whole-append false f log.pending.items s.whole s.waits);
      waits = subst (AreWhole false) (sym none) refl;
      durable_is = durable ∙ counted;
      count_is = omega (arith, count, durable, ap length nothing);
      no_more = subst (λ (l : List Told). AreUpTo new.durable l) (sym (synced_told mid (calls new.host) true true first second))
          (up_to_more log.durable new.durable (told (calls log.host)) (omega (arith, durable, s.count_is)) s.no_more);
    }

  -- an answer that may have gone
  module _ (new : Log H F) (stamp : ℕ) (line : List ℕ) (done : Bool) (is : calls new.host ≡ calls log.host ++ call (Tell stamp) done line ∷ [])
      (durable : new.durable ≡ log.durable) (count : new.count ≡ log.count) (pending : new.pending ≡ log.pending) (le : stamp ≤ log.durable) where
    same_file : file_after (calls new.host) ≡ file_after (calls log.host)
    same_file = ap file_after is ∙ file_next (calls log.host) (call (Tell stamp) done line)

    pub told_one : told (calls new.host) ≡ told (calls log.host) ++ (stamp, line) ∷ []
    told_one = ap told is ∙ told-append (calls log.host) (call (Tell stamp) done line ∷ [])

    up_now : AreUpTo log.durable (told (calls new.host))
    up_now = subst (AreUpTo log.durable) (sym told_one) (up_to_push log.durable (stamp, line) (told (calls log.host)) s.no_more le)

    pub told_same_history : history calls new ≡ history calls log
    told_same_history = ap (λ (x : File). lines (on_disk x) ++ lines new.pending.items) same_file ∙ ap (λ (v : _). lines f ++ lines v.items) pending

    pub told_sound : IsSound calls new
    told_sound = record {
      synced = same_file ∙ s.synced ∙ ap (λ (x : File). Synced (on_disk x)) (sym same_file);
      whole = subst (λ (x : File). AreWhole false (on_disk x)) (sym same_file) s.whole;
      waits = subst (λ (v : _). AreWhole false v.items) (sym pending) s.waits;
      durable_is = durable ∙ s.durable_is ∙ ap (λ (x : File). length (lines (on_disk x))) (sym same_file);
      count_is = omega (arith, count, durable, s.count_is, ap (λ (v : _). length (lines v.items)) pending);
      no_more = subst (λ (n : ℕ). AreUpTo n (told (calls new.host))) (sym durable) up_now;
    }

    pub tell_between : KeepsBetween (history calls log) (calls log.host) (calls new.host)
    tell_between = goes_on (history calls log) (calls log.host) (calls log.host) (calls new.host) (call (Tell stamp) done line) at_start is
        (λ left l. keeps_synced (history calls log) (lines log.pending.items) f (told (calls new.host)) left refl
        (subst (λ (n : ℕ). AreUpTo n (told (calls new.host))) s.durable_is up_now)
        (subst (λ (x : File). Leaves x left) (same_file ∙ s.synced) l))

  -- a line more waits
  module _ (new : Log H F) (line : List ℕ) (is_line : IsLine line) (host : new.host ≡ log.host) (durable : new.durable ≡ log.durable) (count : new.count ≡ log.count + 1)
      (pending : new.pending.items ≡ log.pending.items ++ (line ++ 10 ∷ [])) where
    one_more : lines new.pending.items ≡ lines log.pending.items ++ line ∷ []
    one_more = ap lines pending ∙ lines_push log.pending.items line s.waits is_line

    pub pushed_history : history calls new ≡ history calls log ++ line ∷ []
    pushed_history = ap (λ (h : H). lines (on_disk (file_after (calls h))) ++ lines new.pending.items) host ∙ ap (λ (l : List (List ℕ)). lines f ++ l) one_more
        ∙ sym (append_assoc (lines f) (lines log.pending.items) (line ∷ []))

    pub pushed : IsSound calls new
    pushed = record {
      synced = ap (λ (h : H). file_after (calls h)) host ∙ s.synced ∙ ap (λ (h : H). Synced (on_disk (file_after (calls h)))) (sym host);
      whole = subst (λ (h : H). AreWhole false (on_disk (file_after (calls h)))) (sym host) s.whole;
      waits = subst (AreWhole false) (sym pending) (whole_push log.pending.items line s.waits is_line);
      durable_is = durable ∙ s.durable_is ∙ ap (λ (h : H). length (lines (on_disk (file_after (calls h))))) (sym host);
      count_is = omega (arith, count, durable, s.count_is, ap length one_more, length-append (lines log.pending.items) (line ∷ []));
      no_more = subst (λ (n : ℕ). AreUpTo n (told (calls new.host))) (sym durable) (subst (λ (h : H). AreUpTo log.durable (told (calls h))) (sym host) s.no_more);
    }

-- one answer more has gone
pub one_went : (before mid now : List Told) (answers : List Answer) (n : ℕ) (answer : Answer) (went : Bool) → n < length answers → answer ≡ get_or answers n answer → went ≡ true
    → mid ≡ before ++ as_told (take n answers) → now ≡ mid ++ (if went then (answer.stamp, answer.line.items) ∷ [] else []) → now ≡ before ++ as_told (take (n + 1) answers)
one_went before mid now answers n answer went lt is was so_far next =
    let more : take (n + 1) answers ≡ take n answers ++ answer ∷ [] = take_more answers n answer lt ∙ ap (λ (a : Answer). take n answers ++ a ∷ []) (sym is) in
    let one : Told = (answer.stamp, answer.line.items) in
    next ∙ ap (λ (b : Bool). mid ++ (if b then one ∷ [] else [])) was ∙ ap (λ (l : List Told). l ++ one ∷ []) so_far
    ∙ append_assoc before (as_told (take n answers)) (one ∷ [])
    ∙ ap (λ (l : List Told). before ++ l) (sym (map-append (λ (a : Answer). (a.stamp, a.line.items)) (take n answers) (answer ∷ [])) ∙ ap as_told (sym more))
