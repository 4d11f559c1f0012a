-- What CHECKMULTISIG takes, by its places on the stack.
use Rattle.std.specs.Prelude.{if◌then◌else◌}
use Rattle.std.proofs.Common.{◌≡◌, ℕ, suc, ◌+◌, ◌≤◌, [], ◌∷◌, Bool, true, false, not, ◌||◌, ltb, eqb, Option, Some, None, length, take, drop, slice_get, refl, sym, ap, ◌∙◌, subst, ⊎_elim, length-drop, arith}
use Rattle.std.proofs.lemmas.List.{drop-drop, drop_all, get_or-drop, length-take-le}
use Rattle.std.proofs.lemmas.Bool.{cases_lt}
use Rattle.std.proofs.lemmas.Option.{get_or_from_slice_get}
use borrow.Author.Tests.{lt-ltb, le-ltb}
use Rattle.std.specs.Option.{option_map, option_map_or}
use Rattle.signatures.specs.Known.{Known}
use Rattle.interp.specs.Answer.{answer_map, on_some}
use Rattle.interp.specs.Running.{Running}
use Rattle.interp.specs.Stack.{Stack, Bytes, nth}
use Rattle.interp.specs.Elements.{truth_bytes, natural_of}
use Rattle.interp.specs.State.{State}
use Rattle.interp.specs.Rules.{Taken, multisig_of}
use Rattle.interp.specs.computed.Signatures.{may_be_dummy}
use Rattle.interp.specs.computed.Step.{after_multisig, dummy_of}
use Rattle.interp.specs.declared.flags.Flags.{Flags}
use Rattle.interp.specs.inside.Multisig.{many, keys_in, signatures_in, dummy_in, counts_of, multisig_answer, after_counts}

-- what is taken where there are so many keys and signatures
abbrev taken_at : Stack → ℕ × ℕ → Taken
taken_at s counts =
    record { keys = keys_in counts.0 s; signatures = signatures_in counts.0 counts.1 s; dummy = dummy_in counts s; below = drop (counts.0 + counts.1 + 3) s }

-- by numbers and places the same is found, with so many keys
abbrev Agree : State → Type 0
Agree s =
    (multisig_of s ≡ option_map (taken_at s.main) (counts_of s))
    × ((counts : ℕ × ℕ) → counts_of s ≡ Some counts → length (keys_in counts.0 s.main) ≡ counts.0)

neither : (s : State) → multisig_of s ≡ None → counts_of s ≡ None → Agree s
neither s a b = (rw (a, b) refl, λ counts e. let f = sym b ∙ e in cc)

module _ (s : State) (a : Bytes) (rest : Stack) (is : s.main ≡ a ∷ rest) (n : ℕ) (first : natural_of 4 a ≡ Some n) (few : n ≤ 20) where
  after-keys : drop (n + 1) (a ∷ rest) ≡ drop n rest
  after-keys = let one : n + 1 ≡ suc n = omega arith in ap (λ k. drop k (a ∷ rest)) one

  module _ (there : n ≤ length rest) (b : Bytes) (after : Stack) (cut : drop n rest ≡ b ∷ after) (m : ℕ) (second : natural_of 4 b ≡ Some m) (no_more : m ≤ n) where
    next : drop (n + 1) (a ∷ rest) ≡ b ∷ after
    next = after-keys ∙ cut

    after-many : drop (n + 2) (a ∷ rest) ≡ after
    after-many =
        let two : n + 2 ≡ suc (n + 1) = omega arith in
        ap (λ k. drop k (a ∷ rest)) two ∙ sym (drop-drop 1 n rest) ∙ ap (drop 1) cut

    all : length (a ∷ rest) ≡ n + 2 + length after
    all = omega (arith, length-drop n rest, ap length cut)

    too-short : length after ≤ m → multisig_of s ≡ None → Agree s
    unfolding counts_of many
    too-short short none =
        neither s none (rw (is, first, le-ltb 20 n few, next, second, le-ltb n m no_more, lt-ltb (length (a ∷ rest)) (n + m + 3) (omega (arith, all))) refl)

    module _ (enough : m ≤ length after) (extra : Bytes) (below : Stack) (end : drop m after ≡ extra ∷ below) where
      after-all : drop (n + m + 3) (a ∷ rest) ≡ below
      after-all =
          let three : n + m + 3 ≡ suc (n + suc (m + 1)) = omega arith in
          ap (λ k. drop k (a ∷ rest)) three ∙ sym (drop-drop (suc (m + 1)) n rest) ∙ ap (drop (suc (m + 1))) cut ∙ sym (drop-drop 1 m after) ∙ ap (drop 1) end

      the-dummy : nth (a ∷ rest) (n + m + 2) ≡ extra
      the-dummy =
          let three : n + m + 2 ≡ suc (n + suc m) = omega arith in
          let last : m ≡ m + 0 = omega arith in
          ap (nth (a ∷ rest)) three ∙ sym (get_or-drop n rest (suc m) []) ∙ ap (λ tail. nth tail (suc m)) cut
          ∙ ap (nth after) last ∙ sym (get_or-drop m after 0 []) ∙ ap (λ tail. nth tail 0) end

      abbrev found : Taken
      found = record { keys = take n rest; signatures = take m after; dummy = extra; below = below }

      taken-is : multisig_of s ≡ (if ltb 201 (s.count + n) then None else Some found)
      unfolding multisig_of
      taken-is =
          rw (is, first, le-ltb 20 n few, le-ltb (length rest) n there, cut, second, le-ltb n m no_more, le-ltb (length after) m enough, end) refl

      counts-are : counts_of s ≡ (if ltb 201 (s.count + n) then None else Some (n, m))
      unfolding counts_of many
      counts-are =
          let long : n + m + 3 ≤ length (a ∷ rest) = omega (arith, all, length-drop m after, ap length end) in
          rw (is, first, le-ltb 20 n few, next, second, le-ltb n m no_more, le-ltb (length (a ∷ rest)) (n + m + 3) long) refl

      same : (over : Bool) → (if over then None else Some found) ≡ option_map (taken_at s.main) (if over then None else Some (n, m))
      same true = refl
      same false = rw (is, after-many, the-dummy, after-all) refl

      so-many : (over : Bool) (counts : ℕ × ℕ) → (if over then None else Some (n, m)) ≡ Some counts → length (keys_in counts.0 s.main) ≡ counts.0
      so-many true counts e = cc
      so-many false counts e =
          let p : (n, m) ≡ counts = cc in
          subst (λ (k : ℕ × ℕ). length (keys_in k.0 s.main) ≡ k.0) p (ap (λ main. length (keys_in n main)) is ∙ length-take-le n rest there)

      all-there : Agree s
      all-there =
          let over = ltb 201 (s.count + n) in
          (taken-is ∙ same over ∙ ap (option_map (taken_at s.main)) (sym counts-are), λ counts e. so-many over counts (sym counts-are ∙ e))

    by-end : m ≤ length after → (tail : Stack) → drop m after ≡ tail → Agree s
    unfolding multisig_of
    by-end enough [] end =
        too-short (omega (arith, length-drop m after, ap length end))
        (rw (is, first, le-ltb 20 n few, le-ltb (length rest) n there, cut, second, le-ltb n m no_more, le-ltb (length after) m enough, end) refl)
    by-end enough (extra ∷ below) end = all-there enough extra below end

    by-signatures : Agree s
    unfolding multisig_of
    by-signatures =
        ⊎_elim (λ short.
        too-short (omega (arith, short))
        (rw (is, first, le-ltb 20 n few, le-ltb (length rest) n there, cut, second, le-ltb n m no_more, lt-ltb (length after) m short) refl))
        (λ enough. by-end enough (drop m after) refl) (cases_lt (length after) m)

  by-second : n ≤ length rest → (b : Bytes) (after : Stack) → drop n rest ≡ b ∷ after → (o : Option ℕ) → natural_of 4 b ≡ o → Agree s
  unfolding multisig_of counts_of many
  by-second there b after cut None second =
      neither s (rw (is, first, le-ltb 20 n few, le-ltb (length rest) n there, cut, second) refl) (rw (is, first, le-ltb 20 n few, after-keys, cut, second) refl)
  by-second there b after cut (Some m) second =
      ⊎_elim (λ more.
      neither s (rw (is, first, le-ltb 20 n few, le-ltb (length rest) n there, cut, second, lt-ltb n m more) refl) (rw (is, first, le-ltb 20 n few, after-keys, cut, second, lt-ltb n m more) refl))
      (λ no_more. by-signatures there b after cut m second no_more) (cases_lt n m)

  by-cut : n ≤ length rest → (tail : Stack) → drop n rest ≡ tail → Agree s
  unfolding multisig_of counts_of many
  by-cut there [] cut = neither s (rw (is, first, le-ltb 20 n few, le-ltb (length rest) n there, cut) refl) (rw (is, first, le-ltb 20 n few, after-keys, cut) refl)
  by-cut there (b ∷ after) cut = by-second there b after cut (natural_of 4 b) refl

  by-keys : Agree s
  unfolding multisig_of counts_of many
  by-keys =
      ⊎_elim (λ short.
      let none : drop n rest ≡ [] = drop_all n rest (omega (arith, short)) in
      neither s (rw (is, first, le-ltb 20 n few, lt-ltb (length rest) n short) refl) (rw (is, first, le-ltb 20 n few, after-keys, none) refl))
      (λ there. by-cut there (drop n rest) refl) (cases_lt (length rest) n)

by-first : (s : State) (a : Bytes) (rest : Stack) → s.main ≡ a ∷ rest → (o : Option ℕ) → natural_of 4 a ≡ o → Agree s
unfolding multisig_of counts_of many
by-first s a rest is None first = neither s (rw (is, first) refl) (rw (is, first) refl)
by-first s a rest is (Some n) first =
    ⊎_elim (λ over. neither s (rw (is, first, lt-ltb 20 n over) refl) (rw (is, first, lt-ltb 20 n over) refl))
    (λ few. by-keys s a rest is n first few) (cases_lt 20 n)

agree : (s : State) (main : Stack) → s.main ≡ main → Agree s
unfolding multisig_of counts_of many
agree s [] is = neither s (rw is refl) (rw is refl)
agree s (a ∷ rest) is = by-first s a rest is (natural_of 4 a) refl

pub taking : (known : Known) (r : Running) (s : State) → after_multisig known r s ≡ on_some (after_counts known r s) (counts_of s)
unfolding after_multisig
taking known r s = by (counts_of s) refl
  where
    both : Agree s
    both = agree s s.main refl

    by : (o : Option (ℕ × ℕ)) → counts_of s ≡ o → after_multisig known r s ≡ on_some (after_counts known r s) (counts_of s)
    by None e = rw (both.0, e) refl
    by (Some counts) e =
        rw (both.0, e)
        (ap (λ many. answer_map (option_map (λ valid. record s { main = truth_bytes valid ∷ drop (counts.0 + counts.1 + 3) s.main; count = s.count + many })) (multisig_answer known r s.code s.main counts)) (both.1 counts e))

-- ---- the element more
dummy-is : (s : State) (o : Option (ℕ × ℕ)) → counts_of s ≡ o → dummy_of s ≡ option_map_or (λ counts. dummy_in counts s.main) o []
dummy-is s o e = ap (λ found. option_map_or (λ (taken : Taken). taken.dummy) found []) (agree s s.main refl).0 ∙ ap (λ found. option_map_or (λ (taken : Taken). taken.dummy) (option_map (taken_at s.main) found) []) e ∙ by o
  where
    by : (o : Option (ℕ × ℕ)) → option_map_or (λ (taken : Taken). taken.dummy) (option_map (taken_at s.main) o) [] ≡ option_map_or (λ counts. dummy_in counts s.main) o []
    by None = refl
    by (Some counts) = refl

-- the rule is out of force
pub dummy-free : (flags : Flags) (s : State) → flags.nulldummy ≡ false → true ≡ may_be_dummy flags (dummy_of s)
unfolding may_be_dummy
dummy-free flags s off = sym (ap (λ in_force. eqb (length (dummy_of s)) 0 || not in_force) off ∙ by (eqb (length (dummy_of s)) 0))
  where
    by : (empty : Bool) → (empty || true) ≡ true
    by true = refl
    by false = refl

-- there is none
pub dummy-missing : (flags : Flags) (s : State) → counts_of s ≡ None → true ≡ may_be_dummy flags (dummy_of s)
unfolding may_be_dummy
dummy-missing flags s none = sym (ap (λ dummy. eqb (length dummy) 0 || not flags.nulldummy) (dummy-is s None none))

-- it is this one, and the rule is in force
pub dummy-there : (flags : Flags) (s : State) (counts : ℕ × ℕ) (dummy : Bytes) → flags.nulldummy ≡ true → counts_of s ≡ Some counts → slice_get s.main (counts.0 + counts.1 + 2) ≡ Some dummy
    → eqb (length dummy) 0 ≡ may_be_dummy flags (dummy_of s)
unfolding may_be_dummy
dummy-there flags s counts dummy on is at =
    let same : dummy_of s ≡ dummy = dummy-is s (Some counts) is ∙ get_or_from_slice_get s.main (counts.0 + counts.1 + 2) dummy [] at in
    sym (ap (λ found. eqb (length found) 0 || not flags.nulldummy) same ∙ ap (λ in_force. eqb (length dummy) 0 || not in_force) on ∙ by (eqb (length dummy) 0))
  where
    by : (empty : Bool) → (empty || false) ≡ empty
    by true = refl
    by false = refl
