-- Numbers on the stack that stand for places or counts.
use Rattle.std.proofs.Common.{◌≡◌, ℕ, zero, suc, ◌≤◌, [], ◌∷◌, cond, nat_lt, Option, Some, None, length, drop, slice_get, refl, ap, ◌∙◌, arith}
use Rattle.std.specs.Option.{option_and_then}
use Rattle.interp.specs.Stack.{Stack, Bytes}
use Rattle.interp.specs.Elements.{natural_of}
use Rattle.interp.specs.inside.Multisig.{many}
use Rattle.interp.specs.Failures.{count_of, count_or}
use Rattle.interp.specs.declared.script_error.ScriptError.{ScriptError}

pub many_past : (most k : ℕ) (s : Stack) → length s ≤ k → many most (drop k s) ≡ None
unfolding many
many_past most zero [] h = refl
many_past most (suc k) [] h = refl
many_past most zero (x ∷ s) h = absurd (omega arith)
many_past most (suc k) (x ∷ s) h = many_past most k s (omega arith)

abbrev pub at_most : ℕ → Option ℕ → Option ℕ
at_most most o = option_and_then (λ n. cond (nat_lt most n) None (Some n)) o

pub many_there : (most k : ℕ) (s : Stack) (x : Bytes) (o : Option ℕ) → slice_get s k ≡ Some x → natural_of 4 x ≡ o → many most (drop k s) ≡ at_most most o
unfolding many
many_there most k [] x o got is = cc
many_there most zero (y ∷ s) x o got is = let same : y ≡ x = cc in ap (λ v. at_most most (natural_of 4 v)) same ∙ ap (at_most most) is
many_there most (suc k) (y ∷ s) x o got is = many_there most k s x o got is

pub count_there : (most k : ℕ) (beyond : ScriptError) (s : Stack) (x : Bytes) → slice_get s k ≡ Some x → count_or most beyond (drop k s) ≡ count_of most beyond x
unfolding count_or
count_there most k beyond [] x got = cc
count_there most zero beyond (y ∷ s) x got = let same : y ≡ x = cc in ap (count_of most beyond) same
count_there most (suc k) beyond (y ∷ s) x got = count_there most k beyond s x got
