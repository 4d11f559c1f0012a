-- A list of verdicts is a list of calls.
use Rattle.std.proofs.Common.{ℕ, Bool, List, [], ◌∷◌, ◌++◌, take, Result, Ok, refl, subst}
use Rattle.signatures.specs.Triple.{Triple}
use Rattle.node.specs.declared.answer.Learning.{Learning}
use Rattle.node.specs.declared.answer.Stamped.{Stamped}
use Rattle.node.specs.declared.fault.Fault.{Fault}
use Rattle.node.specs.Pass.{Pass}
use Rattle.node.specs.Runs.{Call, Learn, Makes, Learns, IsLearntUpTo}

-- calls behind calls
calls_behind : (p q z : Pass) (cs ds : List Call) → Makes p cs q → Makes q ds z → Makes p (cs ++ ds) z
calls_behind p q z [] ds is rest = subst (λ (s : Pass). Makes s ds z) is rest
calls_behind p q z (c ∷ cs) ds made rest = (made.0, made.1, calls_behind made.0 q z cs ds made.2 rest)

-- a list of verdicts that is taken down is a list of calls of `learn`
pub learns_are_calls : (p z : Pass) (ts : List Triple) (valid : Bool) → Learns p ts valid z → (calls : List Call) × Makes p calls z
learns_are_calls p z [] valid is = ([], is)
learns_are_calls p z (t ∷ ts) valid learnt = let rest = learns_are_calls learnt.0 z ts valid learnt.2 in (Learn t valid (Ok learnt.1.0) ∷ rest.0, (learnt.0, learnt.1.1, rest.1))

-- so is one of which a verdict contradicts what is known, or is refused
pub learnt_up_to_are_calls : (p z : Pass) (ts : List Triple) (valid : Bool) (n : ℕ) (result : Result (Stamped Learning) Fault) → IsLearntUpTo p z ts valid n result → (calls : List Call) × Makes p calls z
learnt_up_to_are_calls p z ts valid n result learnt =
    let last = learnt.2 in
    let first = learns_are_calls p last.0 (take n ts) valid last.1 in
    (first.0 ++ Learn learnt.0 valid result ∷ [], calls_behind p last.0 z first.0 (Learn learnt.0 valid result ∷ []) first.1 (z, last.2, refl))
