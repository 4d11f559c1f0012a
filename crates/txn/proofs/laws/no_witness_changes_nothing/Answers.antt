use Rattle.std.proofs.Common.{◌≡◌, ℕ, ◌+◌, ◌*◌, List, length, ap, arith, ◌∙◌}
use Rattle.hash.specs.Double.{double_sha}
use Rattle.hash.specs.declared.id.Id.{Id}
use Rattle.txn.specs.Grammar.{transaction}
use Rattle.txn.proofs.Spelling.{one_spelling}
use Rattle.txn.proofs.laws.no_witness_changes_nothing.Goals as goal

pub returns-clause-spelling : goal.returns-clause-spelling
returns-clause-spelling c = one_spelling

pub returns-clause-id : goal.returns-clause-id
returns-clause-id c = λ t some none.
    let named : List ℕ → Id = λ bytes. record { 0 = double_sha bytes } in
    ap named (one_spelling t some none)

pub returns-clause-weight : goal.returns-clause-weight
returns-clause-weight c = λ t some none.
    let n : ℕ = length (transaction.spell t) in
    let four : 3 * n + n ≡ 4 * n = omega arith in
    ap (λ (bytes : List ℕ). 3 * n + length bytes) (one_spelling t some none) ∙ four
