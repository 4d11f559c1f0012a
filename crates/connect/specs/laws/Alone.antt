-- What a block that breaks no rule by itself is like.
use Rattle.std.proofs.Common.{◌≡◌, ℕ, zero, suc, ◌+◌, ◌≤◌, ◌==◌, Bool, true, false, cond, not, ◌&&◌, nat_lt, sum_by, ◌||◌, List, [], ◌∷◌, ◌++◌, length, drop, Option, Some, None, refl, sym, ap, ◌∙◌, arith}
use Rattle.std.specs.Option.{option_or}
use Rattle.std.specs.List.{list_any, flat_map, AllByRecursion, IsDistinct}
use Rattle.std.proofs.lemmas.Bool.{ltb-false, eqb-false}
use Rattle.std.proofs.lemmas.List.{length-append}
use Rattle.std.proofs.lemmas.List.Sums.{sum_by-cons}
use Rattle.txn.specs.declared.outpoint.OutPoint.{OutPoint}
use Rattle.txn.specs.declared.input.TxIn.{TxIn}
use Rattle.txn.specs.declared.output.TxOut.{TxOut}
use Rattle.txn.specs.Tx.{Tx}
use Rattle.txn.specs.declared.reason.Reason.{Reason}
use Rattle.txn.specs.declared.reason.Reason.TheVariants.{HighHash, BadMerkleRoot, DuplicateTransactions, BadBlockLength, CoinbaseMissing, CoinbaseMultiple, NoInputs, NoOutputs, DuplicateInputs, CoinbaseLength, NullPrevout, TooManySigops}
use Rattle.txn.specs.Check.{same_outpoint, has_twice, prevs, is_coinbase, is_null, fits_coinbase, first_script, output_rules, tx_rules}
use Rattle.txn.specs.laws.Check.{same_outpoint-refl, distinct}
use Rattle.txn.specs.First.{Rules, first_broken}
use Rattle.txn.specs.laws.First.{first_of_both}
use Rattle.txn.specs.Grammar.{input, output, transaction}
use Rattle.txn.specs.Identity as txn
use Rattle.block.specs.declared.block.Block.{Block}
use Rattle.block.specs.Grammar.{header}
use Rattle.block.specs.Identity.{id_of}
use Rattle.hash.specs.Id.{same_id}
use Rattle.block.specs.Merkle.{root, twin}
use Rattle.block.specs.Sizes.{size_of, size_by}
use Rattle.block.specs.Target.{meets_target}
use Rattle.wire.specs.Grammar.{number}
use Rattle.wire.specs.Numbers.{compact_size, i32le, i64le}
use Rattle.coins.specs.Coins.{same}
use Rattle.coins.specs.laws.Lookups.{same-true}
use Rattle.rules.specs.Alone.{max_block_size, max_block_sigops, begins_with_coinbase, tx_sigops, alone_rules}
use Rattle.connect.specs.inside.Turns.{IsLawful}
use Rattle.connect.specs.laws.Broken.{head_clear, tail_clear}

-- ---- lengths of spellings

flat_long : {A : Type 0} (f : A → List ℕ) → ((x : A) → 1 ≤ length (f x)) → (xs : List A) → length xs ≤ length (flat_map f xs)
flat_long f h [] = omega arith
flat_long f h (x ∷ xs) = omega (arith, h x, flat_long f h xs, length-append (f x) (flat_map f xs))

input_long : (i : TxIn) → 1 ≤ length (input.spell i)
input_long i =
    let front = i.prev.id.0 ++ (number 4).spell i.prev.index in
    let script = compact_size (length i.script) ++ i.script in
    omega (arith, length-append front (script ++ (number 4).spell i.sequence), length-append script ((number 4).spell i.sequence))

output_long : (o : TxOut) → 1 ≤ length (output.spell o)
output_long o = omega (arith, length-append (i64le o.value) (compact_size (length o.script) ++ o.script))

tx_long : (t : Tx) → length t.inputs + length t.outputs + 1 ≤ length (transaction.spell t)
tx_long t =
    let ins = compact_size (length t.inputs) ++ flat_map input.spell t.inputs in
    let outs = compact_size (length t.outputs) ++ flat_map output.spell t.outputs in
    let last = (number 4).spell t.lock_time in
    omega (
      arith,
      length-append (i32le t.version) (ins ++ outs ++ last),
      length-append ins (outs ++ last),
      length-append outs last,
      length-append (compact_size (length t.inputs)) (flat_map input.spell t.inputs),
      length-append (compact_size (length t.outputs)) (flat_map output.spell t.outputs),
      flat_long input.spell input_long t.inputs,
      flat_long output.spell output_long t.outputs,
    )

abbrev pub inputs_of : List Tx → ℕ
inputs_of txs = sum_by (λ (tx : Tx). length tx.inputs) txs

txs_long : (txs : List Tx) → inputs_of txs + length txs ≤ length (flat_map transaction.spell txs)
txs_long [] = omega arith
txs_long (t ∷ txs) =
    omega (arith, tx_long t, txs_long txs, sum_by-cons (λ (tx : Tx). length tx.inputs) t txs, length-append (transaction.spell t) (flat_map transaction.spell txs))

each_short : (txs : List Tx) (n : ℕ) → length (flat_map transaction.spell txs) ≤ n → AllByRecursion (λ t. length t.inputs + length t.outputs ≤ n) txs
each_short [] n h = tt
each_short (t ∷ txs) n h =
    let parts = length-append (transaction.spell t) (flat_map transaction.spell txs) in
    (omega (arith, tx_long t, parts), each_short txs n (omega (arith, parts)))

txs_short : (b : Block) → length (flat_map transaction.spell b.txs) ≤ size_of b
unfolding size_by
txs_short b = omega (arith, length-append (header.spell b.header) (compact_size (length b.txs) ++ flat_map transaction.spell b.txs), length-append (compact_size (length b.txs)) (flat_map transaction.spell b.txs))

-- ---- rules of which none is broken

both_none : (a b : Option Reason) → option_or a b ≡ None → (a ≡ None) × (b ≡ None)
both_none None b h = (refl, h)
both_none (Some r) b h = cc

pub both_clear : (xs ys : Rules) → first_broken (xs ++ ys) ≡ None → (first_broken xs ≡ None) × (first_broken ys ≡ None)
both_clear xs ys h = both_none (first_broken xs) (first_broken ys) (sym (first_of_both xs ys) ∙ h)

each_clear : (txs : List Tx) → first_broken (flat_map tx_rules txs) ≡ None → AllByRecursion (λ t. first_broken (tx_rules t) ≡ None) txs
each_clear [] h = tt
each_clear (t ∷ txs) h =
    let two = both_clear (tx_rules t) (flat_map tx_rules txs) h in
    (two.0, each_clear txs two.1)

neither : (a b : Bool) → (a || b) ≡ false → (a ≡ false) × (b ≡ false)
neither true b h = cc
neither false b h = (refl, h)

there_if : (b : Bool) → not b ≡ false → b ≡ true
there_if true h = refl
there_if false h = cc

-- ---- no outpoint twice

differ : (b : Bool) (p q : OutPoint) → same p q ≡ b → same_outpoint p q ≡ false → b ≡ false
differ false p q e h = refl
differ true p q e h = absurd (false_true (sym h ∙ ap (same_outpoint p) (sym (same-true p q e)) ∙ same_outpoint-refl p))
  where
    false_true : false ≡ true → ⊥
    false_true x = cc

each_differs : (p : OutPoint) (ps : List OutPoint) → AllByRecursion (λ q. same_outpoint p q ≡ false) ps → AllByRecursion (λ q. same p q ≡ false) ps
each_differs p [] h = tt
each_differs p (q ∷ ps) h = (differ (same p q) p q refl h.0, each_differs p ps h.1)

once : (ps : List OutPoint) → IsDistinct same_outpoint ps → IsDistinct same ps
unfolding IsDistinct
once [] h = tt
once (p ∷ ps) h = (each_differs p ps h.0, once ps h.1)

once_spent : (b : Bool) (ps : List OutPoint) → IsDistinct same ps → IsDistinct same (cond b [] ps)
unfolding IsDistinct
once_spent true ps h = tt
once_spent false ps h = h

not_twice : (t : Tx) → first_broken (tx_rules t) ≡ None → has_twice (prevs t.inputs) ≡ false
unfolding tx_rules
not_twice t h =
    let last : Rules = (not (is_coinbase t) && list_any (λ (i : TxIn). is_null i.prev) t.inputs, NullPrevout) ∷ [] in
    let middle : Rules = (is_coinbase t && not (fits_coinbase (first_script t.inputs)), CoinbaseLength) ∷ last in
    let twice : Rules = (has_twice (prevs t.inputs), DuplicateInputs) ∷ middle in
    let outputs : Rules = output_rules [] t.outputs ++ twice in
    let h1 = tail_clear (length t.inputs == 0) NoInputs ((length t.outputs == 0, NoOutputs) ∷ outputs) h in
    let h2 = tail_clear (length t.outputs == 0) NoOutputs outputs h1 in
    head_clear (has_twice (prevs t.inputs)) DuplicateInputs middle (both_clear (output_rules [] t.outputs) twice h2).1

pub lawful_one : (t : Tx) → first_broken (tx_rules t) ≡ None → length t.inputs + length t.outputs ≤ 1000000 → IsLawful t
lawful_one t h short = record {
  inputs = omega (arith, short);
  outputs = omega (arith, short);
  once = once_spent (is_coinbase t) (prevs t.inputs) (once (prevs t.inputs) (distinct (prevs t.inputs) (not_twice t h)));
}

lawful_all : (txs : List Tx) → AllByRecursion (λ t. first_broken (tx_rules t) ≡ None) txs → AllByRecursion (λ t. length t.inputs + length t.outputs ≤ 1000000) txs → AllByRecursion IsLawful txs
lawful_all [] h k = tt
lawful_all (t ∷ txs) h k = (lawful_one t h.0 k.0, lawful_all txs h.1 k.1)

-- ---- a block

pub record IsLawfulBlock (b : Block) : Type 0 where
  pub some : 1 ≤ length b.txs
  pub few : length b.txs ≤ 1000000
  pub inputs : inputs_of b.txs ≤ 1000000
  pub first : begins_with_coinbase b.txs ≡ true
  pub others : list_any is_coinbase (drop 1 b.txs) ≡ false
  pub rules : AllByRecursion (λ t. first_broken (tx_rules t) ≡ None) b.txs
  pub lawful : AllByRecursion IsLawful b.txs

pub lawful_block : (b : Block) → first_broken (alone_rules b) ≡ None → IsLawfulBlock b
unfolding alone_rules
lawful_block b h =
    let ids = txn.ids_of b.txs in
    let many : Rules = (nat_lt max_block_sigops (sum_by tx_sigops b.txs), TooManySigops) ∷ [] in
    let each : Rules = flat_map tx_rules b.txs ++ many in
    let from_later : Rules = (list_any is_coinbase (drop 1 b.txs), CoinbaseMultiple) ∷ each in
    let from_first : Rules = (not (begins_with_coinbase b.txs), CoinbaseMissing) ∷ from_later in
    let from_length : Rules = ((length b.txs == 0) || nat_lt max_block_size (size_of b), BadBlockLength) ∷ from_first in
    let from_twin : Rules = (twin ids, DuplicateTransactions) ∷ from_length in
    let from_root : Rules = (not (same_id b.header.root (root ids)), BadMerkleRoot) ∷ from_twin in
    let h1 = tail_clear (not (meets_target (id_of b.header))) HighHash from_root h in
    let h2 = tail_clear (not (same_id b.header.root (root ids))) BadMerkleRoot from_twin h1 in
    let h3 = tail_clear (twin ids) DuplicateTransactions from_length h2 in
    let h4 = tail_clear ((length b.txs == 0) || nat_lt max_block_size (size_of b)) BadBlockLength from_first h3 in
    let h5 = tail_clear (not (begins_with_coinbase b.txs)) CoinbaseMissing from_later h4 in
    let h6 = tail_clear (list_any is_coinbase (drop 1 b.txs)) CoinbaseMultiple each h5 in
    let rules_clear = each_clear b.txs (both_clear (flat_map tx_rules b.txs) many h6).0 in
    let sized = neither (length b.txs == 0) (nat_lt max_block_size (size_of b)) (head_clear ((length b.txs == 0) || nat_lt max_block_size (size_of b)) BadBlockLength from_first h3) in
    let short : size_of b ≤ 1000000 = ltb-false max_block_size (size_of b) sized.1 in
    let some : ¬ (length b.txs ≡ 0) = eqb-false (length b.txs) 0 sized.0 in
    let spelled : length (flat_map transaction.spell b.txs) ≤ 1000000 = omega (arith, short, txs_short b) in
    record {
      some = some_of (length b.txs) some;
      few = omega (arith, spelled, txs_long b.txs);
      inputs = omega (arith, spelled, txs_long b.txs);
      first = there_if (begins_with_coinbase b.txs) (head_clear (not (begins_with_coinbase b.txs)) CoinbaseMissing from_later h4);
      others = head_clear (list_any is_coinbase (drop 1 b.txs)) CoinbaseMultiple each h5;
      rules = rules_clear;
      lawful = lawful_all b.txs rules_clear (each_short b.txs 1000000 spelled);
    }
  where
    some_of : (n : ℕ) → ¬ (n ≡ 0) → 1 ≤ n
    some_of zero h = absurd (h refl)
    some_of (suc n) h = omega arith
