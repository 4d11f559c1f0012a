-- Reading decides the grammar with witnesses; and where there is none, both grammars spell the same.
use Rattle.std.proofs.Common.{◌≡◌, ◌⊎◌, inl, inr, ℕ, zero, suc, ◌<◌, ℤ, Bool, true, false, List, [], ◌∷◌, ◌++◌, length, Ok, Err, refl, sym, ap, subst, ◌∙◌, arith}
use Rattle.wire.specs.declared.fault.WireFault.{WireFault}
use Rattle.wire.specs.declared.fault.WireFault.TheVariants.{Short, LongForm, TooLarge}
use Rattle.wire.specs.Grammar.{IsBytes, number, signed32, pair, times, count, counted_list, sized_bytes}
use Rattle.wire.specs.computed.Reader.{◌>>=◌, Part, piece_at, number_at, i32_at, compact_at, many_at, counted_at, sized_at}
use Rattle.wire.specs.laws.Reader.{Decides, Found, Refused, both, made, wide4, piece_decides, number_decides, signed32_decides, pair_decides, after_decides, times_decides, fields_decides, along, bind_assoc, found_law}
use Rattle.wire.specs.laws.Counts.{count_decides, counted_decides, sized_decides}
use Rattle.txn.specs.declared.input.TxIn.{TxIn}
use Rattle.txn.specs.declared.output.TxOut.{TxOut}
use Rattle.txn.specs.Tx.{Tx, Witness}
use Rattle.txn.specs.Grammar.{input, output, nothing, transaction}
use Rattle.txn.specs.WitnessGrammar.{Body, parts_of, witness, has_witness, bit_of, FlagFaulty, flag, plain_body, empty_body, witnesses_of, witness_body, flagged_by, flagged_body, body_after, front_count, body, witness_transaction, transaction_by}
use Rattle.txn.specs.computed.Reader.{tx_in_at, tx_out_at, tx_at}
use Rattle.txn.specs.computed.WitnessReader.{witness_at, witnesses_at, flag_in, flag_at, plain_at, empty_at, witness_body_at, flagged_by_at, flagged_at, body_after_at, witness_tx_at, tx_by_at}
use Rattle.txn.specs.laws.WitnessSpelling.{without_witness}
use Rattle.txn.specs.laws.Parts.{only_decides, pair_by_decides}
use Rattle.txn.specs.laws.Reader.{input_decides, output_decides, nothing_decides, no_witnesses, transaction_decides}

-- ---- the parts of a body

abbrev pub no_inputs : Part (List TxIn)
no_inputs bytes = Ok ([], bytes)

abbrev pub no_outputs : Part (List TxOut)
no_outputs bytes = Ok ([], bytes)

abbrev pub plain_end : Part (List Witness × ℕ)
plain_end = both no_witnesses (number_at 4)

plain_end_decides : Decides (pair nothing (number 4)) plain_end
plain_end_decides = pair_decides nothing (number 4) no_witnesses (number_at 4) nothing_decides (number_decides 4 wide4)

pub plain_decides : (n : ℕ) → Decides (plain_body n) (plain_at n)
unfolding plain_at
plain_decides n =
    let last : Part (List TxOut × (List Witness × ℕ)) = both (counted_at tx_out_at) plain_end in
    along (plain_body n) (both (many_at tx_in_at n) last) (plain_at n)
    (pair_decides (times input n) (pair (counted_list output) (pair nothing (number 4))) (many_at tx_in_at n) last (times_decides input tx_in_at input_decides n)
    (pair_decides (counted_list output) (pair nothing (number 4)) (counted_at tx_out_at) plain_end (counted_decides output tx_out_at output_decides) plain_end_decides))
    (λ bytes. simp bind_assoc)

pub empty_decides : Decides empty_body empty_at
unfolding empty_at
empty_decides =
    let last : Part (List TxOut × (List Witness × ℕ)) = both no_outputs plain_end in
    along empty_body (both no_inputs last) empty_at
    (pair_decides nothing (pair nothing (pair nothing (number 4))) no_inputs last nothing_decides
    (pair_decides nothing (pair nothing (number 4)) no_outputs plain_end nothing_decides plain_end_decides))
    (λ bytes. simp bind_assoc)

pub witness_decides : Decides witness witness_at
unfolding witness_at
witness_decides = counted_decides sized_bytes sized_at sized_decides

pub witnesses_decides : (inputs : List TxIn) → Decides (witnesses_of inputs) (witnesses_at (length inputs))
unfolding witnesses_at
witnesses_decides inputs =
    only_decides LongForm has_witness (times witness (length inputs)) (many_at witness_at (length inputs)) (times_decides witness witness_at witness_decides (length inputs))

pub witness_body_decides : Decides witness_body witness_body_at
unfolding witness_body_at
witness_body_decides =
    let last : List TxIn → Part (List Witness × ℕ) = λ inputs. both (witnesses_at (length inputs)) (number_at 4) in
    let next : List TxIn → Part (List TxOut × (List Witness × ℕ)) = λ inputs. both (counted_at tx_out_at) (last inputs) in
    along witness_body (λ bytes. counted_at tx_in_at bytes >>= λ x. next x.0 x.1 >>= λ y. Ok ((x.0, y.0), y.1)) witness_body_at
    (pair_by_decides (counted_list input) (λ inputs. pair (counted_list output) (pair (witnesses_of inputs) (number 4))) (counted_at tx_in_at) next (counted_decides input tx_in_at input_decides)
    (λ inputs. pair_decides (counted_list output) (pair (witnesses_of inputs) (number 4)) (counted_at tx_out_at) (last inputs) (counted_decides output tx_out_at output_decides)
    (pair_decides (witnesses_of inputs) (number 4) (witnesses_at (length inputs)) (number_at 4) (witnesses_decides inputs) (number_decides 4 wide4))))
    (λ bytes. simp bind_assoc)

-- ---- the flag, and what follows it

one_byte : (b : ℕ) → b < 256 → IsBytes (b ∷ [])
one_byte b lt zero = lt
one_byte b lt (suc i) = omega arith

first_byte : (b : ℕ) (rest : List ℕ) → b < 256 → piece_at 1 (b ∷ rest) ≡ Ok (b ∷ [], rest)
first_byte b rest lt = (piece_decides 1).again (b ∷ []) rest (refl, one_byte b lt)

flag_again : (has : Bool) (rest : List ℕ) → flag_at (bit_of has ∷ rest) ≡ Ok (has, rest)
unfolding flag_at
flag_again true rest = rw (first_byte 1 rest (omega arith)) refl
flag_again false rest = rw (first_byte 0 rest (omega arith)) refl

above_one : (b : ℕ) (rest : List ℕ) → 1 < b → flag_in b rest ≡ Err TooLarge
above_one zero rest lt = absurd (omega (arith, lt))
above_one (suc zero) rest lt = absurd (omega (arith, lt))
above_one (suc (suc b)) rest lt = refl

flag_refuses : (fault : WireFault) (bytes : List ℕ) → FlagFaulty fault bytes → flag_at bytes ≡ Err fault
unfolding flag_at
flag_refuses Short bytes h = rw h refl
flag_refuses LongForm bytes h = absurd h
flag_refuses TooLarge bytes h = rw (h.4, first_byte h.0 h.1 h.3) (above_one h.0 h.1 h.2)

flag_total : (bytes : List ℕ) → IsBytes bytes → Found flag bytes ⊎ Refused flag bytes
flag_total [] fits = inr (record { fault = Short; faulty = refl })
flag_total (zero ∷ bs) fits = inl (record { value = false; rest = bs; lawful = tt; parts = refl })
flag_total (suc zero ∷ bs) fits = inl (record { value = true; rest = bs; lawful = tt; parts = refl })
flag_total (suc (suc b) ∷ bs) fits = inr (record { fault = TooLarge; faulty = (suc (suc b), bs, omega arith, fits 0, refl) })

pub flag_decides : Decides flag flag_at
flag_decides = record { again = λ has rest h. flag_again has rest; refuses = flag_refuses; total = flag_total }

by_decides : (has : Bool) → Decides (flagged_by has) (flagged_by_at has)
by_decides true = witness_body_decides
by_decides false = empty_decides

by_fixed : (has : Bool) (b : Body) → (flagged_by has).Lawful b → has_witness b.1.1.0 ≡ has
by_fixed true b h = h.1.1.0.1
by_fixed false b h = ap has_witness h.1.1.0

pub flagged_decides : Decides flagged_body flagged_at
unfolding flagged_at
flagged_decides = after_decides flag (λ b. has_witness b.1.1.0) flagged_by flag_at flagged_by_at flag_decides by_decides by_fixed

-- ---- the count, and what follows it

after_count_decides : (n : ℕ) → Decides (body_after n) (body_after_at n)
after_count_decides zero = flagged_decides
after_count_decides (suc n) = plain_decides (suc n)

zero_fixed : (b : Body) (has : Bool) → has_witness b.1.1.0 ≡ has → (flagged_by has).Lawful b → front_count b ≡ 0
zero_fixed b true is h = rw is refl
zero_fixed b false is h = rw is (ap length h.0)

count_fixed : (n : ℕ) (b : Body) → (body_after n).Lawful b → front_count b ≡ n
count_fixed zero b h = zero_fixed b (has_witness b.1.1.0) refl h.1
count_fixed (suc n) b h = rw (ap has_witness h.1.1.0) h.0.0

abbrev pub body_at : Part Body
body_at bytes = compact_at bytes >>= λ n. body_after_at n.0 n.1

pub body_decides : Decides body body_at
body_decides = after_decides count front_count body_after compact_at body_after_at count_decides after_count_decides count_fixed

abbrev pub of_parts : ℤ × Body → Tx
of_parts p = record { version = p.0; inputs = p.1.0; outputs = p.1.1.0; lock_time = p.1.1.1.1; witnesses = p.1.1.1.0 }

pub witness_transaction_decides : Decides witness_transaction witness_tx_at
unfolding witness_tx_at
witness_transaction_decides =
    along witness_transaction (made of_parts (both i32_at body_at)) witness_tx_at
    (fields_decides (pair signed32 body) (both i32_at body_at) of_parts parts_of (pair_decides signed32 body i32_at body_at signed32_decides body_decides) (λ y. refl) (λ x. refl))
    (λ bytes. simp bind_assoc)

pub transaction_by_decides : (by : Bool) → Decides (transaction_by by) (tx_by_at by)
transaction_by_decides true = witness_transaction_decides
transaction_by_decides false = transaction_decides

-- ---- where there is an input and no witness, both grammars spell the same

pub same_spelling : (t : Tx) (i : TxIn) (is : List TxIn) → t.inputs ≡ i ∷ is → t.witnesses ≡ [] → witness_transaction.spell t ≡ transaction.spell t
same_spelling t i is has none = without_witness t i is (ap has_witness none) has

abbrev pub with_input : ℤ → TxIn → List TxIn → List TxOut → ℕ → Tx
with_input version i is outputs lock_time = record { version = version; inputs = i ∷ is; outputs = outputs; lock_time = lock_time; witnesses = [] }

lawful_same : (version : ℤ) (i : TxIn) (is : List TxIn) (outputs : List TxOut) (lock_time : ℕ)
    → transaction.Lawful (with_input version i is outputs lock_time) → witness_transaction.Lawful (with_input version i is outputs lock_time)
lawful_same version i is outputs lock_time h = (h.0, (h.1.0.0, (h.1.0.1, h.1.1)))

by_inputs : (t : Tx) (inputs : List TxIn) → t.inputs ≡ inputs → ¬ (inputs ≡ []) → transaction.Lawful t → witness_transaction.Lawful t × (witness_transaction.spell t ≡ transaction.spell t)
by_inputs t [] has some lawful = absurd (some refl)
by_inputs t (i ∷ is) has some lawful =
    let none : t.witnesses ≡ [] = lawful.1.1.1.0 in
    let e : t ≡ with_input t.version i is t.outputs t.lock_time = λ j. record { version = t.version; inputs = has j; outputs = t.outputs; lock_time = t.lock_time; witnesses = none j } in
    (subst witness_transaction.Lawful (sym e) (lawful_same t.version i is t.outputs t.lock_time (subst transaction.Lawful e lawful)), same_spelling t i is has none)

-- what the grammar without witnesses spells of a transaction with an input is lawful with them, and spelled the same
pub lawful_in_both : (t : Tx) → ¬ (t.inputs ≡ []) → transaction.Lawful t → witness_transaction.Lawful t × (witness_transaction.spell t ≡ transaction.spell t)
lawful_in_both t some lawful = by_inputs t t.inputs refl some lawful

-- so what is read without witnesses is read the same with them
pub read_same : (bytes : List ℕ) (t : Tx) (rest : List ℕ) → IsBytes bytes → tx_at bytes ≡ Ok (t, rest) → ¬ (t.inputs ≡ []) → witness_tx_at bytes ≡ Ok (t, rest)
read_same bytes t rest fits read some =
    let f = found_law transaction tx_at transaction_decides bytes t rest fits read in
    let both = lawful_in_both t some f.0 in
    ap witness_tx_at (f.1 ∙ ap (λ (s : List ℕ). s ++ rest) (sym both.1)) ∙ witness_transaction_decides.again t rest both.0
