-- Transactions that are spelled one after the other, and their ids.
use Rattle.std.proofs.Common.{◌≡◌, ◌≢◌, ℕ, ◌+◌, ◌-◌, ◌*◌, ◌<◌, ◌≤◌, inl, inr, List, [], ◌++◌, length, pos, take, drop, set, get_or, sym, ap, ◌∙◌, append_assoc, arith}
use Rattle.std.specs.Borrow.{Bor}
use Rattle.std.proofs.lemmas.Bool.{cases_lt}
use Rattle.std.proofs.lemmas.List.{drop-append-le, get_or-map, get_or-set_other, get_or-set_same, get_or_default, length-append, length-drop, length-map, length-set, map-append, same_lists, take-append-le, take_all}
use Rattle.std.proofs.Math.Seq.{drop-append_seam, take-add}
use Rattle.hash.specs.declared.id.Id.{Id}
use Rattle.lanes.specs.Messages as messages
use Rattle.txn.specs.Tx.{Tx}
use Rattle.txn.specs.Grammar.{transaction}
use Rattle.txn.specs.Identity.{id_of, ids_of}
use Rattle.txn.specs.inside.Marks.{AreMarks}

-- what stands between two marks stays as bytes are added
kept : (bytes more : List ℕ) (a b : ℕ) → a ≤ b → b ≤ length bytes → take (b - a) (drop a (bytes ++ more)) ≡ take (b - a) (drop a bytes)
kept bytes more a b le top =
    ap (take (b - a)) (drop-append-le a bytes more (omega (arith, le, top)))
    ∙ take-append-le (b - a) (drop a bytes) more (omega (arith, length-drop a bytes, le, top))

added : (bytes more : List ℕ) (n : ℕ) → n ≡ length bytes + length more → take (n - length bytes) (drop (length bytes) (bytes ++ more)) ≡ more
added bytes more n e = ap (take (n - length bytes)) (drop-append_seam bytes more) ∙ take_all (n - length bytes) more (omega (arith, e))

one_marked : (txs : List Tx) (bytes new marks : List ℕ) (k : ℕ) (d : Tx) → AreMarks txs bytes marks k → k < 8 → k < length txs
    → new ≡ bytes ++ transaction.spell (get_or txs k d) → AreMarks txs new (set marks (k + 1) (length new)) (k + 1)
one_marked txs bytes new marks k d held lt there e =
    let more : List ℕ = transaction.spell (get_or txs k d) in
    let next : List ℕ = set marks (k + 1) (length new) in
    let long : length new ≡ length bytes + length more = ap length e ∙ length-append bytes more in
    let end : get_or next (k + 1) 0 ≡ length new = get_or-set_same marks (k + 1) (length new) 0 (omega (arith, lt, held.len)) in
    let before = λ (l : ℕ) (below : l < k + 1). get_or-set_other marks (k + 1) l (length new) 0 (let ne : l ≢ k + 1 = omega (arith, below) in ne) in
    record {
      len = length-set marks (k + 1) (length new) ∙ held.len;
      last = end;
      order = λ l below. elim (cases_lt l k) [
        | inl inside ↦ omega (arith, before l below, before (l + 1) (omega (arith, inside)), held.order l inside)
        | inr at ↦
            let here : l ≡ k = omega (arith, at, below) in
            rw here (omega (arith, before k (omega arith), end, held.last, long))
      ];
      within = λ l below. elim (cases_lt l k) [
        | inl inside ↦ omega (arith, before (l + 1) (omega (arith, inside)), held.within l inside, long)
        | inr at ↦
            let here : l ≡ k = omega (arith, at, below) in
            rw here (omega (arith, end))
      ];
      each = λ l f below. elim (cases_lt l k) [
        | inl inside ↦
            rw (before l below, before (l + 1) (omega (arith, inside)), e)
            (kept bytes more (get_or marks l 0) (get_or marks (l + 1) 0) (held.order l inside) (held.within l inside) ∙ held.each l f inside)
        | inr at ↦
            let here : l ≡ k = omega (arith, at, below) in
            rw (here, before k (omega arith), end, held.last)
            (ap (λ (b : List ℕ). take (length new - length bytes) (drop (length bytes) b)) e ∙ added bytes more (length new) long
            ∙ ap transaction.spell (get_or_default txs k d f there))
      ];
    }

pub one_more : (txs : List Tx) (bytes new marks : List ℕ) (k n : ℕ) (d : Tx) → AreMarks txs bytes marks k → k < 8 → k < length txs → n ≡ length new
    → new ≡ bytes ++ transaction.spell (get_or txs k d) → AreMarks txs new (set marks (k + 1) n) (k + 1)
one_more txs bytes new marks k n d held lt there en e = rw en (one_marked txs bytes new marks k d held lt there e)

-- messages that are the spellings of transactions have their ids
pub same_ids : (parts : List (Bor (List ℕ))) (txs : List Tx) → length parts ≡ length txs
    → ((k : ℕ) (d : Bor (List ℕ)) (e : Tx) → k < length txs → (get_or parts k d).now ≡ transaction.spell (get_or txs k e)) → messages.ids_of parts ≡ ids_of txs
same_ids parts txs len each =
    let now = λ (part : Bor (List ℕ)). part.now in
    let long : length (messages.ids_of parts) ≡ length parts = length-map (messages.bytes_of parts) messages.message_id ∙ length-map parts now in
    same_lists (messages.ids_of parts) (ids_of txs) (long ∙ len ∙ sym (length-map txs id_of))
    (λ k d lt.
    let none : Bor (List ℕ) = record { ref_ptr = (0, 0); now = [] } in
    let within : k < length parts = omega (arith, lt, long) in
    let tx : Tx = record { version = pos 0; inputs = []; outputs = []; lock_time = 0; witnesses = [] } in
    get_or-map messages.message_id (messages.bytes_of parts) k [] d (omega (arith, within, length-map parts now))
    ∙ ap messages.message_id (get_or-map now parts k none [] within ∙ each k none tx (omega (arith, within, len)))
    ∙ sym (get_or-map id_of txs k tx d (omega (arith, within, len))))

-- the ids of eight transactions more, as the code cuts out the places
pub eight_more : (txs : List Tx) (old ids ys : List Id) (k n : ℕ) → ids ≡ old ++ ids_of (take (8 * k) txs) → n ≡ 8 → ys ≡ ids_of (take n (drop (8 * k) txs))
    → ids ++ ys ≡ old ++ ids_of (take (8 * (k + 1)) txs)
eight_more txs old ids ys k n e en ey =
    let next : 8 * (k + 1) ≡ 8 * k + 8 = omega arith in
    let here : ys ≡ ids_of (take 8 (drop (8 * k) txs)) = ey ∙ ap (λ (j : ℕ). ids_of (take j (drop (8 * k) txs))) en in
    let both : ids_of (take (8 * (k + 1)) txs) ≡ ids_of (take (8 * k) txs) ++ ys =
    ap (λ (j : ℕ). ids_of (take j txs)) next ∙ ap ids_of (take-add (8 * k) 8 txs) ∙ map-append id_of (take (8 * k) txs) (take 8 (drop (8 * k) txs))
    ∙ ap (λ (l : List Id). ids_of (take (8 * k) txs) ++ l) (sym here) in
    ap (λ (l : List Id). l ++ ys) e ∙ append_assoc old (ids_of (take (8 * k) txs)) ys ∙ ap (λ (l : List Id). old ++ l) (sym both)
