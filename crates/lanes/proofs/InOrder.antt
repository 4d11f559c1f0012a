-- The ids of messages, each at its place.
use Rattle.std.proofs.Common.{◌≡◌, ℕ, ◌+◌, ◌-◌, ◌*◌, ◌<◌, ◌≤◌, List, [], ◌∷◌, ◌++◌, length, take, drop, map, set, get_or, refl, sym, ap, ◌∙◌, arith}
use Rattle.std.specs.Borrow.{Bor}
use Rattle.std.proofs.lemmas.List.{append-nil, drop_all, get_or-map, length-append, length-drop, length-map, drop-map, length-take-le, same_lists, take-append-drop, take-map, take_all, take_more}
use Rattle.std.proofs.lemmas.Grind.{take-set_at}
use Rattle.std.proofs.Math.Seq.{take-add}
use Rattle.std.proofs.lemmas.Slice.{take-put_mid}
use borrow.Rule.Slice.PartMut.{put_mid}
use Rattle.hash.specs.declared.id.Id.{Id}
use Rattle.lanes.specs.Messages.{bytes_of, message_id, ids_of}
use Rattle.lanes.specs.inside.Messages.{message_at}

pub length-ids : (messages : List (Bor (List ℕ))) → length (ids_of messages) ≡ length messages
length-ids messages = length-map (bytes_of messages) message_id ∙ length-map messages (λ (m : Bor (List ℕ)). m.now)

pub id-at : (messages : List (Bor (List ℕ))) (k : ℕ) (d : Bor (List ℕ)) (e : Id) → k < length messages → get_or (ids_of messages) k e ≡ message_id (get_or messages k d).now
id-at messages k d e lt =
    get_or-map message_id (bytes_of messages) k [] e (omega (arith, lt, length-map messages (λ (m : Bor (List ℕ)). m.now)))
    ∙ ap message_id (get_or-map (λ (m : Bor (List ℕ)). m.now) messages k d [] lt)

-- one message more
pub one_more : (messages : List (Bor (List ℕ))) (out : List Id) (k : ℕ) (v : Id) (d : Bor (List ℕ)) → length out ≡ length messages → k < length messages
    → take k out ≡ take k (ids_of messages) → v ≡ message_id (get_or messages k d).now → take (k + 1) (set out k v) ≡ take (k + 1) (ids_of messages)
one_more messages out k v d len lt front is =
    take-set_at out k (k + 1) v refl (omega (arith, lt, len))
    ∙ (λ i. front i ++ (is ∙ sym (id-at messages k d v lt)) i ∷ [])
    ∙ sym (take_more (ids_of messages) k v (omega (arith, lt, length-ids messages)))

-- the ids of eight messages, each that of its message
pub eight_ids : (messages : List (Bor (List ℕ))) (ys : List Id) → length messages ≡ 8 → length ys ≡ 8
    → ((k : ℕ) → k < 8 → (d : Id) → get_or ys k d ≡ message_id (message_at messages k)) → ys ≡ ids_of messages
eight_ids messages ys len eight at =
    same_lists ys (ids_of messages) (omega (arith, len, eight, length-ids messages))
    (λ k d lt. at k (omega (arith, lt, eight)) d
    ∙ sym (get_or-map message_id (bytes_of messages) k [] d (omega (arith, lt, eight, len, length-map messages (λ (m : Bor (List ℕ)). m.now)))))

ids-take : (n : ℕ) (messages : List (Bor (List ℕ))) → take n (ids_of messages) ≡ ids_of (take n messages)
ids-take n messages = take-map message_id n (bytes_of messages) ∙ ap (map message_id) (take-map (λ (m : Bor (List ℕ)). m.now) n messages)

ids-drop : (n : ℕ) (messages : List (Bor (List ℕ))) → drop n (ids_of messages) ≡ ids_of (drop n messages)
ids-drop n messages = drop-map message_id n (bytes_of messages) ∙ ap (map message_id) (drop-map (λ (m : Bor (List ℕ)). m.now) n messages)

ids-part : (n j : ℕ) (messages : List (Bor (List ℕ))) → ids_of (take n (drop j messages)) ≡ take n (drop j (ids_of messages))
ids-part n j messages = sym (ap (take n) (ids-drop j messages) ∙ ids-take n (drop j messages))

put_mid-length : (out ys : List Id) (j n : ℕ) → length ys ≡ n → j + n ≤ length out → length (put_mid j n out ys) ≡ length out
put_mid-length out ys j n len room =
    omega (arith, length-append (take j out) (ys ++ drop n (drop j out)), length-append ys (drop n (drop j out)), length-drop n (drop j out), length-drop j out, length-take-le j out (omega (arith, room)), len)

-- eight messages more, as the code cuts out the places
pub turn_more : (messages : List (Bor (List ℕ))) (out ys : List Id) (k n m : ℕ) → length out ≡ length messages → take (8 * k) out ≡ take (8 * k) (ids_of messages)
    → 8 * k + 8 ≤ length messages → n ≡ 8 → m ≡ 8 → ys ≡ ids_of (take n (drop (8 * k) messages)) → length ys ≡ 8
    → (length (put_mid (8 * k) m out ys) ≡ length messages) × (take (8 * (k + 1)) (put_mid (8 * k) m out ys) ≡ take (8 * (k + 1)) (ids_of messages))
turn_more messages out ys k n m len front room en em e eight =
    let next : 8 * (k + 1) ≡ 8 * k + 8 = omega arith in
    let here : ys ≡ take 8 (drop (8 * k) (ids_of messages)) = e ∙ ids-part n (8 * k) messages ∙ ap (λ (j : ℕ). take j (drop (8 * k) (ids_of messages))) en in (
      put_mid-length out ys (8 * k) m (eight ∙ sym em) (omega (arith, room, len, em)) ∙ len,
      rw next (take-put_mid (8 * k) m out ys (8 * k + 8) (omega (arith, eight)) (omega (arith, room, len)) ∙ (λ i. front i ++ here i) ∙ sym (take-add (8 * k) 8 (ids_of messages))),
    )

-- the messages that are left, as the code cuts out the places
pub rest_done : (messages : List (Bor (List ℕ))) (out ys : List Id) (j : ℕ) → length out ≡ length messages → take j out ≡ take j (ids_of messages)
    → ys ≡ ids_of (take (length messages - j) (drop j messages)) → put_mid j (length out - j) out ys ≡ ids_of messages
rest_done messages out ys j len front e =
    let whole : take (length messages - j) (drop j messages) ≡ drop j messages = take_all (length messages - j) (drop j messages) (omega (arith, length-drop j messages)) in
    let here : ys ≡ drop j (ids_of messages) = e ∙ ap ids_of whole ∙ sym (ids-drop j messages) in
    let none : drop (length out - j) (drop j out) ≡ [] = drop_all (length out - j) (drop j out) (omega (arith, length-drop j out)) in
    ap (λ (l : List Id). take j out ++ (ys ++ l)) none ∙ ap (λ (l : List Id). take j out ++ l) (append-nil ys)
    ∙ (λ i. front i ++ here i) ∙ take-append-drop j (ids_of messages)
