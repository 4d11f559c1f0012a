-- The same commands have the same replies.
use Rattle.std.proofs.Common.{◌≡◌, ◌≢◌, ℕ, List, [], ◌∷◌, Option, Some, None, refl, ap, sym, ◌∙◌, subst}
use mathlib.Core.List.{IsPrefix}
use Rattle.model.specs.declared.command.Command.{Command}
use Rattle.model.specs.declared.entry.Entry.{Entry}
use Rattle.model.specs.declared.reply.Reply.{Reply}
use Rattle.model.specs.Machine.{Machine}
use Rattle.model.specs.History.{Answers, LegalFrom, state_left}
use Rattle.histories.specs.Histories.{AreAnswered, commands_of, replies_of}

-- a step has one reply
one_reply : {S : Type 0} (a b : Option Reply) (o : Option (S × Reply)) → Answers a o → Answers b o → a ≢ None → b ≢ None → a ≡ b
one_reply a b None p q x y = absurd p
one_reply None b (Some z) p q x y = absurd (x refl)
one_reply (Some a) None (Some z) p q x y = absurd (y refl)
one_reply (Some a) (Some b) (Some z) p q x y = ap Some (p ∙ sym q)

pub replies_begin : (m : Machine) (seats others : ℕ) (s : m.State) (xs ys : List Entry) → LegalFrom m seats s xs → LegalFrom m others s ys
    → AreAnswered xs → AreAnswered ys → IsPrefix (commands_of xs) (commands_of ys) → IsPrefix (replies_of xs) (replies_of ys)
replies_begin m seats others s [] ys g h a b p = (replies_of ys, refl)
replies_begin m seats others s (x ∷ xs) [] g h a b p = absurd (cc (p.1))
replies_begin m seats others s (x ∷ xs) (y ∷ ys) g h a b p =
    let asked : y.command ≡ x.command = cc (p.1) in
    let reply = subst (λ (c : Command). Answers y.reply (m.step s c)) asked h.0.reply_is in
    let heads : x.reply ≡ y.reply = one_reply x.reply y.reply (m.step s x.command) g.0.reply_is reply a.0 b.0 in
    let later = subst (λ (c : Command). LegalFrom m others (state_left s (m.step s c)) ys) asked h.1 in
    let rest = replies_begin m seats others (state_left s (m.step s x.command)) xs ys g.1 later a.1 b.1 (p.0, cc (p.1)) in
    (rest.0, cc (heads, rest.1))
