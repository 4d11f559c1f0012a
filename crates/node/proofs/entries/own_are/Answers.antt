use Rattle.std.proofs.Common.{◌≡◌, ◌+◌, ◌++◌, ◌∷◌, [], List, take, drop, map, ap, sym, ◌∙◌, arith}
use Rattle.std.proofs.lemmas.List.{take_more, take-append-drop}
use Rattle.model.specs.declared.entry.Entry.{Entry}
use Rattle.model.specs.History.{own_of}
use Rattle.model.specs.laws.History.{own_of-append}
use Rattle.node.specs.Pass.{owed_entry}
use Rattle.node.proofs.entries.own_are.Goals as goal

-- the entries up to one, and that one
one_more : (n : _) (before all : List Entry) (e : Entry) → all ≡ before ++ e ∷ [] → own_of n all ≡ own_of n before ++ own_of n (e ∷ [])
one_more n before all e more = ap (own_of n) more ∙ own_of-append n before (e ∷ [])

pub loop-entry-preserved : goal.loop-entry-preserved
loop-entry-preserved c =
    let f = c.in-Some.ensures in
    let n = c.args.number in
    let e = c.entry-item.result in
    let before = take c.loop-entry.entry-index c.args.entries.now in
    let more : take (c.loop-entry.entry-index + 1) c.args.entries.now ≡ before ++ e ∷ [] =
    take_more c.args.entries.now c.loop-entry.entry-index e (omega arith) ∙ ap (λ x. before ++ x ∷ []) (sym c.entry-item.is) in
    record {
      within = f.0;
      same = one_more n before _ e more ∙ ap (λ l. l ++ own_of n (e ∷ [])) c.loop-entry.invariant.same ∙ sym f.1;
    }

pub returns-in_default : goal.returns-in_default
returns-in_default c =
    let n = c.args.number in
    let es = c.args.entries.now in
    let i = c.loop-entry.entry-index in
    let e = c.entry-item.result in
    let before = take i es in
    let more : take (i + 1) es ≡ before ++ e ∷ [] = take_more es i e (omega arith) ∙ ap (λ x. before ++ x ∷ []) (sym c.entry-item.is) in
    let with : own_of n (take (i + 1) es) ≡ map (owed_entry n) (take c.loop-entry.count c.args.owed.now) ++ own_of n (e ∷ []) =
    one_more n before _ e more ∙ ap (λ l. l ++ own_of n (e ∷ [])) c.loop-entry.invariant.same in
    let split : own_of n (take (i + 1) es) ++ own_of n (drop (i + 1) es) ≡ own_of n es =
    sym (own_of-append n (take (i + 1) es) (drop (i + 1) es)) ∙ ap (own_of n) (take-append-drop (i + 1) es) in
    (λ h. absurd (cc h), λ equal. absurd (c.in_default.ensures (own_of n (drop (i + 1) es), ap (λ l. l ++ own_of n (drop (i + 1) es)) (sym with) ∙ split ∙ equal)))
