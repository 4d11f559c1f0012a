use Rattle.std.proofs.Common.{◌≡◌, ◌∙◌, List, ℕ, Some, ap, subst, sym, ◌++◌, ◌∷◌, arith}
use Rattle.std.specs.List.{join_with_byte}
use Rattle.std.specs.Prelude.{MatchOption}
use Rattle.std.proofs.lemmas.Option.{same_Some, none-some}
use Rattle.std.proofs.lemmas.Str.Pattern.{split_parts}
use Rattle.rules.specs.declared.params.Params.{Params}
use Rattle.rules.specs.Params.{of_heights}
use Rattle.journal.specs.Heights.{Sets, IsSpelling}
use Rattle.journal.specs.inside.HeightSets.{AreSets}
use Rattle.journal.proofs.Parts.{Lacks, Split}
use Rattle.journal.proofs.Spelled.{front-of, spelled-alone, spelled-more, ends, goes-on, same-heights, if-some}
use Rattle.journal.proofs.heights.read_heights.Goals as goal

pub returns-in_default-clause-spelled : goal.returns-in_default-clause-spelled
returns-in_default-clause-spelled c =
    subst (IsSpelling c.args.word.now) (sym c.of_heights.ensures)
    (spelled-alone _ _ _ _ _ _ (front-of _ _ _ _ _ _ _ c.in_ok-bip34.ensures.spelled c.in_ok-bip65.ensures.spelled c.in_ok-bip66.ensures.spelled) c.in_ok-csv.ensures.spelled)

pub returns-in_err-csv-clause-reads : goal.returns-in_err-csv-clause-reads
returns-in_err-csv-clause-reads c heights s =
    let one = c.in_ok-bip34.ensures.reads s.first (join_with_byte 44 (s.second ∷ s.third ∷ s.fourth ∷ s.others)) s.bip34 s.word_is s.first_is in
    let two = c.in_ok-bip65.ensures.reads s.second (join_with_byte 44 (s.third ∷ s.fourth ∷ s.others)) s.bip65 one.1 s.second_is in
    let three = c.in_ok-bip66.ensures.reads s.third (join_with_byte 44 (s.fourth ∷ s.others)) s.bip66 two.1 s.third_is in
    let end = ends c.in_ok-bip66.rest.now s.fourth s.others s.csv c.split_once.result c.split_once.ensures.cases c.in_default.is three.1 s.fourth_is in
    absurd (none-some s.csv (c.in_err-csv.ensures.reads s.csv end.1))

pub returns-in_default-clause-reads : goal.returns-in_default-clause-reads
returns-in_default-clause-reads c heights s =
    let one = c.in_ok-bip34.ensures.reads s.first (join_with_byte 44 (s.second ∷ s.third ∷ s.fourth ∷ s.others)) s.bip34 s.word_is s.first_is in
    let two = c.in_ok-bip65.ensures.reads s.second (join_with_byte 44 (s.third ∷ s.fourth ∷ s.others)) s.bip65 one.1 s.second_is in
    let three = c.in_ok-bip66.ensures.reads s.third (join_with_byte 44 (s.fourth ∷ s.others)) s.bip66 two.1 s.third_is in
    let end = ends c.in_ok-bip66.rest.now s.fourth s.others s.csv c.split_once.result c.split_once.ensures.cases c.in_default.is three.1 s.fourth_is in
    let csv : c.in_ok-csv.csv ≡ s.csv = same_Some c.in_ok-csv.csv s.csv (c.in_ok-csv.ensures.reads s.csv end.1) in
    let last : of_heights s.bip34 s.bip65 s.bip66 s.csv ≡ heights = subst (λ (os : List (List ℕ)). Sets os (of_heights s.bip34 s.bip65 s.bip66 s.csv) heights) end.0 s.sets in
    ap Some (c.of_heights.ensures ∙ same-heights _ _ _ _ s.bip34 s.bip65 s.bip66 s.csv one.0 two.0 three.0 csv ∙ last)

pub returns-in_err-csv-2-clause-reads : goal.returns-in_err-csv-2-clause-reads
returns-in_err-csv-2-clause-reads c heights s =
    let one = c.in_ok-bip34.ensures.reads s.first (join_with_byte 44 (s.second ∷ s.third ∷ s.fourth ∷ s.others)) s.bip34 s.word_is s.first_is in
    let two = c.in_ok-bip65.ensures.reads s.second (join_with_byte 44 (s.third ∷ s.fourth ∷ s.others)) s.bip65 one.1 s.second_is in
    let three = c.in_ok-bip66.ensures.reads s.third (join_with_byte 44 (s.fourth ∷ s.others)) s.bip66 two.1 s.third_is in
    let on = goes-on c.in_ok-bip66.rest.now s.fourth s.others s.csv c.in-Some.csv c.in-Some.others c.split_once.result (of_heights s.bip34 s.bip65 s.bip66 s.csv) heights c.split_once.ensures.cases c.in-Some.is three.1 s.fourth_is s.sets in
    absurd (none-some s.csv (c.in_err-csv-2.ensures.reads s.csv on.0))

pub returns-clause-spelled : goal.returns-clause-spelled
returns-clause-spelled c =
    let at = subst (λ (o : Split). MatchOption o (Lacks 44 c.in_ok-bip66.rest.now) (λ x. (c.in_ok-bip66.rest.now ≡ x.0.now ++ (44 ∷ x.1.now)) × Lacks 44 x.0.now)) c.in-Some.is (split_parts 44 c.in_ok-bip66.rest.now c.split_once.result c.split_once.ensures.cases (omega arith)) in
    if-some (AreSets c.in-Some.others.now c.of_heights-2.result) (IsSpelling c.args.word.now) c.set_each.result
    (λ after sets.
    spelled-more _ _ c.in-Some.csv.now c.in-Some.others.now _ _ _ _ after
    (front-of _ _ _ _ _ _ _ c.in_ok-bip34.ensures.spelled c.in_ok-bip65.ensures.spelled c.in_ok-bip66.ensures.spelled) at.0 c.in_ok-csv-2.ensures.spelled
    (subst (λ (p : Params). AreSets c.in-Some.others.now p after) c.of_heights-2.ensures sets)) c.set_each.ensures.spelled

pub returns-clause-reads : goal.returns-clause-reads
returns-clause-reads c heights s =
    let one = c.in_ok-bip34.ensures.reads s.first (join_with_byte 44 (s.second ∷ s.third ∷ s.fourth ∷ s.others)) s.bip34 s.word_is s.first_is in
    let two = c.in_ok-bip65.ensures.reads s.second (join_with_byte 44 (s.third ∷ s.fourth ∷ s.others)) s.bip65 one.1 s.second_is in
    let three = c.in_ok-bip66.ensures.reads s.third (join_with_byte 44 (s.fourth ∷ s.others)) s.bip66 two.1 s.third_is in
    let on = goes-on c.in_ok-bip66.rest.now s.fourth s.others s.csv c.in-Some.csv c.in-Some.others c.split_once.result (of_heights s.bip34 s.bip65 s.bip66 s.csv) heights c.split_once.ensures.cases c.in-Some.is three.1 s.fourth_is s.sets in
    let csv : c.in_ok-csv-2.csv ≡ s.csv = same_Some c.in_ok-csv-2.csv s.csv (c.in_ok-csv-2.ensures.reads s.csv on.0) in
    c.set_each.ensures.reads heights
    (subst (λ (p : Params). AreSets c.in-Some.others.now p heights) (sym (c.of_heights-2.ensures ∙ same-heights _ _ _ _ s.bip34 s.bip65 s.bip66 s.csv one.0 two.0 three.0 csv)) on.1)
