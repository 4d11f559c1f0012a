use Rattle.std.proofs.Common.{◌≡◌, ◌∙◌, ◌++◌, ◌∷◌, Some, sym, ap, subst, rules, arith}
use Rattle.std.specs.Prelude.{MatchOption}
use Rattle.std.proofs.lemmas.Option.{same_Some, none-some}
use Rattle.std.proofs.lemmas.Str.Pattern.{split_parts}
use Rattle.rules.specs.declared.params.Params.{Params}
use Rattle.journal.specs.inside.HeightSets.{AreSets}
use Rattle.journal.proofs.Parts.{Lacks, Split}
use Rattle.journal.proofs.Sets.{more, first, alone}
use Rattle.journal.proofs.heights.set_each.Goals as goal

pub returns-in_err-params-clause-reads : goal.returns-in_err-params-clause-reads
returns-in_err-params-clause-reads c after sets =
    let one = first c.loop-front.rest.now c.in-Some.front c.in-Some.behind c.split_once.result c.loop-front.params after c.split_once.ensures.cases c.in-Some.is (c.loop-front.invariant.again after sets) in
    absurd (none-some _ (c.in_err-params.ensures.reads one.0 one.1 one.2))

pub loop-front-preserved : goal.loop-front-preserved
loop-front-preserved c =
    let at = subst (λ (o : Split). MatchOption o (Lacks 44 c.loop-front.rest.now) (λ x. (c.loop-front.rest.now ≡ x.0.now ++ (44 ∷ x.1.now)) × Lacks 44 x.0.now)) c.in-Some.is (split_parts 44 c.loop-front.rest.now c.split_once.result c.split_once.ensures.cases (omega arith)) in
    let set = c.in_ok-params.ensures.spelled in
    record {
      rest = search rules;
      sound = λ after sets. c.loop-front.invariant.sound after
          (more c.loop-front.rest.now c.in-Some.front.now c.in-Some.behind.now c.loop-front.params after set.0 set.1 at.0 set.2 (subst (λ (p : Params). AreSets c.in-Some.behind.now p after) (sym set.3) sets));
      again = λ after sets.
          let one = first c.loop-front.rest.now c.in-Some.front c.in-Some.behind c.split_once.result c.loop-front.params after c.split_once.ensures.cases c.in-Some.is (c.loop-front.invariant.again after sets) in
          subst (λ (p : Params). AreSets c.in-Some.behind.now p after) (sym (same_Some c.in_ok-params.params _ (c.in_ok-params.ensures.reads one.0 one.1 one.2))) one.3;
    }

pub returns-clause-reads : goal.returns-clause-reads
returns-clause-reads c after sets =
    let one = alone c.loop-front.rest.now c.loop-front.params after c.split_once.result c.split_once.ensures.cases c.in_default.is (c.loop-front.invariant.again after sets) in
    c.set_one-2.ensures.reads one.0 one.1 one.2 ∙ ap Some one.3
