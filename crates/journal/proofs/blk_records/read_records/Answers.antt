use Rattle.std.proofs.Common.{◌≡◌, [], ◌∷◌, ◌++◌, map, subst, sym, ap, ◌∙◌, rules, true, Bool}
use Rattle.std.specs.Bool.{if◌then◌else◌}
use Rattle.std.specs.Result.{is_ok}
use Rattle.std.proofs.lemmas.List.{map-append}
use Rattle.journal.proofs.Given.{HasGiven, one_more, refused_at}
use Rattle.journal.proofs.blk_records.read_records.Goals as goal

pub returns-in_err-record-clause-refused : goal.returns-in_err-record-clause-refused
returns-in_err-record-clause-refused c =
    let given = c.loop-records.invariant in
    let refused = refused_at 0 c.args.bytes.now _ c.loop-records.reader _ given (c.in_err-record.ensures.refused given.reading) in
    search (rules, refused)

pub loop-records-preserved : goal.loop-records-preserved
loop-records-preserved c =
    let block = rw c.in-Some.is at c.in_ok-record.ensures.block in
    let pushed : is_ok c.push.result ≡ true = search rules in
    let items = ap (λ (b : Bool). if b then (c.loop-records.records.items ++ c.in-Some.record ∷ []) else c.loop-records.records.items) pushed in
    subst (λ blocks. HasGiven 0 c.args.bytes.now blocks c.next.new.self)
    (sym (ap (map (λ block. block.items)) (c.push.ensures.items ∙ items) ∙ map-append (λ block. block.items) c.loop-records.records.items (c.in-Some.record ∷ [])))
    (one_more 0 c.args.bytes.now _ c.in-Some.record.items c.loop-records.reader c.next.new.self c.loop-records.invariant block.0 block.1 block.2)
