use Rattle.std.proofs.Common.{rules, ◌<◌, length, refl}
use Rattle.std.proofs.lemmas.Option.{slice_get_read}
use Rattle.queue.proofs.Pairs.{covers_next}
use Rattle.queue.proofs.verdict_index.Index.new.Goals as goal

pub loop-list-preserved : goal.loop-list-preserved
loop-list-preserved c =
    let verdicts = c.args.verdicts.now in
    let list = c.loop-list.list in
    let within : list < length verdicts = search rules in
    covers_next verdicts c.loop-list.slots.entries c.add_slots.new.slots.entries list c.index-verdicts-list.result (slice_get_read verdicts (length verdicts) list c.index-verdicts-list.result refl within c.index-verdicts-list.is)
    c.in_ok-add_slots.ensures.own c.in_ok-add_slots.ensures.others c.loop-list.invariant
