use Rattle.std.proofs.Common.{◌≡◌, ◌∙◌, List, [], ap, sym, subst}
use Rattle.model.specs.declared.entry.Entry.{Entry}
use Rattle.node.specs.Pass.{Pass}
use Rattle.server.specs.inside.Brought.{AreBrought, Index}
use Rattle.server.proofs.Brought.{begins_all, read_from}
use Rattle.server.proofs.blocks.Blocks.catch_up.Goals as goal

pub returns-clause-looked : goal.returns-clause-looked
returns-clause-looked g c =
    let p : Pass = c.args.seat.now in
    let heard : Pass = c.tell.new.seat in
    let m : Pass = c.getbestblockhash.new.self in
    let q : Pass = c.journal.new.self in
    let read = c.in_ok-best.ensures.answer in
    let seen : c.add_all.new.self.seen ≡ m.seen = c.in_ok-add_all.ensures.0 ∙ ap (λ (i : Index). i.seen) c.set_note.ensures ∙ c.note-note.ensures.seen in
    record {
      moment = m;
      after = begins_all p.seen heard.seen m.seen c.tell.ensures.later.grows c.getbestblockhash.ensures.later.grows;
      before = c.journal.ensures.later.grows;
      best_is = read_from p heard m c.in_ok-best.best.at c.in_ok-best.best.value c.tell.ensures.later.origin c.tell.ensures.mine c.tell.ensures.wants read;
      blocks_are = subst (λ (l : List Entry). AreBrought [] l c.add_all.new.self.blocks) seen c.in_ok-add_all.ensures.1;
      mine_is = c.in_ok-found.ensures.answer.mine_is ∙ read.mine_is ∙ c.tell.ensures.mine;
    }
