use Rattle.std.specs.Prelude.{IfSome}
use Rattle.std.proofs.Common.{◌≡◌, List, inl, refl, sym, ap, subst, ◌∙◌}
use Rattle.signatures.specs.Known.{Known, Agrees}
use Rattle.signatures.specs.Triple.{Triple}
use Rattle.queue.specs.Jobs.{told_by}
use Rattle.activate.specs.CoreState.{CoreState, WithCoins}
use Rattle.activate.specs.Wants.{AreWantedByStep}
use Rattle.model.specs.PreparedCommand.{command_of}
use Rattle.model.specs.Commands.{outcome}
use Rattle.model.specs.declared.command.Command.{Command}
use Rattle.model.specs.declared.reply.Reply.{Reply}
use Rattle.ffi.specs.SessionState.{SessionState, known_of, rules_under, tree_of}
use Rattle.ffi.specs.Signatures.{valid_in, invalid_in, is_by_need}
use Rattle.ffi.specs.declared.signature_sources.Signatures.{Signatures}
use Rattle.ffi.specs.inside.Signatures.{known_in}
use Rattle.ffi.proofs.Sessions.{known-same}
use Rattle.ffi.proofs.session.Session.judge.Goals as goal

-- the session after a step that wants these
abbrev wanting : Signatures → List Triple → WithCoins → SessionState
wanting signatures items chain = record {
  chain = chain;
  triples = valid_in signatures;
  invalid = invalid_in signatures;
  by_need = is_by_need signatures;
  wanted = items;
}

pub returns-in-Ok-judge-clause-reply : goal.returns-in-Ok-judge-clause-reply
returns-in-Ok-judge-clause-reply c triples agrees =
    let knows : Agrees (known_in c.self.inside.signatures) triples = subst (λ (k : Known). Agrees k triples) (ap known_of (sym c.self.view_is) ∙ known-same c.self.inside.signatures c.self.inside.chain c.self.inside.wanted.items) agrees in
    subst (λ (x : SessionState). ◌≡◌ {A = Reply} c.in-Ok-judge.reply (outcome (rules_under x triples) (tree_of x) c.args.command.now).1) c.self.view_is
    (c.in-Ok-judge.ensures.reply triples knows ∙ ap (λ (k : Command). (outcome (rules_under (wanting c.self.inside.signatures c.self.inside.wanted.items c.self.inside.chain) triples) c.self.inside.chain.core.state k).1) c.in-Ok.ensures)

pub returns-clause-refused : goal.returns-clause-refused
returns-clause-refused c =
    let signatures = c.self.inside.signatures in
    let items = c.in-Err-Unknown.unknown.items in
    let chain = c.self.inside.chain in
    let told : AreWantedByStep chain.core c.args.command.now (known_in signatures) items =
    subst (λ k. AreWantedByStep chain.core k (known_in signatures) items) c.in-Ok.ensures
    (subst (λ stop. IfSome (told_by stop) (AreWantedByStep chain.core (command_of c.in-Ok.command) (known_in signatures))) c.in-Err-Unknown.field-0-is c.in-Err-Unknown.ensures.wants) in
    let knows : known_in signatures ≡ known_of c.args.self.now = sym (ap known_of (sym c.self.view_is) ∙ known-same signatures c.self.inside.chain c.self.inside.wanted.items) in
    inl (
      refl,
      record {
        wanted = items;
        after_is = rw c.in-Err-Unknown.field-0-is (ap (λ (x : SessionState). record x { wanted = items }) c.self.view_is);
        asked = subst (λ (x : CoreState). AreWantedByStep x c.args.command.now (known_of c.args.self.now) items) (ap (λ (x : SessionState). x.chain.core) c.self.view_is)
            (subst (λ (k : Known). AreWantedByStep chain.core c.args.command.now k items) knows told);
      },
    )
