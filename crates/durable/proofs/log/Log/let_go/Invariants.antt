use Rattle.std.proofs.Common.{◌≡◌, ◌++◌, take}
use Rattle.durable.specs.KeptSteps.{told, KeepsBetween}
use Rattle.durable.specs.Log.{history, as_told, IsSound}
use Rattle.durable.proofs.log.Log.let_go.Given as goal

abbrev pub invariant-loop-place : goal.invariant-loop-place
invariant-loop-place g l = record {
  sound : IsSound g.H.Host.calls l.self;
  same : history g.H.Host.calls l.self ≡ history g.H.Host.calls l.fn.self;
  durable : l.self.durable ≡ l.fn.self.durable;
  went : told (g.H.Host.calls l.self.host) ≡ told (g.H.Host.calls l.fn.self.host) ++ as_told (take l.place l.answers);
  any_moment : KeepsBetween (history g.H.Host.calls l.fn.self) (g.H.Host.calls l.fn.self.host) (g.H.Host.calls l.self.host);
}
