use Rattle.std.proofs.Common.{◌≡◌, ◌+◌, ◌++◌, ◌∷◌, [], refl, rules}
use Rattle.durable.specs.Lines.{IsLine}
use Rattle.durable.proofs.Sound.{pushed, pushed_history}
use Rattle.durable.proofs.log.Log.append.Goals as goal

pub returns-clause-sound : goal.returns-clause-sound
returns-clause-sound g c =
    let is : IsLine c.args.line.items = search rules in
    let more : c.extend_from_slice.new.self.items ≡ c.args.self.now.pending.items ++ (c.args.line.items ++ 10 ∷ []) = search rules in
    let one : c.in-Some.count ≡ c.args.self.now.count + 1 = search rules in
    pushed g.H.Host.calls c.args.self.now c.requires _ c.args.line.items is refl refl one more

pub returns-clause-appended : goal.returns-clause-appended
returns-clause-appended g c =
    let is : IsLine c.args.line.items = search rules in
    let more : c.extend_from_slice.new.self.items ≡ c.args.self.now.pending.items ++ (c.args.line.items ++ 10 ∷ []) = search rules in
    let one : c.in-Some.count ≡ c.args.self.now.count + 1 = search rules in
    pushed_history g.H.Host.calls c.args.self.now c.requires record { host = c.args.self.now.host; durable = c.args.self.now.durable; count = c.in-Some.count; pending = c.extend_from_slice.new.self } c.args.line.items is refl refl one more
