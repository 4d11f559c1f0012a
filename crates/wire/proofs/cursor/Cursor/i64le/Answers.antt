use Rattle.std.proofs.Common.{rules, ◌≡◌, Ok, w64, to_z, of_z}
use Rattle.wire.specs.Grammar.{signed64}
use Rattle.wire.specs.computed.Reader.{i64_at}
use Rattle.wire.specs.laws.Reader.{found_law, signed64_decides}
use Rattle.wire.proofs.cursor.Cursor.i64le.Goals as goal

pub returns-clause-found : goal.returns-clause-found
returns-clause-found c =
    let read : i64_at c.args.self.now ≡ Ok (to_z w64 (of_z w64 c.read_i64.result), c.take.new.self) = search rules in
    found_law signed64 i64_at signed64_decides c.args.self.now (to_z w64 (of_z w64 c.read_i64.result)) c.take.new.self c.rest-front.ensures.bytes read
