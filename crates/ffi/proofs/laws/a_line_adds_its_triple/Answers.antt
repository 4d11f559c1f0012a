use Rattle.ffi.proofs.TableLines.{line_adds}
use Rattle.ffi.proofs.laws.a_line_adds_its_triple.Goals as goal

pub returns : goal.returns
returns c = line_adds
