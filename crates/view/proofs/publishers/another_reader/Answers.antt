use Rattle.view.proofs.Turns.{admits}
use Rattle.view.proofs.publishers.another_reader.Goals as goal

pub reader-requires : goal.reader-requires
reader-requires g c = admits _
