use Rattle.std.proofs.Common.{◌≡◌, ℕ, List}
use Rattle.hash.specs.declared.id.Id.{Id}
use Rattle.lanes.proofs.Cases.{below_8}
use Rattle.lanes.proofs.digests.digests.Goals as goal

as_id : {x y : List ℕ} → x ≡ y → (d : Id) → ◌≡◌ {A = Id} (record { 0 = x }) (record { 0 = y })
as_id e d = λ i. record { 0 = e i }

pub returns : goal.returns
returns c = below_8 _ (as_id c.digest.ensures) (as_id c.digest-2.ensures) (as_id c.digest-3.ensures) (as_id c.digest-4.ensures) (as_id c.digest-5.ensures) (as_id c.digest-6.ensures) (as_id c.digest-7.ensures) (as_id c.digest-8.ensures)
