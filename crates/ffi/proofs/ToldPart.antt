-- What is reported about a part at the front of bytes that have one.
use Rattle.std.proofs.Common.{◌≡◌, ℕ, List, Result, Ok, inl}
use Rattle.wire.specs.declared.fault.WireFault.{WireFault}
use Rattle.ffi.specs.Refusals.{IsTold}

pub told_at : {X : Type 0} (r : Result (X × List ℕ) WireFault) (x : X) (rest : List ℕ) (told : X → Type 0) (kept : Type 0) (result : ℕ) → r ≡ Ok (x, rest) → told x → IsTold r told kept result
told_at r x rest told kept result is here = rw is (inl here)
