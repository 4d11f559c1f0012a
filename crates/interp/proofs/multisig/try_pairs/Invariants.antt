use Rattle.std.proofs.Common.{◌≡◌, ◌≤◌, length, drop, IfSome}
use Rattle.std.specs.List.{concat}
use Rattle.script.specs.Removal.{bytes_of}
use Rattle.interp.specs.Running.{digest_with}
use Rattle.interp.specs.inside.RunningContext.{value_of, running_of}
use Rattle.interp.specs.Signatures.{type_of}
use Rattle.interp.specs.Stack.{nth}
use Rattle.interp.specs.computed.Signatures.{pairs_verdict}
use Rattle.interp.proofs.multisig.try_pairs.Given as goal

-- the signatures and keys that are left come to what all come to, and what the first signature signs is right
abbrev pub invariant-loop-place : goal.invariant-loop-place
invariant-loop-place g l = record {
  same : pairs_verdict (g.K.KnowsSignatures.known l.known) (running_of l.running) (concat (bytes_of l.code)) (bytes_of l.signatures) (bytes_of l.keys)
      ≡ pairs_verdict (g.K.KnowsSignatures.known l.known) (running_of l.running) (concat (bytes_of l.code)) (drop l.used (bytes_of l.signatures)) (drop l.place (bytes_of l.keys));
  within : l.used ≤ length l.signatures;
  right : IfSome l.signed (λ digest. digest ≡ digest_with (value_of l.running) l.running.tx.now l.running.input (concat (bytes_of l.code)) (type_of (nth (bytes_of l.signatures) l.used)));
}
