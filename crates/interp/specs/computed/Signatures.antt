-- Whether signatures are valid, by what is known.
use Rattle.std.specs.Prelude.{ℕ, ◌==◌, List, [], ◌∷◌, length, Bool, true, false, not, ◌||◌, nat_lt, Option, Some, None, if◌then◌else◌}
use Rattle.signatures.specs.computed.Shape.{is_strict}
use Rattle.signatures.specs.Known.{Known}
use Rattle.signatures.specs.Triple.{Triple, triple_of}
use Rattle.interp.specs.Answer.{Answer, Says, Wants, answer_map, and_then}
use Rattle.interp.specs.Running.{Running, digest_with}
use Rattle.interp.specs.Signatures.{signature_proper, type_of}
use Rattle.interp.specs.Stack.{Bytes}
use Rattle.interp.specs.declared.flags.Flags.{Flags}

-- a signature is strictly encoded or empty, or that rule is out of force
unfoldable pub may_be_tried : Flags → Bytes → Bool
may_be_tried flags signature = not flags.dersig || is_strict signature

-- the element more that CHECKMULTISIG takes is empty, or that rule is out of force (BIP 147)
unfoldable pub may_be_dummy : Flags → Bytes → Bool
may_be_dummy flags dummy = length dummy == 0 || not flags.nulldummy

-- the verdict on a triple, or else it is wanted
abbrev pub verdict_or_wanted : Option Bool → Triple → Answer Bool
verdict_or_wanted (Some valid) t = Says valid
verdict_or_wanted None t = Wants t

-- what is asked of a signature that isn't empty: whether it is valid for this key, over the digest of its type
abbrev pub triple_for : Running → List ℕ → Bytes → Bytes → Triple
triple_for r code signature key = triple_of key (signature_proper signature) (digest_with r.value r.tx r.input code (type_of signature))

-- whether a pair is valid, where the signature may be tried
unfoldable pub pair_verdict : Known → Running → List ℕ → Bytes → Bytes → Answer (Option Bool)
pair_verdict known r code signature key =
    if may_be_tried r.flags signature
    then (if length signature == 0 then Says (Some false) else answer_map Some (verdict_or_wanted (known (triple_for r code signature key)) (triple_for r code signature key)))
    else Says None

-- pairs from the top down: a valid one uses up both, another the key alone
unfoldable pub pairs_verdict : Known → Running → List ℕ → List Bytes → List Bytes → Answer (Option Bool)
pairs_verdict known r code [] keys = Says (Some true)
pairs_verdict known r code (signature ∷ signatures) [] = Says (Some false)
pairs_verdict known r code (signature ∷ signatures) (key ∷ keys) =
    if nat_lt (length keys) (length signatures) then Says (Some false)
    else and_then (λ valid. if valid then pairs_verdict known r code signatures keys else pairs_verdict known r code (signature ∷ signatures) keys) (pair_verdict known r code signature key)
