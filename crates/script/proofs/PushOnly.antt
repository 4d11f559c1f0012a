use Rattle.std.proofs.Common.{◌≡◌, ℕ, ◌<◌, ◌≤◌, ◌==◌, List, [], ◌∷◌, ◌++◌, false, length, refl}
use borrow.Author.Tests.{lt-leb, le-leb}
use Rattle.script.specs.Op.{number_of}
use Rattle.script.specs.Ops.{ops}
use Rattle.script.specs.Kinds.{is_push_only}
use Rattle.script.specs.laws.Ops.{rest-more, rest-none}

-- an opcode above OP_16 at the front
pub push_only-above : (bytes op more : List ℕ) → ops bytes ≡ op ∷ ops more → 96 < number_of op → is_push_only bytes ≡ false
unfolding is_push_only
push_only-above bytes op more e h = rw (e, lt-leb (number_of op) 96 h) refl

-- another one there
pub push_only-more : (bytes op more : List ℕ) → ops bytes ≡ op ∷ ops more → bytes ≡ op ++ more → number_of op ≤ 96 → is_push_only more ≡ is_push_only bytes
unfolding is_push_only
push_only-more bytes op more e w h = rw (rest-more bytes op more e w, e, le-leb (number_of op) 96 h) refl

-- none
pub push_only-end : (bytes : List ℕ) → ops bytes ≡ [] → is_push_only bytes ≡ (length bytes == 0)
unfolding is_push_only
push_only-end bytes e = rw (rest-none bytes e, e) refl
