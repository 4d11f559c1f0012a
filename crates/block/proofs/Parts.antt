-- The parts of a header, one after the other.
use Rattle.std.proofs.Common.{◌≡◌, List, ℕ, ◌++◌, refl, ap, ◌∙◌, append_assoc}
use Rattle.byteorder.specs.Endian.{little_bytes}
use Rattle.wire.specs.Numbers.{i32le}
use Rattle.block.specs.declared.header.Header.{Header}
use Rattle.block.specs.Grammar.{header}

-- the bytes of a header's four numbers
pub record Numbers (h : Header) (version time bits nonce : List ℕ) : Type 0 where
  pub version_is : version ≡ i32le h.version
  pub time_is : time ≡ little_bytes 4 h.time
  pub bits_is : bits ≡ little_bytes 4 h.bits
  pub nonce_is : nonce ≡ little_bytes 4 h.nonce

six : (a b c d e f : List ℕ) → ((((a ++ b) ++ c) ++ d) ++ e) ++ f ≡ a ++ (b ++ (c ++ (d ++ (e ++ f))))
six a b c d e f = simp append_assoc

after : (out a b c d e f : List ℕ) → (((((out ++ a) ++ b) ++ c) ++ d) ++ e) ++ f ≡ out ++ (((((a ++ b) ++ c) ++ d) ++ e) ++ f)
after out a b c d e f = simp append_assoc

pub header_of : (h : Header) (version time bits nonce : List ℕ) → Numbers h version time bits nonce → ((((version ++ h.prev.0) ++ h.root.0) ++ time) ++ bits) ++ nonce ≡ header.spell h
header_of h version time bits nonce n = six version h.prev.0 h.root.0 time bits nonce ∙ rw (n.version_is, n.time_is, n.bits_is, n.nonce_is) refl

pub header_after : (out : List ℕ) (h : Header) (version time bits nonce : List ℕ) → Numbers h version time bits nonce → (((((out ++ version) ++ h.prev.0) ++ h.root.0) ++ time) ++ bits) ++ nonce ≡ out ++ header.spell h
header_after out h version time bits nonce n = after out version h.prev.0 h.root.0 time bits nonce ∙ ap (λ (t : List ℕ). out ++ t) (header_of h version time bits nonce n)
