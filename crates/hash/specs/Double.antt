-- Bitcoin's hash.
use Rattle.std.specs.Prelude.{ℕ, List}
use Rattle.sha2.specs.Sha256.{sha256}

-- SHA-256 of the SHA-256 of a message
abbrev pub double_sha : List ℕ → List ℕ
double_sha message = sha256 (sha256 message)
