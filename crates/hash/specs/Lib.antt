pub mod Double
pub mod Id
pub mod KeyHash
pub mod inside
pub use Rattle.hex.specs.Hex
pub use Rattle.sha2.specs.Hashers
pub use Rattle.sha2.specs.Sha256
pub use Rattle.ripemd.specs.Ripemd160
