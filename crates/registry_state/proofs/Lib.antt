pub use Rattle.registry_bytes.proofs.HeadWrites
pub mod StateLoops
pub mod CodesState
pub mod StickyState
