pub use Rattle.registry_head.specs.HeadBytes
pub mod StateBytes
