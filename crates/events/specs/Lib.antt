pub use Rattle.cesr.specs.Number
pub use Rattle.cesr.specs.Primitives
pub mod Members
