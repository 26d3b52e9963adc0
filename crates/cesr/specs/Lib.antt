pub use Rattle.cesr_number.specs.First
pub use Rattle.cesr_number.specs.Number
pub mod Primitives
