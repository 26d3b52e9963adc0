pub use Rattle.cesr_number.specs.Words
pub use Rattle.cesr.specs.Primitives
pub use Rattle.cesr_sn.specs.Numbers
pub mod Readers
