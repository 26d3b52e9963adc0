pub use Rattle.cesr_sn.specs.Numbers
pub mod Dispositions
