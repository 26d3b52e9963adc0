pub mod ApplyLedger
pub mod ReadLedger
