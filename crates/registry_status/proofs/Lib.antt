pub mod CodesStatus
pub mod Optional
