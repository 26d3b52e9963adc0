pub mod Answered
pub mod EffectLaws
pub mod Fits
pub mod Made
pub mod Reached
pub mod Stepped
