pub mod Texts
pub mod Judgement
