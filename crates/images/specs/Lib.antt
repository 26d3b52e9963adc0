pub mod Judgement
pub mod Counting
