pub mod EachPlus
