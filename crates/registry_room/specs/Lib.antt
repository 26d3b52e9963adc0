pub mod NextStates
