pub mod LineLaws
pub mod RunOutput
pub mod Shown
pub mod Turns
