pub mod InceptionCalls
pub mod RotationCalls
