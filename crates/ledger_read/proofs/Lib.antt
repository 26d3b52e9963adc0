pub mod ImageStored
pub mod ReadBack
