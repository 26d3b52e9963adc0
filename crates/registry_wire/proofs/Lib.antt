pub mod AttemptLaws
pub mod AnchorLaws
pub mod CodesAttempt
pub mod StickyAttempt
pub mod DecodedLaws
