pub mod SealSections
