pub mod SignatureSections
