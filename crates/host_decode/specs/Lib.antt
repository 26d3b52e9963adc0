pub mod DecodeReports
