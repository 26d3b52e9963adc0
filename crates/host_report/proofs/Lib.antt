pub mod ReportWrites
