pub mod ReportValues
