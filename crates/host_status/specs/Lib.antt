pub mod StatusReports
