pub mod ThresholdReports
