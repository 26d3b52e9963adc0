pub mod LentLedger
