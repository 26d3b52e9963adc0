pub mod LedgerCalls
