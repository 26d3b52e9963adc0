pub mod LentTables
