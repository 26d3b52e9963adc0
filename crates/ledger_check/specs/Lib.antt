pub mod RowsHeld
