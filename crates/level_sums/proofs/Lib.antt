pub mod TableLaws
pub mod Running
pub mod ColumnLaws
pub mod Down
pub mod RowSums
