pub mod Table
pub mod Sums
