pub mod CarryLines
pub mod Listed
pub mod Passes
pub mod Planes
pub mod Sums
