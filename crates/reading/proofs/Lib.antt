pub mod Carried
pub mod RowWeighing
pub mod Sweeping
