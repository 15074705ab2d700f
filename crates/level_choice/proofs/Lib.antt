pub mod Outward
pub mod Count
