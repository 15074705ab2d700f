pub mod Walk
pub mod Count
