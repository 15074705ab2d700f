pub mod Padding
pub mod Edging
pub mod Standing
pub mod Given
