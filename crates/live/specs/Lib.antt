pub mod Window
pub mod Calls
pub mod Pushes
pub mod Passes
