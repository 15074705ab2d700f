pub mod Lowest
pub mod Memory
pub mod Passes
pub mod Signed
