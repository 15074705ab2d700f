pub mod Layout
pub mod Fields
pub mod Record
pub mod Reading
