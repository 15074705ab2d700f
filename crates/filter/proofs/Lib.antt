pub mod CallLaws
pub mod Groups
pub mod Guarantees
pub mod JobLaws
pub mod Order
