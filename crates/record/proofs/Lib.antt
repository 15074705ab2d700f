pub mod RoundTrip
pub mod Stages
pub mod Parsed
