pub mod TextLaws
pub mod Drifts
pub mod Lengths
pub mod WordLaws
