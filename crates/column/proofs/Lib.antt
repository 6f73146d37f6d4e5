pub mod Rewriting
pub mod Outcomes
pub mod Scanning
