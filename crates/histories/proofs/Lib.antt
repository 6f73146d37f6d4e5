pub mod Checks
pub mod Sessions
pub mod Sent
pub mod Opened
pub mod Whole
