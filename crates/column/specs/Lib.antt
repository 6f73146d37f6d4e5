pub mod Columns
pub mod Bounds
pub mod Scans
pub mod Held
