pub mod Filling
pub mod Clocks
