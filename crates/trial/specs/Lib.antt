pub mod Messages
pub mod Performed
pub mod Plans
pub mod Named
