pub mod Packed
pub mod Streams
