pub mod Bits
pub mod Refusals
pub mod Ciphers
