pub mod Polynomials
pub mod Registers
pub mod Words
