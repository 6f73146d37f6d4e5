pub mod Bit
pub mod Masks
pub mod Values
pub mod Strides
pub mod Back
pub mod Filling
