pub mod Family
pub mod Grain128
pub mod Grain128a
