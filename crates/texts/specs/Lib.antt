pub mod Dump
pub mod Hex
pub mod Names
pub mod Words
