pub mod Sprout
