pub mod Strips
pub mod Bounds
pub mod Memories
pub mod Places
