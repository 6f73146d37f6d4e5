pub mod Frames
pub mod Sessions
pub mod Senders
pub mod Receivers
