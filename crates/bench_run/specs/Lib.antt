pub mod Noted
pub mod Replies
pub mod Rows
