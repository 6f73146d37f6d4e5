pub mod Answers
pub mod Named
pub mod Replies
pub mod Texts
pub mod Uses
