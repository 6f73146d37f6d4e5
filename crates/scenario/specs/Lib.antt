pub mod Grammar
pub mod Messages
pub mod Says
