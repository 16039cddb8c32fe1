pub mod Interface
pub mod Replies
pub mod Laws
