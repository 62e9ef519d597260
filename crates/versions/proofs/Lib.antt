pub mod Steps
pub mod Plain
pub mod Shared
pub mod Lent
