pub mod Bearers
pub mod Tags
pub mod TagsLaws
