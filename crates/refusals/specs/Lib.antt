-- The refusals in their order, and the seven public steps as definitions.
pub mod Refusals
pub mod Order
pub mod Steps
pub mod Former
pub mod Either
pub mod Cases
pub mod Examples
