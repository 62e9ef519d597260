-- What C's choice relies on, the values that it takes, and the cases of it.
pub mod Values
pub mod Ready
pub mod Cases
