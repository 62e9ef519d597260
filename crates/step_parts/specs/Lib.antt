-- What the functions that several steps call rely on and leave, with its laws.
pub mod Filled
pub mod Waiting
