-- What is known of a file that was read.
pub mod Held
