-- The sizes of the tables that the program plays on.
pub mod Sizes
