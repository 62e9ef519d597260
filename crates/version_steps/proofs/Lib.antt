-- What the functions over version structs answer is what a delivered request does.
pub mod Station
