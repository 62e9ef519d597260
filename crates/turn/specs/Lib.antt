-- A turn of the program that plays a text. To believe: Turned; the others hold laws.
pub mod Turned
pub mod Answers
pub mod Turns
