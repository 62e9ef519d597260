-- Document 01's sample, line by line, and what "The yard program" prints for it.
pub mod Sample
pub mod Printed
pub mod Played
