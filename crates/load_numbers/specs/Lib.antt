-- The load's answers as numbers.
pub mod Numbers
