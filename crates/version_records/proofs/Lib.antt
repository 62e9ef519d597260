-- What is done with a table of version records is what the core does on plain slices.
pub mod CoreLaws
