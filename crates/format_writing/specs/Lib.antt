-- From values to bytes: Writing says what is right, by the format; the rest follows from it.
pub mod Wrote
pub mod Writing
pub mod Results
pub mod Laying
pub mod Packing
