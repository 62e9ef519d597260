-- The layout of the lent tables. Each table is one list of words in rows of a fixed width; no crate above computes an index.
pub mod Rows
pub mod Layout
pub mod Links
pub mod LinkLaws
pub mod Entries
pub mod Tables
pub mod Values
pub mod Lent
