-- Rows laid in a lent list.
pub mod Rows
