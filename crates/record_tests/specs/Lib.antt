-- The tests of a record of the register.
pub mod Records
