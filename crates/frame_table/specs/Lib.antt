-- The table of frames by kind. Table says what is right, in document 01's words; the rest follows from it.
pub mod Table
pub mod Columns
pub mod TableLaws
pub mod Entry
