-- The file of a recording. File says what is right; FileLaws has the cases as the code meets them.
pub mod File
pub mod FileLaws
