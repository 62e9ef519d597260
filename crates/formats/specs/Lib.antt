-- The format of frames. Grammar, Format and Entries say what is right, in document 01's words; the rest follows from them.
pub mod Grammar
pub mod Format
pub mod Entries
pub mod RoundTrip
pub mod FormatLaws
pub mod EntryLaws
pub mod EntryFields
pub mod Took
pub mod Scan
pub mod Reading
pub mod Results
pub mod Judging
pub mod Tested
pub mod Walk
pub mod Found
