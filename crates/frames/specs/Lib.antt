-- Messages on the wire. Messages, Entries and Frames say what is right, in document 01's words; Vectors and the theorems of RoundTrip follow from them.
pub mod Messages
pub mod Entries
pub mod Reading
pub mod Written
pub mod Frames
pub mod Results
pub mod Vectors
pub mod MessageLaws
pub mod Good
pub mod RoundTrip
pub mod Answers
pub mod Meanings
pub mod MeaningLaws
