-- The rules of the steps, in document 01's order. These definitions say what is right; the crates above are proved equal to them.
pub mod Answer
pub mod Answers
pub mod AnswersLaws
pub mod Words
pub mod WordsLaws
pub mod Common
pub mod Open
pub mod Begin
pub mod Request
pub mod Choice
pub mod Reply
pub mod Loss
pub mod Results
pub mod ResultLaws
pub mod Examples
