-- The causes of a refusal, and their numbers.
pub mod Numbers
pub mod NumberLaws
