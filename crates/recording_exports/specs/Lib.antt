-- What comparing answers, as a number.
pub mod Numbers
pub mod NumberLaws
