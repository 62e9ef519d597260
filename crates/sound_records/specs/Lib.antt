-- What the check of records counts in one pass, and its laws; nobody needs to believe it.
pub mod Opens
