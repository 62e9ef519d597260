-- What the replies of a WRITE rely on, and their cases.
pub mod Ready
pub mod Cases
