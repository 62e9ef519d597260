-- What the replies of a READ by C rely on, and their cases.
pub mod Ready
pub mod Cases
