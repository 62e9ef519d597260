-- What the replies of a READ by A or B rely on, and their cases.
pub mod Ready
pub mod Cases
