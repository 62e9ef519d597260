-- A table of version records: what is done with it, and when it says the same as the core's slices.
pub mod Reading
pub mod Table
pub mod Cases
pub mod Core
