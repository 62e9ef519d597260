pub mod Log
pub mod LogLaws
pub mod Latest
pub mod LatestLaws
pub mod Cards
