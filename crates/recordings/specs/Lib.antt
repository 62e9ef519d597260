-- Recordings compared. Recording and Comparing say what is right, in document 02's words, and Claim says it again without the way it is
-- computed; ClaimLaws proves the claim, HeaderLaws that each frame is of one of the links, and the rest are laws that the code meets.
pub mod Recording
pub mod Place
pub mod Compared
pub mod Comparing
pub mod Results
pub mod Claim
pub mod ReadableLaws
pub mod HeaderLaws
pub mod Whole
pub mod Following
pub mod SameLaws
pub mod LinkLaws
pub mod ClaimLaws
pub mod Examples
