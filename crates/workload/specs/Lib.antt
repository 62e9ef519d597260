-- The load: which step it gives next, and what makes a step acceptable.
pub mod Passing
pub mod Next
pub mod Results
pub mod Load
pub mod Examples
pub mod PassingLaws
pub mod Accepts
pub mod AcceptLaws
pub mod Ready
pub mod ReadyLaws
pub mod Cases
pub mod Claim
pub mod ClaimLaws
