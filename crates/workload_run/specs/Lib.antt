-- The load played on lent tables, and the list of its steps.
pub mod Load
pub mod Results
pub mod Run
pub mod RunLaws
pub mod Cases
pub mod Claim
pub mod ClaimLaws
