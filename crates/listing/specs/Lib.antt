-- The register's listing and overlap.
pub mod Listed
pub mod Register
pub mod Sample
pub mod Places
pub mod Laid
pub mod Ready
pub mod Lengths
pub mod Cases
pub mod Changes
pub mod ListedLaws
