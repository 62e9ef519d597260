-- The load in print. To believe: Asked, Given, Claim; the others hold laws.
pub mod Asked
pub mod AskedLaws
pub mod Given
pub mod GivenLaws
pub mod TurnLaws
pub mod FitLaws
pub mod Claim
pub mod ClaimLaws
pub mod Examples
