-- What the proofs of the check of all tables cite; nobody needs to believe it.
pub mod There
