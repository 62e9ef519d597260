-- What the proofs of the check of links cite; nobody needs to believe it.
pub mod Kinds
