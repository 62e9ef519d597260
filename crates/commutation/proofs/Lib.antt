-- What rests on the definitions of specs/, and is cited no further there.
pub mod Accepted
pub mod Delivered
pub mod Local
pub mod Machines
pub mod Needed
pub mod Outcome
pub mod Theorem
