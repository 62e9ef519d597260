-- What rests on the definitions of specs/, and is cited no further there.
pub mod Machines
pub mod Seen
pub mod Sorts
pub mod Theorem
