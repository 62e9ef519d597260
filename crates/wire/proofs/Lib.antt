-- What rests on the definitions of specs/, and is cited no further there.
pub mod Always
pub mod Answers
pub mod Trip
