-- What rests on the definitions of specs/, and is cited no further there.
pub mod Answers
pub mod Turns
pub mod TurnsMade
