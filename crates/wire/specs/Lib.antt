-- What a link holds as a message on the wire, and what writing its frame answers and leaves.
pub mod OnLink
pub mod Sending
pub mod Writable
pub mod Known
pub mod Always
pub mod Ready
pub mod Cases
pub mod Answers
pub mod Trip
pub mod Examples
pub mod Kinds
