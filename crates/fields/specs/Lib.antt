-- Bits says what a field is, bit by bit; Parts says it byte by byte, as the code goes. These two are what a reader must believe:
-- ByBytes proves them the same, Worked follows fields of a frame, and the rest are laws.
pub mod Bits
pub mod Parts
pub mod Asked
pub mod BitLaws
pub mod FieldLaws
pub mod PartLaws
pub mod ByBytes
pub mod Cases
pub mod Worked
