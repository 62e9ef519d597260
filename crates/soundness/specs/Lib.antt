-- Sound tables: `Sound` is the definition, condition by condition. The other files serve the check of it, and no reader needs to believe them:
-- runs of conditions that one function decides, what a function asks before it reads, and laws that the proofs cite. `Room` serves whoever has sound tables.
pub mod Sound
pub mod Facts
pub mod Balance
pub mod Parts
pub mod KeyParts
pub mod Asked
pub mod Loops
pub mod Room
