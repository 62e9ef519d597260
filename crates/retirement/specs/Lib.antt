-- Method A is retired: on its tables nothing new begins. To believe: Claim; to see that it means it: Crossing, a run of method A by the
-- former rules and what today's answer on its tables, and Wrong, what it refutes. The rest is the proof, and `Theorem` has the one
-- theorem, `Retired play`.
pub mod Claim
pub mod Crossing
pub mod Wrong
pub mod Unmoved
pub mod Theorem
