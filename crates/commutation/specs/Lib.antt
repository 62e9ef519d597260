-- Two neighbouring accepted requests at different targets may come in either order. To believe: Claim; to see that it means it: Examples,
-- and Needed, where a condition is left out and the claim refuted. The rest is the proof, and `Theorem` has the one theorem,
-- `Swaps play`: a computed test of equal tables, for the examples (Equal), what a request does, as data (Outcome), that two of them may be
-- written in either order (Swap), that each goes by its own target (Local), the law on arbitrary tables (Delivered) and of accepted
-- deliveries on sound ones (Accepted), any machine that delivers so (Machines).
pub mod Claim
pub mod Examples
pub mod Needed
pub mod Equal
pub mod Outcome
pub mod Swap
pub mod Local
pub mod Delivered
pub mod Accepted
pub mod Machines
pub mod Theorem
