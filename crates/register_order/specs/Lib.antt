-- The register's order is the row's order, as `listed_order` claims it. To see that the claim means it: Sample, and Wrong, for each part of
-- it a wrong listing or wrong records (WrongListings). The rest is the proof, and `Theorem` has the one theorem, `SameOrder register play`:
-- what ties records and history (Lists, Agreement), any machine that keeps the tie (Machines), the tie over a step by what becomes of a
-- record (Grown, Laws), a step that changes one link (Placed), a WRITE that waits for its tag (Heads), each step (Begins to Losses).
pub mod Sample
pub mod WrongListings
pub mod Wrong
pub mod Lists
pub mod Agreement
pub mod Machines
pub mod Grown
pub mod Laws
pub mod Placed
pub mod Heads
pub mod Begins
pub mod Requests
pub mod Replies
pub mod Losses
pub mod Theorem
