-- Demand 3, "The row". To believe: Steps, History, Row, Claim; beside it Consequences. To see that they mean it: the order of two READs in
-- the row (Sample), and stores (WrongStores) that break a field of the claim (Fields) on a list of steps (Lists) and no other (Broken), by
-- tests that decide (Decided): Wrong. The crate `computed_runs` plays more lists of steps, the document's own among them, and more stores, so
-- that each field has one. The crate `serial` has the proof, and its `proofs/Theorem.antt` the one theorem, `Demand3 play`.
pub mod Steps
pub mod Former
pub mod History
pub mod Row
pub mod Claim
pub mod Decided
pub mod Fields
pub mod Consequences
pub mod Sample
pub mod WrongStores
pub mod Broken
pub mod Lists
