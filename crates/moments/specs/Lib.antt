-- A READ's overlap counts the WRITEs in progress at some moment of it. To believe: Claim. The rest is the proof, and `Theorem` has the one
-- theorem, `ByMoments play`: when a record's numbers say that it is in progress (During), that sound tables say the same (Sorts), of each
-- earlier moment too (Seen), that some moment has both exactly where the register's test holds (Overlaps), what each step does to the
-- records (Growth, StepLaws), any machine whose steps do so (Machines).
pub mod Claim
pub mod During
pub mod Sorts
pub mod Seen
pub mod Overlaps
pub mod Growth
pub mod StepLaws
pub mod Machines
pub mod Theorem
