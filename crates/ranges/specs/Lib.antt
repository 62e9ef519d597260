-- Folds over the numbers below n, each as a definition with its laws; lists given place by place, and lists in order of a number.
-- Everything above cites these; nothing above proves such an induction again.
pub mod Tests
pub mod Every
pub mod All
pub mod AllLaws
pub mod Sum
pub mod SumLaws
pub mod First
pub mod FirstLaws
pub mod Blocks
pub mod Last
pub mod LastLaws
pub mod Turns
pub mod Picked
pub mod PickedLaws
pub mod Words
pub mod Each
pub mod Laid
pub mod LaidLaws
pub mod Inserted
pub mod InsertedLaws
pub mod Chains
