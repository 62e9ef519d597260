-- The schedule as text: its lines, the numbers of a line, the step that a line names. What is right stands in Lines,
-- Decimal, Numbers and Steps; the others hold laws, and Pairs names for them.
pub mod Lines
pub mod LineLaws
pub mod Decimal
pub mod DecimalLaws
pub mod Number
pub mod Numbers
pub mod NumberLaws
pub mod Steps
pub mod StepLaws
pub mod Pairs
pub mod PairLaws
pub mod ReadBack
pub mod Examples
