-- "Starred cards are shown by proof on the definitions, all together as one checked table." Presses: what the cards are played on; Cards: the table;
-- Shown: that it holds.
pub mod Presses
pub mod Cards
pub mod Shown
