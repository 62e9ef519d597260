-- The register's order is the row's order, as a claim. To believe: Order. To see that it means it: what it says part by part, with a test
-- of each (Parts), and a list of steps on which the register and the row agree in every part, computed (Right). The crate `register_order`
-- has the proof, and refutes wrong listings and wrong records.
pub mod Order
pub mod Parts
pub mod Right
