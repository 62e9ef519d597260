-- Keys and masks: what they are as numbers.
pub mod Keys
pub mod KeyLaws
pub mod Masks
pub mod MaskLaws
pub mod Bits
