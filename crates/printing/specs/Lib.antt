-- What the program prints. What is right stands in Texts, StepTexts and Printed, how long it can be in Sizes; the others hold laws,
-- names for them (Digits, Plain), and texts worked out.
pub mod Texts
pub mod TextLaws
pub mod Printed
pub mod Sizes
pub mod StepTexts
pub mod PrintedLaws
pub mod Digits
pub mod DigitLaws
pub mod Plain
pub mod PlainLaws
pub mod Examples
