-- A text of any length, read through a window. To believe: Window; the others hold laws.
pub mod Window
pub mod WindowLaws
pub mod Refills
