-- What a look at the versions received relies on, and how the holders of a key are found.
pub mod Ready
pub mod Looked
