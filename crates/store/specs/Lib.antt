-- What the public functions need besides the definitions of the steps: what they answer to tables that are not sound.
pub mod Unsound
