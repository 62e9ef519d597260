-- What a line of a schedule prints and leaves, and when tables may be played on without a check.
pub mod Played
pub mod PlayedLaws
pub mod Playable
pub mod PlayableLaws
pub mod Words
