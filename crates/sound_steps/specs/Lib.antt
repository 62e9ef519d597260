-- What the steps need besides their definitions: sound tables are ready for every inner step.
pub mod Ready
pub mod ReplyStates
pub mod ReadyReplies
pub mod Cases
pub mod Replies
