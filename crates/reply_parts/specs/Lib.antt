-- What the definitions of a reply's delivery share: a link emptied, and what is shown.
pub mod Settled
pub mod Shown
