-- A resend puts on its link what that link was first sent for its transaction. To believe: Claim; to see that it means it: Wrong. The rest is the proof, and `Theorem` has the
-- one theorem, `SendsAgain play`: what a client's row gives (Sent), that a step keeps it while the link is not empty (Carried), for the
-- steps that change no row (Still), rounds of requests (Rounds, Gets), begins and replies, the other clients (Others), any machine
-- whose steps do so (Machines).
pub mod Claim
pub mod Wrong
pub mod Sent
pub mod Carried
pub mod Still
pub mod Rounds
pub mod Gets
pub mod Begins
pub mod Replies
pub mod Others
pub mod Machines
pub mod Theorem
