-- The proof of demand 3; `Theorem` has it in one declaration. In order: what the history needs of any method (Owed to HistoryKept), and
-- what it has of any machine (Always); what ties tables and history, client by client (Versions to Kept); each step on that view (Begins to
-- Losses); the budget of room (Budget, Spending); what a step must keep (Fair); each step on the tables themselves, by facts
-- (View to OpeningStep); any machine of fair steps, over a whole list (Openings, Machines); the store's, and the one whose
-- openings and begins go by the former rules (Mixed, Numbers, Theorem).
pub mod Places
pub mod Lists
pub mod Owed
pub mod HistoryOk
pub mod HistoryKept
pub mod Always
pub mod Versions
pub mod Entries
pub mod Press
pub mod Links
pub mod Invariant
pub mod Kept
pub mod Begins
pub mod Requests
pub mod Replies
pub mod Losses
pub mod Budget
pub mod Spending
pub mod Fair
pub mod View
pub mod Loops
pub mod Ready
pub mod BeginSteps
pub mod RequestSteps
pub mod ReplySteps
pub mod LossSteps
pub mod OpeningStep
pub mod Openings
pub mod Mixed
pub mod Machines
pub mod Numbers
pub mod Theorem
