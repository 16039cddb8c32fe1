-- What a scan asks, what a lookup finds, and a scan turn by turn
pub mod Question
pub mod Lookup
pub mod Turns
-- A call under way, and tables as the numbers of places show them
pub mod Progress
pub mod Held
pub mod Queueing
-- What the code decides before it writes
pub mod Message
pub mod Plans
pub mod Opening
pub mod Revoking
-- What `status`, `next_due` and `new` hand back
pub mod Told
