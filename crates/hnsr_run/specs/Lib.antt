-- ---- the claim
pub mod Past
pub mod History
pub mod Words
pub mod Sequence
pub mod Claim
pub mod Tables
pub mod Waking
pub mod Orders
-- ---- by computation
pub mod Talk
pub mod Examples
pub mod RichRun
pub mod Refuted
-- ---- the proof
pub mod Run
pub mod SameRun
pub mod Theorem
pub mod Facts
pub mod WakingTheorem
