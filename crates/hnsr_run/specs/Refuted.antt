-- Wrong machines, refuted: of each a claim is false, by a run that is computed. A file for each part of the claim
-- that they break; docs/RUN-THEOREM.md has the table.
pub mod Machines
-- ---- (a) status
pub mod Status
pub mod Capacity
-- ---- (b) queued counts
pub mod Queued
-- ---- (c) all are taken, in whatever order
pub mod Acknowledged
-- ---- (c) and then the next DATA passes: if, only if; credit, circuit left, reservation left
pub mod Passing
-- ---- from a taken `new`
pub mod New
-- ---- a host that waits for next due
pub mod Waking
