-- ---- the parts of the invariant, and the small changes to each
pub mod Actions
pub mod Circuits
pub mod Books
pub mod Full
pub mod Ended
pub mod InPlace
pub mod Limits
-- ---- revocation: one record, and all that have a property
pub mod Walks
pub mod WalkEnds
pub mod ByLookup
pub mod Ends
pub mod Revocations
pub mod Leaving
-- ---- the whole invariant
pub mod Rel
pub mod Disconnecting
-- ---- each call keeps it
pub mod Revoking
pub mod Switching
pub mod Acknowledge
pub mod Undelivered
pub mod DataRows
pub mod Data
pub mod Window
pub mod Close
pub mod Closing
pub mod AcceptRows
pub mod Accept
pub mod Booking
pub mod Open
pub mod Opening
pub mod OpenCall
pub mod Steps
-- ---- `new` starts it, a run keeps it, and what follows at the end of a run
pub mod Start
pub mod Numbers
pub mod Runs
pub mod AllAcknowledged
pub mod Entering
pub mod Passing
-- ---- an invariant of the world alone
pub mod ShapeTables
pub mod Shape
pub mod ShapeParts
pub mod ShapeCalls
pub mod ShapeRuns
pub mod ShapeRefuted
-- ---- next due, and what `expire` leaves
pub mod Expiring
