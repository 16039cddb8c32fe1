-- ---- tables of any record
pub mod Table
-- ---- answers, opcodes, the configuration, the records
pub mod Answers
pub mod Opcode
pub mod Config
pub mod Peer
pub mod Pending
pub mod Circuits
pub mod Ledger
pub mod Inflight
pub mod Runtime
-- ---- the world, routes, queueing, the entry
pub mod Route
pub mod World
pub mod Counts
pub mod Queue
pub mod Entry
-- ---- the calls
pub mod Packet
pub mod Draw
pub mod Open
pub mod Accept
pub mod Data
pub mod Window
pub mod Revocation
pub mod Close
pub mod Handle
pub mod Acknowledge
pub mod RevokingCalls
pub mod New
pub mod Status
pub mod NextDue
pub mod Ends
pub mod Fits
pub mod Call
-- ---- how the code holds it
pub mod Code
-- ---- worked examples, by computation
pub mod Worked
-- ---- what is proved of them
pub mod Laws
