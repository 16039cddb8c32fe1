-- The ledger (`reservation_usage`): what is asked of a record, what becomes of one, and the rules of OPEN and DATA that
-- go by it.
use Rattle.std.specs.Prelude.{ℕ, Bool, true, false, not, ◌&&◌, ◌||◌, List, eqb, leb}
use Rattle.hns_encoding.specs.Numbers.{saturating_add}
use Rattle.hnsr_body.specs.declared.values.ReservationId.{ReservationId}
use Rattle.hnsr_body.specs.Values.{same_reservation}
use Rattle.hnsr_circuit.specs.declared.records.RelayTicket.{RelayTicket}
use Rattle.hnsr_circuit.specs.declared.records.ReservationUsage.{ReservationUsage}
use Rattle.hnsr_circuit.specs.declared.answer.HnsrRuntimeError.TheVariants.{ByteLimit, LedgerFull}
use Rattle.hnsr_circuit.specs.Table.{any, pick, put, clear}
use Rattle.hnsr_circuit.specs.Answers.{HnsrAnswer, check}
use Rattle.hnsr_circuit.specs.Pending.{no_reservation}

-- a record in use of which nothing is spent; its mark and its bytes replaced
abbrev pub usage_for : ReservationId → (expires : ℕ) → ReservationUsage
usage_for id expires = record { used = true; reservation_id = id; bytes = 0; expires_at = expires }

abbrev pub usage_with : ReservationUsage → (used : Bool) → (bytes : ℕ) → ReservationUsage
usage_with u used bytes =
    record { used = used; reservation_id = u.reservation_id; bytes = bytes; expires_at = u.expires_at }

-- what a table has past its end
abbrev pub no_usage : ReservationUsage
no_usage = usage_with (usage_for no_reservation 0) false 0

-- ---- questions
unfoldable pub is_usage : ReservationUsage → Bool
is_usage u = u.used

unfoldable pub usage_at : ReservationId → ReservationUsage → Bool
usage_at id u = u.used && same_reservation u.reservation_id id

-- expiry not after now
unfoldable pub usage_over : (now : ℕ) → ReservationUsage → Bool
usage_over now u = u.used && leb u.expires_at now

-- ---- changes
abbrev pub usage_marked : (used : Bool) → ReservationUsage → ReservationUsage
usage_marked used u = usage_with u used u.bytes

abbrev pub clear_usage : ReservationUsage → ReservationUsage
clear_usage u = usage_marked false u

abbrev pub fresh_usage : RelayTicket → ReservationUsage
fresh_usage t = usage_for t.reservation_id t.expires_at

-- DATA of n bytes
abbrev pub spent : ℕ → ReservationUsage → ReservationUsage
spent n u = usage_with u u.used (saturating_add 64 u.bytes n)

-- ---- the whole table
-- OPEN.12: lapsed records go
unfoldable pub lapsed : (now : ℕ) → List ReservationUsage → List ReservationUsage
lapsed now ledger = clear clear_usage (usage_over now) ledger

-- the record under an id, if there is one
abbrev pub has_usage : ReservationId → List ReservationUsage → Bool
has_usage id ledger = any (usage_at id) ledger

abbrev pub usage_of : ReservationId → List ReservationUsage → ReservationUsage
usage_of id ledger = pick (usage_at id) no_usage ledger

-- OPEN.16: a record is made where there is none, and stays as it is where there is one. The ledger goes by the grant's
-- id (OPEN.15)
unfoldable pub booked : RelayTicket → List ReservationUsage → List ReservationUsage
booked t ledger =
    put is_usage (usage_at t.reservation_id) (pick (usage_at t.reservation_id) (fresh_usage t) ledger) ledger

-- ---- rows
-- 23 (OPEN.9): no place for a new reservation
unfoldable pub ledger_answer : (found : Bool) → (used places : ℕ) → HnsrAnswer
ledger_answer found used places = check (not found && leb places used) LedgerFull

-- 18 (OPEN.10): the reservation has another end, or no bytes left
unfoldable pub usage_answer : RelayTicket → ReservationUsage → HnsrAnswer
usage_answer t u =
    check (not (eqb u.expires_at t.expires_at) || leb t.max_total_bytes u.bytes) ByteLimit
