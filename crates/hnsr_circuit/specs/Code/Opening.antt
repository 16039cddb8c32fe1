-- What the code of ACCEPT and OPEN asks, gathers and decides before it writes.
use Rattle.std.specs.Prelude.{ℕ, ◌+◌, Bool, true, false, cond, ◌||◌, Option, None, Some, unwrap_or, List, leb, length}
use Rattle.std.specs.Prelude.{take, Result, Ok, Err}
use Rattle.std.specs.Option.{is_some, ok_or, option_map}
use Rattle.std.specs.Result.{result_and}
use Rattle.hns_encoding.specs.Bytes.{be}
use Rattle.hns_encoding.specs.Sums.{count}
use Rattle.hnsr_body.specs.declared.layout.Read.{Read}
use Rattle.hnsr_body.specs.declared.accept_body.AcceptBody.{AcceptBody}
use Rattle.hnsr_body.specs.declared.open_body.OpenBody.{OpenBody}
use Rattle.hnsr_body.specs.Open.{decode_open}
use Rattle.hnsr_circuit.specs.declared.answer.HnsrRuntimeError.{HnsrRuntimeError}
use Rattle.hnsr_circuit.specs.declared.answer.HnsrRuntimeError.TheVariants.{UnknownRequest, Randomness}
use Rattle.hnsr_circuit.specs.declared.messages.open.OpenGathered.{OpenGathered}
use Rattle.hnsr_circuit.specs.declared.messages.open.OpenPlan.{OpenPlan}
use Rattle.hnsr_circuit.specs.declared.config.OpaqueRelayConfig.{OpaqueRelayConfig}
use Rattle.hnsr_circuit.specs.declared.peer.HnsrPeerId.{HnsrPeerId}
use Rattle.hnsr_circuit.specs.declared.records.RelayPending.{RelayPending}
use Rattle.hnsr_circuit.specs.declared.records.RelayCircuit.{RelayCircuit}
use Rattle.hnsr_circuit.specs.declared.records.RelayTicket.{RelayTicket}
use Rattle.hnsr_circuit.specs.declared.records.ReservationUsage.{ReservationUsage}
use Rattle.hnsr_circuit.specs.declared.tables.scan.InflightTally.{InflightTally}
use Rattle.hnsr_circuit.specs.declared.tables.lookup.Found.{Found}
use Rattle.hnsr_circuit.specs.declared.tables.scan.LedgerScan.{LedgerScan}
use Rattle.hnsr_circuit.specs.declared.output.queue.Outgoing.{Outgoing}
use Rattle.hnsr_circuit.specs.declared.tables.scan.Work.{Work}
use Rattle.hnsr_circuit.specs.declared.tables.scan.WorkQuestion.{WorkQuestion}
use Rattle.hnsr_circuit.specs.declared.tables.scan.ActionQuestion.{ActionQuestion}
use Rattle.hnsr_circuit.specs.declared.records.InflightKind.TheVariants.{Opened, Incoming}
use Rattle.hnsr_circuit.specs.declared.runtime.Request.{Request}
use Rattle.hnsr_circuit.specs.Table.{any}
use Rattle.hnsr_circuit.specs.Answers.{HnsrAnswer, body_answer, ◌then◌}
use Rattle.hnsr_circuit.specs.Peer.{peer_of, same_peer}
use Rattle.hnsr_circuit.specs.Pending.{pending_at}
use Rattle.hnsr_circuit.specs.Ledger.{is_usage, has_usage, booked, fresh_usage, ledger_answer}
use Rattle.hnsr_circuit.specs.Circuits.{circuit_at}
use Rattle.hnsr_circuit.specs.Inflight.{tallied, capacity_answer}
use Rattle.hnsr_circuit.specs.World.{World, Outcome, config_of, proceed, with_ledger}
use Rattle.hnsr_circuit.specs.Queue.{send}
use Rattle.hnsr_circuit.specs.Opcode.{op_opened, op_incoming}
use Rattle.hnsr_circuit.specs.Code.Message.{outgoing}
use Rattle.hnsr_circuit.specs.Counts.{circuit_count, reservation_work}
use Rattle.hnsr_circuit.specs.Code.Question.{pending_work, circuit_work}
use Rattle.hnsr_circuit.specs.Entry.{peer_answer}
use Rattle.hnsr_circuit.specs.Accept.{request_answer, accept_answer, with_accept, opened_message}
use Rattle.hnsr_circuit.specs.Open.{Opening, open_answer, admission_answer}
use Rattle.hnsr_circuit.specs.Open.{endpoint_answer, deadline_answer, deadline_for, open_booked}

-- ---- ACCEPT
-- what is accepted, by the rows that go by the packet and its pending record alone
abbrev pub accept_entry : Option (Found RelayPending) → HnsrPeerId → (now : ℕ) → Read AcceptBody
    → Result (Found RelayPending) HnsrRuntimeError
accept_entry None peer now read = Err UnknownRequest
accept_entry (Some f) peer now read =
    result_and (request_answer true f.row peer now then body_answer read.result) (Ok f)

-- those that ask all records
abbrev pub accept_rows : OpaqueRelayConfig → RelayPending → AcceptBody → (waiting running : Work) → InflightTally
    → HnsrAnswer
accept_rows c p b waiting running t =
    accept_answer c p b running.used (waiting.under + running.under) then capacity_answer c t

abbrev pub accept_work : RelayPending → WorkQuestion
accept_work p = record {
  peer = p.requester;
  other = p.requester;
  reservation = p.ticket.reservation_id;
  context = 0;
  id = p.circuit_id;
}

abbrev pub replacing : RelayPending → (id : ℕ) → ActionQuestion
replacing p id =
    record { replacing = true; circuit_id = id; peer = p.requester; generation = 0; sequence = 0 }

abbrev pub opened_out : RelayPending → Outgoing
opened_out p = outgoing p.requester p.circuit_id op_opened p.requester_context Opened

-- an ACCEPT past the rows that go by the packet and its pending record alone
unfoldable pub accept_named : World → (context : ℕ) → RelayPending → AcceptBody → Outcome
accept_named w context p b =
    proceed w
    (accept_answer (config_of w) p b (circuit_count w) (reservation_work w p.ticket.reservation_id)
    then capacity_answer (config_of w) (tallied true context p.requester w.inflight))
    (send (with_accept w p b) (opened_message p b))

-- ---- OPEN: the drawing
abbrev pub is_taken : List RelayPending → List RelayCircuit → (id : ℕ) → Bool
is_taken p c id = any (pending_at id) p || any (circuit_at id) c

-- the first draw, where there is one
abbrev pub first_draw : List ℕ → ℕ
first_draw xs = cond (leb 8 (length xs)) (be (take 8 xs)) 0

-- ---- OPEN: what is gathered
abbrev pub open_work : Request → (endpoint : HnsrPeerId) → Read OpenBody → (id : ℕ) → WorkQuestion
open_work r endpoint read id = record {
  peer = r.peer;
  other = endpoint;
  reservation = read.body.reservation_id;
  context = r.packet.context_id;
  id = id;
}

abbrev pub open_gathering : Request → (endpoint : HnsrPeerId) → Read OpenBody → (waiting running : Work) → (id : ℕ)
    → OpenGathered
open_gathering r endpoint read waiting running id = record {
  request = r;
  endpoint = endpoint;
  read = read;
  waiting = waiting;
  running = running;
  free = cond (waiting.holds || running.holds) None (Some id);
}

abbrev pub gathering : Request → (body endpoint random : List ℕ) → List RelayPending → List RelayCircuit → OpenGathered
gathering r body endpoint random p c =
    let read = decode_open r.packet.key_valid body in
    let k = open_work r (peer_of endpoint) read (first_draw random) in
    open_gathering r (peer_of endpoint) read (pending_work k p) (circuit_work k c) (first_draw random)

-- ---- OPEN: the rows
abbrev pub open_rows : OpenGathered → HnsrAnswer
open_rows g =
    open_answer g.request.state.runtime.config g.waiting.used g.running.used (g.waiting.of_peer + g.running.of_peer)
    g.waiting.repeated
    then body_answer g.read.result
    then admission_answer g.request.packet.admitted g.request.packet.ticket.expires_at g.request.packet.now

-- those of a placed OPEN that ask actions and ledger
abbrev pub placed_rows : OpaqueRelayConfig → (now : ℕ) → InflightTally → LedgerScan → HnsrAnswer
placed_rows c now t r =
    capacity_answer c t
    then deadline_answer c now
    then ledger_answer (is_some r.found) r.used r.places

-- ---- OPEN: what is written and sent
abbrev pub open_plan : OpenGathered → (id : ℕ) → OpenPlan
open_plan g id = record {
  requester = g.request.peer;
  context = g.request.packet.context_id;
  body = g.read.body;
  endpoint = g.endpoint;
  ticket = g.request.packet.ticket;
  id = id;
  deadline = deadline_for g.request.state.runtime.config g.request.packet.ticket g.request.packet.now;
}

-- under the id that is drawn, by the rows that ask nothing of actions and ledger
abbrev pub placed_plan : OpenGathered → Option ℕ → Result OpenPlan HnsrRuntimeError
placed_plan g d =
    result_and
    (peer_answer g.endpoint.len
    then endpoint_answer g.request.state.runtime.config g.request.packet.ticket (same_peer g.endpoint g.request.peer)
    (g.waiting.of_other + g.running.of_other) (g.waiting.under + g.running.under))
    (ok_or (option_map (open_plan g) d) Randomness)

abbrev pub opening_of : OpenPlan → Opening
opening_of o = record {
  requester = o.requester;
  context = o.context;
  body = o.body;
  endpoint = o.endpoint;
  ticket = o.ticket;
  id = o.id;
  deadline = o.deadline;
}

abbrev pub incoming_out : OpenPlan → Outgoing
incoming_out o = outgoing o.endpoint o.id op_incoming o.id Incoming

-- the ledger record of a grant, and where it stands: what is found, else a fresh one at the lowest unused place
abbrev pub booked_in : LedgerScan → RelayTicket → Found ReservationUsage
booked_in r ticket =
    unwrap_or r.found (record { place = unwrap_or r.spare r.places; row = fresh_usage ticket })

-- a placed OPEN past the rows that ask nothing of actions and ledger
unfoldable pub open_drawn : World → (now : ℕ) → Opening → Outcome
open_drawn w now o =
    proceed w
    (capacity_answer (config_of w) (tallied false o.id o.endpoint w.inflight)
    then deadline_answer (config_of w) now
    then ledger_answer (has_usage o.ticket.reservation_id w.ledger) (count is_usage w.ledger) (length w.ledger))
    (open_booked (with_ledger w (booked o.ticket w.ledger)) o)
