-- What the code decides of DATA, WINDOW, CLOSE and ERROR, from the tables as they are seen: their rows in order, and of
-- what these take one value.
use Rattle.std.specs.Prelude.{ℕ, true, cond, ◌&&◌, not, Option, None, Some, List, Result, Ok, Err, leb, is_ok}
use Rattle.std.specs.Result.{result_and}
use Rattle.hnsr_body.specs.Data.{data_checked, decode_window}
use Rattle.hnsr_body.specs.Detail.{decode_detail}
use Rattle.hns_encoding.specs.Sums.{count}
use Rattle.hnsr_circuit.specs.declared.peer.HnsrPeerId.{HnsrPeerId}
use Rattle.hnsr_circuit.specs.declared.runtime.OpaqueRelayRuntime.{OpaqueRelayRuntime}
use Rattle.hnsr_circuit.specs.declared.records.RelayPending.{RelayPending}
use Rattle.hnsr_circuit.specs.declared.records.RelayCircuit.{RelayCircuit}
use Rattle.hnsr_circuit.specs.declared.records.ReservationUsage.{ReservationUsage}
use Rattle.hnsr_circuit.specs.declared.records.InflightAction.{InflightAction}
use Rattle.hnsr_circuit.specs.declared.tables.lookup.Found.{Found}
use Rattle.hnsr_circuit.specs.declared.output.queue.Outgoing.{Outgoing}
use Rattle.hnsr_circuit.specs.declared.runtime.RelayPacket.{RelayPacket}
use Rattle.hnsr_circuit.specs.declared.records.InflightKind.TheVariants.{Control, Close}
use Rattle.hnsr_circuit.specs.declared.messages.data.DataPlan.{DataPlan}
use Rattle.hnsr_circuit.specs.declared.messages.window.WindowPlan.{WindowPlan}
use Rattle.hnsr_circuit.specs.declared.answer.HnsrRuntimeError.{HnsrRuntimeError}
use Rattle.hnsr_circuit.specs.declared.answer.HnsrRuntimeError.TheVariants.{InvalidAdmission}
use Rattle.hnsr_circuit.specs.Answers.{check, body_answer}
use Rattle.hnsr_circuit.specs.Table.{any, edit}
use Rattle.hnsr_circuit.specs.Pending.{named_by, clear_pending}
use Rattle.hnsr_circuit.specs.Circuits.{side_of, circuit_at, clear_circuit}
use Rattle.hnsr_circuit.specs.Ledger.{usage_at}
use Rattle.hnsr_circuit.specs.Inflight.{capacity_answer}
use Rattle.hnsr_circuit.specs.Code.Lookup.{pending_found, circuit_found, usage_found}
use Rattle.hnsr_circuit.specs.Code.Turns.{actions_scanned}
use Rattle.hnsr_circuit.specs.Code.Progress.{asking}
use Rattle.hnsr_circuit.specs.Code.Message.{own_circuit, passed_on, data_on, translated_on}
use Rattle.hnsr_circuit.specs.Data.{bytes_answer, flow_answer}
use Rattle.hnsr_circuit.specs.Window.{credit_answer}

-- a row that finds something, and what comes behind
abbrev pub found_then : {A B : Type 0} → Result A HnsrRuntimeError → (A → Result B HnsrRuntimeError)
    → Result B HnsrRuntimeError
found_then (Ok x) f = f x
found_then (Err e) f = Err e

-- ---- DATA
-- the ledger record of the circuit's reservation
abbrev pub booked_for : Option (Found ReservationUsage) → RelayCircuit → (n : ℕ)
    → Result (Found ReservationUsage) HnsrRuntimeError
booked_for None c n = Err InvalidAdmission
booked_for (Some u) c n = result_and (bytes_answer true u.row c n) (Ok u)

module _ (h : OpaqueRelayRuntime) (l : List ReservationUsage) (i : List InflightAction) (q : RelayPacket)
    (peer : HnsrPeerId) (n : ℕ) where
  -- on the circuit that it names
  abbrev pub data_planned_on : Found RelayCircuit → Result DataPlan HnsrRuntimeError
  data_planned_on f =
      let m = data_on q f.row peer n in
      let s = actions_scanned (asking h m) i in
      result_and (capacity_answer h.config s.tally)
      (found_then (booked_for (usage_found (usage_at f.row.reservation_id) l) f.row n)
      (λ u. result_and (flow_answer h.config f.row (side_of peer f.row) n) (Ok (record {
        place = f.place;
        side = side_of peer f.row;
        usage_place = u.place;
        message = m;
        scan = s;
      }))))

unfoldable pub data_planned : OpaqueRelayRuntime → List RelayCircuit → List ReservationUsage → List InflightAction
    → RelayPacket → HnsrPeerId → (n : ℕ) → Result DataPlan HnsrRuntimeError
data_planned h c l i q peer n =
    result_and (body_answer (data_checked n))
    (found_then (own_circuit (circuit_found (circuit_at q.context_id) c) peer) (data_planned_on h l i q peer n))

-- ---- WINDOW
module _ (h : OpaqueRelayRuntime) (i : List InflightAction) (q : RelayPacket) (peer : HnsrPeerId) (delta : ℕ) where
  -- on the circuit that it names
  abbrev pub window_planned_on : Found RelayCircuit → Result WindowPlan HnsrRuntimeError
  window_planned_on f =
      let m = passed_on q f.row peer Control in
      let s = actions_scanned (asking h m) i in
      result_and (capacity_answer h.config s.tally)
      (result_and (credit_answer f.row (side_of peer f.row) delta) (Ok (record {
        place = f.place;
        side = side_of peer f.row;
        delta = delta;
        message = m;
        scan = s;
      })))

unfoldable pub window_planned : OpaqueRelayRuntime → List RelayCircuit → List InflightAction → RelayPacket → HnsrPeerId
    → (body : List ℕ) → Result WindowPlan HnsrRuntimeError
window_planned h c i q peer body =
    result_and (body_answer (decode_window body).result)
    (found_then (own_circuit (circuit_found (circuit_at q.context_id) c) peer)
    (window_planned_on h i q peer (decode_window body).body.credit_delta))

-- ---- CLOSE and ERROR
-- the message: of the pending record where there is one, else of the circuit
abbrev pub closing_message : RelayPacket → HnsrPeerId → Option (Found RelayPending) → Option (Found RelayCircuit)
    → Result Outgoing HnsrRuntimeError
closing_message q peer (Some w) f = Ok (translated_on q.opcode w.row peer)
closing_message q peer None f = found_then (own_circuit f peer) (λ c. Ok (passed_on q c.row peer Close))

unfoldable pub close_planned : List RelayPending → List RelayCircuit → RelayPacket → HnsrPeerId → (body : List ℕ)
    → Result Outgoing HnsrRuntimeError
close_planned p c q peer body =
    let naming = named_by peer q.context_id in
    result_and (body_answer (decode_detail body).result)
    (result_and (check (leb 2 (count naming p)) InvalidAdmission)
    (closing_message q peer (pending_found naming p) (circuit_found (circuit_at q.context_id) c)))

-- the tables, where the message is taken: one mark is cleared
abbrev pub pending_closed : Result Outgoing HnsrRuntimeError → RelayPacket → HnsrPeerId → List RelayPending
    → List RelayPending
pending_closed r q peer p = cond (is_ok r) (edit (named_by peer q.context_id) clear_pending p) p

abbrev pub circuits_closed : Result Outgoing HnsrRuntimeError → RelayPacket → HnsrPeerId → List RelayPending
    → List RelayCircuit → List RelayCircuit
circuits_closed r q peer p c =
    cond (is_ok r && not (any (named_by peer q.context_id) p)) (edit (circuit_at q.context_id) clear_circuit c) c
