-- The calls, each with all its inputs, the room of the lent output included; one step; a run (RUN.1).
use Rattle.std.specs.Prelude.{ℕ, Bool, List, [], ◌∷◌, Ok, Err}
use Rattle.hnsr_body.specs.declared.values.ReservationId.{ReservationId}
use Rattle.hnsr_circuit.specs.declared.config.OpaqueRelayConfig.{OpaqueRelayConfig}
use Rattle.hnsr_circuit.specs.Answers.{HnsrAnswer}
use Rattle.hnsr_circuit.specs.World.{World, Outcome}
use Rattle.hnsr_circuit.specs.Packet.{Packet}
use Rattle.hnsr_circuit.specs.Handle.{handle}
use Rattle.hnsr_circuit.specs.Acknowledge.{acknowledge}
use Rattle.hnsr_circuit.specs.RevokingCalls.{disconnect, revoke_reservation, expire, replace_enabled}
use Rattle.hnsr_circuit.specs.New.{new_relay, observe_time}
use Rattle.hnsr_circuit.specs.Status.{status}
use Rattle.hnsr_circuit.specs.NextDue.{next_due}

-- what `new` is given
pub record Start : Type 0 where
  pub session : List ℕ
  pub generation : ℕ
  pub config : OpaqueRelayConfig
  pub now : ℕ

-- the other calls
pub data Call : Type 0 where
  call_status : (peer : List ℕ) → (circuit : ℕ) → Call
  call_next_due : Call
  call_observe_time : (now : ℕ) → Call
  call_replace_enabled : (expected : ℕ) → (enabled : Bool) → (room : ℕ) → Call
  call_handle : (packet : Packet) → (room : ℕ) → Call
  call_acknowledge : (generation sequence : ℕ) → (delivered : Bool) → (room : ℕ) → Call
  call_disconnect : (peer : List ℕ) → (room : ℕ) → Call
  call_revoke_reservation : (id : ReservationId) → (room : ℕ) → Call
  call_expire : (now : ℕ) → (room : ℕ) → Call

-- ---- what is said of some calls, and of all others alike
abbrev pub on_call : {A : Type 0} → (status : (peer : List ℕ) → (circuit : ℕ) → A) → (handle : Packet → (room : ℕ) → A)
    → (acknowledge : (generation sequence : ℕ) → (delivered : Bool) → (room : ℕ) → A)
    → (disconnect : (peer : List ℕ) → (room : ℕ) → A) → (other : Call → A) → Call → A
on_call s h a d o (call_status peer circuit) = s peer circuit
on_call s h a d o (call_handle q room) = h q room
on_call s h a d o (call_acknowledge generation sequence delivered room) = a generation sequence delivered room
on_call s h a d o (call_disconnect peer room) = d peer room
on_call s h a d o call_next_due = o call_next_due
on_call s h a d o (call_observe_time now) = o (call_observe_time now)
on_call s h a d o (call_replace_enabled expected enabled room) = o (call_replace_enabled expected enabled room)
on_call s h a d o (call_revoke_reservation id room) = o (call_revoke_reservation id room)
on_call s h a d o (call_expire now room) = o (call_expire now room)

-- of `handle` alone
abbrev pub on_handle : {A : Type 0} → (other : A) → (handle : Packet → (room : ℕ) → A) → Call → A
on_handle o h c = on_call (λ peer circuit. o) h (λ generation sequence delivered room. o) (λ peer room. o) (λ x. o) c

-- ---- the steps
unfoldable pub start : World → Start → Outcome
start w s = new_relay w s.session s.generation s.config s.now

unfoldable pub step : World → Call → Outcome
step w (call_status peer circuit) = status w peer circuit
step w call_next_due = next_due w
step w (call_observe_time now) = observe_time w now
step w (call_replace_enabled expected enabled room) = replace_enabled w expected enabled room
step w (call_handle packet room) = handle w packet room
step w (call_acknowledge generation sequence delivered room) = acknowledge w generation sequence delivered room
step w (call_disconnect peer room) = disconnect w peer room
step w (call_revoke_reservation id room) = revoke_reservation w id room
step w (call_expire now room) = expire w now room

-- each call goes on from the world of the last
unfoldable pub steps : World → List Call → List Outcome
steps w [] = []
steps w (c ∷ cs) = let o = step w c in o ∷ steps o.world cs

-- RUN.1: a run
unfoldable pub run_after : HnsrAnswer → World → List Call → List Outcome
run_after (Ok _) w calls = steps w calls
run_after (Err e) w calls = []

unfoldable pub run : World → Start → List Call → List Outcome
run w s calls = let o = start w s in o ∷ run_after o.answer o.world calls

-- the world that a list of calls leaves
unfoldable pub left_by : World → List Call → World
left_by w [] = w
left_by w (c ∷ cs) = left_by (step w c).world cs
