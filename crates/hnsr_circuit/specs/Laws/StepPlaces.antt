-- Every call keeps the number of places of every table, taken or refused: so a table that was long enough for `new`
-- stays so.
use Rattle.std.specs.Prelude.{ℕ, ◌≡◌, refl, Bool, true, false, cond, List, [], length, Ok, Err}
use Rattle.std.proofs.Common.{length-set}
use Rattle.std.proofs.lemmas.List.{length-map}
use Rattle.hnsr_circuit.specs.declared.records.RelayTicket.{RelayTicket}
use Rattle.hnsr_circuit.specs.declared.records.RelayCircuit.{RelayCircuit}
use Rattle.hnsr_circuit.specs.declared.records.InflightAction.{InflightAction}
use Rattle.hnsr_circuit.specs.Answers.{HnsrAnswer}
use Rattle.hnsr_circuit.specs.Table.{any, pick}
use Rattle.hnsr_circuit.specs.Laws.Edits.{length-edit}
use Rattle.hnsr_circuit.specs.Pending.{no_pending, pending_at, named_by, clear_pending}
use Rattle.hnsr_circuit.specs.Circuits.{circuit_at, lowered}
use Rattle.hnsr_circuit.specs.Ledger.{usage_at, clear_usage, lapsed, booked}
use Rattle.hnsr_circuit.specs.declared.records.InflightKind.{InflightKind}
use Rattle.hnsr_circuit.specs.declared.records.InflightKind.TheVariants.{Incoming, Opened, Data, Control, Close}
use Rattle.hnsr_circuit.specs.Inflight.{toward_side, action_at, clear_action}
use Rattle.hnsr_circuit.specs.World.{World, Outcome, done, proceed, with_ledger, at_time}
use Rattle.hnsr_circuit.specs.Queue.{Message, send}
use Rattle.hnsr_circuit.specs.Packet.{Packet, sender, named_circuit}
use Rattle.hnsr_circuit.specs.Open.{Opening, with_open, open_booked, open_granted, open_lapsed, handle_open}
use Rattle.hnsr_circuit.specs.Accept.{with_accept, accept_with, handle_accept}
use Rattle.hnsr_circuit.specs.Data.{with_data, data_with, handle_data}
use Rattle.hnsr_circuit.specs.Window.{with_window, window_with, handle_window}
use Rattle.hnsr_circuit.specs.Close.{close_pending, close_circuit, handle_close}
use Rattle.hnsr_circuit.specs.Handle.{Handling, OPEN, ACCEPT, DATA, WINDOW, CLOSE}
use Rattle.hnsr_circuit.specs.Handle.{ERROR, other, dispatch, handle_gate, handle}
use Rattle.hnsr_circuit.specs.Acknowledge.{lower_for, released, fail_pending, fail_incoming}
use Rattle.hnsr_circuit.specs.Acknowledge.{undelivered, settled, acknowledge_action, acknowledge}
use Rattle.hnsr_circuit.specs.Revocation.{has_pending, pending_in}
use Rattle.hnsr_circuit.specs.RevokingCalls.{changes, disconnect_peer, disconnect, revoke_under}
use Rattle.hnsr_circuit.specs.RevokingCalls.{revoke_reservation, expire_at, expire, switch_to, replace_enabled}
use Rattle.hnsr_circuit.specs.New.{emptied, new_relay, observe_time}
use Rattle.hnsr_circuit.specs.Status.{status}
use Rattle.hnsr_circuit.specs.NextDue.{next_due}
use Rattle.hnsr_circuit.specs.Call.{Start, start, Call, call_status, call_next_due, call_observe_time}
use Rattle.hnsr_circuit.specs.Call.{call_replace_enabled, call_handle, call_acknowledge}
use Rattle.hnsr_circuit.specs.Call.{call_disconnect, call_revoke_reservation, call_expire, step}
use Rattle.hnsr_circuit.specs.Laws.Places.{AsMany, as_many, onward, runtime-kept, pending-kept}
use Rattle.hnsr_circuit.specs.Laws.Places.{circuits-kept, ledger-kept, inflight-kept, length-dropped}
use Rattle.hnsr_circuit.specs.Laws.Places.{without-pending-kept, end_pending_kept, end_circuit_kept}
use Rattle.hnsr_circuit.specs.Laws.Places.{queued-kept, revoke-pending-kept, revoke-there-kept}
use Rattle.hnsr_circuit.specs.Laws.Places.{revoke-circuit-kept, disconnect-pending-kept, revoke-all-kept}

proceed-kept : {v : World} (w : World) (a : HnsrAnswer) (o : Outcome) → AsMany v w → AsMany v o.world
    → AsMany v (proceed w a o).world
unfolding proceed
proceed-kept w (Ok _) o s t = t
proceed-kept w (Err e) o s t = s

cond-kept : {v : World} (b : Bool) (x y : Outcome) → AsMany v x.world → AsMany v y.world
    → AsMany v (cond b x y).world
cond-kept true x y s t = s
cond-kept false x y s t = t

send-kept : {v : World} (w : World) (m : Message) → AsMany v w → AsMany v (send w m).world
unfolding send
send-kept w m s = proceed-kept w _ _ s (onward s (queued-kept m w))

-- ---- handle
lapsed-kept : (w : World) (now : ℕ) → AsMany w (with_ledger w (lapsed now w.ledger))
unfolding lapsed
lapsed-kept w now = ledger-kept (as_many w) _ (simp length-map)

booked-kept : {v : World} (w : World) (t : RelayTicket) → AsMany v w → AsMany v (with_ledger w (booked t w.ledger))
unfolding booked
booked-kept w t s = ledger-kept s _ (simp length-set)

open_with_kept : {v : World} (w : World) (o : Opening) → AsMany v w → AsMany v (with_open w o)
unfolding with_open
open_with_kept w o s = runtime-kept (pending-kept s _ (simp length-set)) _

open_kept : (w : World) (q : Packet) → AsMany w (handle_open w q).world
unfolding handle_open open_lapsed open_granted open_booked
open_kept w q =
    let l = lapsed-kept w q.now in
    proceed-kept w _ _ (as_many w)
    (proceed-kept _ _ _ l
    (proceed-kept _ _ _ (booked-kept _ _ l) (send-kept _ _ (open_with_kept _ _ (booked-kept _ _ l)))))

accept_kept : (w : World) (q : Packet) → AsMany w (handle_accept w q).world
unfolding handle_accept accept_with with_accept
accept_kept w q =
    proceed-kept w _ _ (as_many w)
    (send-kept _ _
    (runtime-kept (circuits-kept
    (inflight-kept (pending-kept (as_many w) _ (length-edit _ clear_pending w.pending)) _ (length-dropped _ _)) _
    (simp length-set)) _))

data_kept : (w : World) (q : Packet) → AsMany w (handle_data w q).world
unfolding handle_data data_with with_data
data_kept w q =
    proceed-kept w _ _ (as_many w)
    (send-kept _ _
    (runtime-kept (ledger-kept (circuits-kept (as_many w) _ (length-edit (circuit_at q.context) _ w.circuits)) _
    (length-edit (usage_at _) _ w.ledger)) _))

window-kept : (w : World) (q : Packet) → AsMany w (handle_window w q).world
unfolding handle_window window_with with_window
window-kept w q =
    proceed-kept w _ _ (as_many w)
    (send-kept _ _ (circuits-kept (as_many w) _ (length-edit (circuit_at q.context) _ w.circuits)))

close_kept : (w : World) (q : Packet) → AsMany w (handle_close w q).world
unfolding handle_close close_pending close_circuit
close_kept w q =
    proceed-kept w _ _ (as_many w)
    (cond-kept (any (named_by (sender q) q.context) w.pending)
    (close_pending w q (pick (named_by (sender q) q.context) no_pending w.pending))
    (close_circuit w q (named_circuit w q)) (send-kept _ _ (end_pending_kept w _ _))
    (send-kept _ _ (end_circuit_kept w _)))

dispatch-kept : (h : Handling) (w : World) (q : Packet) → AsMany w (dispatch h w q).world
unfolding dispatch
dispatch-kept OPEN w q = open_kept w q
dispatch-kept ACCEPT w q = accept_kept w q
dispatch-kept DATA w q = data_kept w q
dispatch-kept WINDOW w q = window-kept w q
dispatch-kept CLOSE w q = close_kept w q
dispatch-kept ERROR w q = close_kept w q
dispatch-kept other w q = as_many w

-- ---- acknowledge
lower-kept : (k : InflightKind) (a : InflightAction) (t : List RelayCircuit) → length (lower_for k a t) ≡ length t
unfolding lower_for
lower-kept Data a t = length-edit (circuit_at a.circuit_id) (lowered (toward_side a) a.bytes) t
lower-kept Incoming a t = refl
lower-kept Opened a t = refl
lower-kept Control a t = refl
lower-kept Close a t = refl

undelivered-kept : (k : InflightKind) (w : World) (id : ℕ) → AsMany w (undelivered k w id).world
unfolding undelivered fail_incoming fail_pending
undelivered-kept Incoming w id =
    cond-kept (has_pending w id) (fail_pending w id (pending_in w id)) (done w [])
    (send-kept _ _ (runtime-kept (without-pending-kept w (pending_at id) (as_many w)) _)) (as_many w)
undelivered-kept Opened w id = revoke-circuit-kept _ w id
undelivered-kept Data w id = revoke-circuit-kept _ w id
undelivered-kept Control w id = revoke-circuit-kept _ w id
undelivered-kept Close w id = as_many w

settled-kept : {v : World} (w : World) (a : InflightAction) (delivered : Bool) → AsMany v w
    → AsMany v (settled w a delivered).world
unfolding settled
settled-kept w a true s = s
settled-kept w a false s = onward s (undelivered-kept _ w _)

acknowledge-kept : (w : World) (generation sequence : ℕ) (delivered : Bool) (room : ℕ)
    → AsMany w (acknowledge w generation sequence delivered room).world
unfolding acknowledge acknowledge_action released
acknowledge-kept w generation sequence delivered room =
    proceed-kept w _ _ (as_many w)
    (settled-kept _ _ delivered
    (circuits-kept (inflight-kept (as_many w) _ (length-edit (action_at generation sequence) clear_action w.inflight))
    _ (lower-kept _ _ _)))

-- ---- the revoking calls
switch_kept : (w : World) (on : Bool) → AsMany w (switch_to w on).world
unfolding switch_to
switch_kept w true = runtime-kept (inflight-kept (as_many w) _ (length-dropped _ _)) _
switch_kept w false =
    revoke-all-kept _ _ _ _ w _ (revoke-pending-kept _) (revoke-there-kept _)
    (runtime-kept (inflight-kept (as_many w) _ (length-dropped _ _)) _)

-- ---- every call
pub start-places : (w : World) (s : Start) → AsMany w (start w s).world
unfolding start new_relay emptied
start-places w s =
    proceed-kept w _ _ (as_many w)
    (record {
      pending = simp length-map;
      circuits = simp length-map;
      ledger = simp length-map;
      inflight = length-dropped _ _;
    })

pub step-places : (w : World) (c : Call) → AsMany w (step w c).world
unfolding step status next_due observe_time replace_enabled handle handle_gate disconnect disconnect_peer
    revoke_reservation revoke_under expire expire_at
step-places w (call_status peer circuit) = proceed-kept w _ _ (as_many w) (as_many w)
step-places w call_next_due = proceed-kept w _ _ (as_many w) (as_many w)
step-places w (call_observe_time now) = proceed-kept w _ _ (as_many w) (runtime-kept (as_many w) _)
step-places w (call_replace_enabled expected enabled room) =
    proceed-kept w _ _ (as_many w)
    (cond-kept (changes w enabled) (switch_to w enabled) (done w []) (switch_kept w enabled) (as_many w))
step-places w (call_handle packet room) =
    let t = runtime-kept (as_many w) _ in
    proceed-kept w _ _ (as_many w) (proceed-kept _ _ _ t (onward t (dispatch-kept _ (at_time w packet.now) packet)))
step-places w (call_acknowledge generation sequence delivered room) =
    acknowledge-kept w generation sequence delivered room
step-places w (call_disconnect peer room) =
    proceed-kept w _ _ (as_many w)
    (revoke-all-kept _ _ _ _ w _ (disconnect-pending-kept _) (revoke-there-kept _)
    (inflight-kept (as_many w) _ (length-dropped _ _)))
step-places w (call_revoke_reservation id room) =
    proceed-kept w _ _ (as_many w)
    (revoke-all-kept _ _ _ _ w _ (revoke-pending-kept _) (revoke-there-kept _)
    (ledger-kept (as_many w) _ (length-edit (usage_at id) clear_usage w.ledger)))
step-places w (call_expire now room) =
    proceed-kept w _ _ (as_many w)
    (revoke-all-kept _ _ _ _ w _ (revoke-pending-kept _) (revoke-there-kept _)
    (onward (runtime-kept (as_many w) _) (lapsed-kept (at_time w now) now)))
