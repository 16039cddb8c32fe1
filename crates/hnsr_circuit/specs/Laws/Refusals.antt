-- No refusal touches the output (ANS.3): whatever the world, a call that is refused has no route.
-- An outcome is silent where this holds of it; every way to make one keeps it.
use Rattle.std.specs.Prelude.{ℕ, ◌≡◌, refl, Bool, true, false, cond, List, [], Ok, Err}
use Rattle.hnsr_circuit.specs.declared.records.InflightAction.{InflightAction}
use Rattle.hnsr_circuit.specs.declared.answer.HnsrRuntimeError.{HnsrRuntimeError}
use Rattle.hnsr_circuit.specs.Answers.{HnsrAnswer}
use Rattle.hnsr_circuit.specs.Table.{any, pick}
use Rattle.hnsr_circuit.specs.Pending.{no_pending, named_by}
use Rattle.hnsr_circuit.specs.declared.records.InflightKind.{InflightKind}
use Rattle.hnsr_circuit.specs.declared.records.InflightKind.TheVariants.{Incoming, Opened, Data, Control, Close}
use Rattle.hnsr_circuit.specs.Route.{Route, out_words, output}
use Rattle.hnsr_circuit.specs.World.{World, Told, Outcome, refuse, done, telling, proceed}
use Rattle.hnsr_circuit.specs.Queue.{Message, send}
use Rattle.hnsr_circuit.specs.Packet.{Packet, sender, named_circuit}
use Rattle.hnsr_circuit.specs.Open.{open_booked, open_granted, open_lapsed, handle_open}
use Rattle.hnsr_circuit.specs.Accept.{accept_with, handle_accept}
use Rattle.hnsr_circuit.specs.Data.{data_with, handle_data}
use Rattle.hnsr_circuit.specs.Window.{window_with, handle_window}
use Rattle.hnsr_circuit.specs.Close.{close_pending, close_circuit, handle_close}
use Rattle.hnsr_circuit.specs.Handle.{Handling, OPEN, ACCEPT, DATA, WINDOW, CLOSE}
use Rattle.hnsr_circuit.specs.Handle.{ERROR, other, dispatch, handle_gate, handle}
use Rattle.hnsr_circuit.specs.Acknowledge.{fail_pending, fail_incoming, undelivered}
use Rattle.hnsr_circuit.specs.Acknowledge.{settled, acknowledge_action, acknowledge}
use Rattle.hnsr_circuit.specs.Revocation.{has_pending, pending_in, revoke_all}
use Rattle.hnsr_circuit.specs.RevokingCalls.{changes, disconnect_peer, disconnect, revoke_under}
use Rattle.hnsr_circuit.specs.RevokingCalls.{revoke_reservation, expire_at, expire, switch_to, replace_enabled}
use Rattle.hnsr_circuit.specs.New.{new_relay, observe_time}
use Rattle.hnsr_circuit.specs.Status.{status}
use Rattle.hnsr_circuit.specs.NextDue.{next_due}
use Rattle.hnsr_circuit.specs.Call.{Start, start, Call, call_status, call_next_due, call_observe_time}
use Rattle.hnsr_circuit.specs.Call.{call_replace_enabled, call_handle, call_acknowledge}
use Rattle.hnsr_circuit.specs.Call.{call_disconnect, call_revoke_reservation, call_expire, step}

pub record Silent (o : Outcome) : Type 0 where
  pub none : (e : HnsrRuntimeError) → o.answer ≡ Err e → o.routes ≡ []

-- ---- ways to make an outcome
silent-done : (w : World) (rs : List Route) → Silent (done w rs)
silent-done w rs = record { none = λ e h. cc }

silent-telling : (w : World) (t : Told) → Silent (telling w t)
silent-telling w t = record { none = λ e h. refl }

silent-refuse : (w : World) (r : HnsrRuntimeError) → Silent (refuse w r)
silent-refuse w r = record { none = λ e h. refl }

silent-proceed : (w : World) (a : HnsrAnswer) (o : Outcome) → Silent o → Silent (proceed w a o)
unfolding proceed
silent-proceed w (Ok _) o s = s
silent-proceed w (Err r) o s = silent-refuse w r

silent-cond : (b : Bool) (x y : Outcome) → Silent x → Silent y → Silent (cond b x y)
silent-cond true x y s t = s
silent-cond false x y s t = t

silent-send : (w : World) (m : Message) → Silent (send w m)
unfolding send
silent-send w m = silent-proceed _ _ _ (silent-done _ _)

-- ---- handle
silent_open : (w : World) (q : Packet) → Silent (handle_open w q)
unfolding handle_open open_lapsed open_granted open_booked
silent_open w q = silent-proceed _ _ _ (silent-proceed _ _ _ (silent-proceed _ _ _ (silent-send _ _)))

silent_close : (w : World) (q : Packet) → Silent (handle_close w q)
unfolding handle_close close_pending close_circuit
silent_close w q =
    silent-proceed _ _ _
    (silent-cond (any (named_by (sender q) q.context) w.pending)
    (close_pending w q (pick (named_by (sender q) q.context) no_pending w.pending))
    (close_circuit w q (named_circuit w q)) (silent-send _ _) (silent-send _ _))

silent-dispatch : (h : Handling) (w : World) (q : Packet) → Silent (dispatch h w q)
unfolding dispatch handle_accept accept_with handle_data data_with handle_window window_with
silent-dispatch OPEN w q = silent_open w q
silent-dispatch ACCEPT w q = silent-proceed _ _ _ (silent-send _ _)
silent-dispatch DATA w q = silent-proceed _ _ _ (silent-send _ _)
silent-dispatch WINDOW w q = silent-proceed _ _ _ (silent-send _ _)
silent-dispatch CLOSE w q = silent_close w q
silent-dispatch ERROR w q = silent_close w q
silent-dispatch other w q = silent-refuse _ _

-- ---- acknowledge
silent-undelivered : (k : InflightKind) (w : World) (id : ℕ) → Silent (undelivered k w id)
unfolding undelivered fail_incoming fail_pending
silent-undelivered Incoming w id =
    silent-cond (has_pending w id) (fail_pending w id (pending_in w id)) (done w []) (silent-send _ _) (silent-done _ _)
silent-undelivered Opened w id = silent-done _ _
silent-undelivered Data w id = silent-done _ _
silent-undelivered Control w id = silent-done _ _
silent-undelivered Close w id = silent-done _ _

silent-settled : (w : World) (a : InflightAction) (delivered : Bool) → Silent (settled w a delivered)
unfolding settled
silent-settled w a true = silent-done _ _
silent-settled w a false = silent-undelivered _ _ _

silent_switch : (w : World) (on : Bool) → Silent (switch_to w on)
unfolding switch_to revoke_all
silent_switch w true = silent-done _ _
silent_switch w false = silent-done _ _

-- ---- every call
pub start-silent : (w : World) (s : Start) → Silent (start w s)
unfolding start new_relay
start-silent w s = silent-proceed _ _ _ (silent-done _ _)

pub step-silent : (w : World) (c : Call) → Silent (step w c)
unfolding step status next_due observe_time replace_enabled handle handle_gate acknowledge acknowledge_action disconnect
    disconnect_peer revoke_reservation revoke_under expire expire_at revoke_all
step-silent w (call_status peer circuit) = silent-proceed _ _ _ (silent-telling _ _)
step-silent w call_next_due = silent-proceed _ _ _ (silent-telling _ _)
step-silent w (call_observe_time now) = silent-proceed _ _ _ (silent-done _ _)
step-silent w (call_replace_enabled expected enabled room) =
    silent-proceed _ _ _
    (silent-cond (changes w enabled) (switch_to w enabled) (done w []) (silent_switch _ _) (silent-done _ _))
step-silent w (call_handle packet room) = silent-proceed _ _ _ (silent-proceed _ _ _ (silent-dispatch _ _ _))
step-silent w (call_acknowledge generation sequence delivered room) = silent-proceed _ _ _ (silent-settled _ _ _)
step-silent w (call_disconnect peer room) = silent-proceed _ _ _ (silent-done _ _)
step-silent w (call_revoke_reservation id room) = silent-proceed _ _ _ (silent-done _ _)
step-silent w (call_expire now room) = silent-proceed _ _ _ (silent-done _ _)

-- so the lent output is as it was
pub refusal_leaves_output : (w : World) (c : Call) (e : HnsrRuntimeError) (old : List ℕ) → (step w c).answer ≡ Err e
    → output old (step w c).routes ≡ old
unfolding output out_words
refusal_leaves_output w c e old h = rw ((step-silent w c).none e h)
