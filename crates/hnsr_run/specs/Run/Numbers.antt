-- The action sequence goes by the routes: each call moves it on by as many routes as it writes, and a switch starts it
-- at 1 again.
use Prim.Native.Nat.{ℕ, zero, suc, ◌+◌}
use Rattle.std.proofs.Common.{arith, sym, ap, ◌∙◌, length-append, eq-eqb, ne_eqb}
use Rattle.std.specs.Prelude.{◌≡◌, refl, Bool, true, false, cond, List, [], ◌∷◌, ◌++◌, eqb, length, Ok, Err}
use Rattle.std.specs.Prelude.{Option, Some}
use Rattle.hns_encoding.specs.Laws.Tests.{choose}
use Rattle.hnsr_circuit.specs.Laws.Walks.{where-cases}
use Rattle.hnsr_body.specs.declared.messages.Notice.{Notice}
use Rattle.hnsr_circuit.specs.declared.peer.HnsrPeerId.{HnsrPeerId}
use Rattle.hnsr_circuit.specs.declared.records.RelayPending.{RelayPending}
use Rattle.hnsr_circuit.specs.declared.records.RelayCircuit.{RelayCircuit}
use Rattle.hnsr_circuit.specs.declared.records.InflightAction.{InflightAction}
use Rattle.hnsr_circuit.specs.declared.tables.scan.Walked.{Walked}
use Rattle.hnsr_circuit.specs.Table.{any, pick, not_yet, next}
use Rattle.hnsr_circuit.specs.Pending.{no_pending, pending_id, named_by}
use Rattle.hnsr_circuit.specs.Circuits.{circuit_id, circuit_at}
use Rattle.hnsr_circuit.specs.declared.records.InflightKind.{InflightKind}
use Rattle.hnsr_circuit.specs.declared.records.InflightKind.TheVariants.{Incoming, Opened, Data, Control, Close}
use Rattle.hnsr_circuit.specs.Route.{Route}
use Rattle.hnsr_circuit.specs.World.{World, Outcome, done, proceed}
use Rattle.hnsr_circuit.specs.Queue.{Message, generation_of, sequence_of, queued, routed}
use Rattle.hnsr_circuit.specs.Queue.{can_queue, send, Sent, and_then, tell_if, tell}
use Rattle.hnsr_circuit.specs.Answers.{HnsrAnswer, ◌then◌}
use Rattle.hnsr_circuit.specs.Entry.{room_answer, revoking_words}
use Rattle.hnsr_circuit.specs.Packet.{Packet, sender, named_circuit}
use Rattle.hnsr_circuit.specs.Open.{with_open, open_booked, open_granted, open_lapsed, handle_open}
use Rattle.hnsr_circuit.specs.Accept.{with_accept, accept_with, handle_accept}
use Rattle.hnsr_circuit.specs.Data.{with_data, data_with, handle_data}
use Rattle.hnsr_circuit.specs.Window.{with_window, window_with, handle_window}
use Rattle.hnsr_circuit.specs.Close.{close_pending, close_circuit, handle_close}
use Rattle.hnsr_circuit.specs.Handle.{Handling, OPEN, ACCEPT, DATA, WINDOW, CLOSE}
use Rattle.hnsr_circuit.specs.Handle.{ERROR, other, dispatch, handle_gate, handle}
use Rattle.hnsr_circuit.specs.Acknowledge.{generation_answer, released, fail_pending, fail_incoming}
use Rattle.hnsr_circuit.specs.Acknowledge.{undelivered, settled, acknowledge_action, acknowledge}
use Rattle.hnsr_circuit.specs.Revocation.{without_actions, without_pending, end_pending, end_circuit, end_pending_there}
use Rattle.hnsr_circuit.specs.Revocation.{end_circuit_there, has_pending, pending_in}
use Rattle.hnsr_circuit.specs.Revocation.{revoke_pending, revoke_circuit_there}
use Rattle.hnsr_circuit.specs.Revocation.{revoke_circuit, walk_from, walk, pending_table, circuit_table, revoke_all}
use Rattle.hnsr_circuit.specs.RevokingCalls.{disconnect_pending, disconnect_peer, disconnect}
use Rattle.hnsr_circuit.specs.RevokingCalls.{revoke_under, revoke_reservation, expire_at, expire, changes}
use Rattle.hnsr_circuit.specs.RevokingCalls.{change_answer, switched, switch_to, replace_enabled}
use Rattle.hnsr_circuit.specs.New.{observe_time}
use Rattle.hnsr_circuit.specs.Status.{status}
use Rattle.hnsr_circuit.specs.NextDue.{next_due}
use Rattle.hnsr_circuit.specs.Call.{Call, call_status, call_next_due, call_observe_time}
use Rattle.hnsr_circuit.specs.Call.{call_replace_enabled, call_handle}
use Rattle.hnsr_circuit.specs.Call.{call_acknowledge, call_disconnect, call_revoke_reservation, call_expire, step}
use Rattle.hnsr_run.specs.Run.Walks.{when-cases}

pub record Counts (w v : World) (rs : List Route) : Type 0 where
  pub generation : generation_of v ≡ generation_of w
  pub sequence : sequence_of v ≡ sequence_of w + length rs

-- nothing written
still : (w v : World) → generation_of v ≡ generation_of w → sequence_of v ≡ sequence_of w → Counts w v []
still w v g s = record { generation = g; sequence = omega arith }

stay : (w : World) → Counts w w []
stay w = still w w refl refl

onward : {u v w : World} {rs ss : List Route} → Counts u v rs → Counts v w ss → Counts u w (rs ++ ss)
onward {rs = rs} {ss = ss} a b = record {
  generation = b.generation ∙ a.generation;
  sequence = omega (arith, a.sequence, b.sequence, length-append rs ss);
}

-- what is written is written after a change that writes nothing
from : {u v : World} {rs : List Route} (w : World) → generation_of v ≡ generation_of w → sequence_of v ≡ sequence_of w
    → Counts v u rs → Counts w u rs
from w g s c = record { generation = c.generation ∙ g; sequence = omega (arith, c.sequence, s) }

queued-counts : (m : Message) (w : World) (r : Route) → Counts w (queued m w) (r ∷ [])
unfolding queued
queued-counts m w r = record { generation = refl; sequence = refl }

-- ---- an outcome, and a part of a call
abbrev Counted : World → Outcome → Type 0
Counted w o = Counts w o.world o.routes

abbrev CountedPart : World → Sent → Type 0
CountedPart w s = Counts w s.world s.routes

proceed-counts : (u w : World) (a : HnsrAnswer) (o : Outcome) → Counts u w [] → Counted u o → Counted u (proceed w a o)
unfolding proceed
proceed-counts u w (Ok _) o s t = t
proceed-counts u w (Err e) o s t = s

send-counts : (w : World) (m : Message) → Counted w (send w m)
unfolding send
send-counts w m = proceed-counts w w (can_queue m w) _ (stay w) (queued-counts m w (routed m w))

tell-if-counts : (a : HnsrAnswer) (m : Message) (w : World) → CountedPart w (tell_if a m w)
unfolding tell_if
tell-if-counts (Ok _) m w = queued-counts m w (routed m w)
tell-if-counts (Err e) m w = stay w

tell-counts : (m : Message) (w : World) → CountedPart w (tell m w)
unfolding tell
tell-counts m w = tell-if-counts (can_queue m w) m w

two-counts : (m n : Message) (w : World) → CountedPart w (and_then (tell m w) (tell n))
two-counts m n w = onward (tell-counts m w) (tell-counts n (tell m w).world)

-- ---- ends and revocations
end_pending_counts : {rs : List Route} {u : World} (w : World) (p : RelayPending → Bool) (id : ℕ)
    → Counts (end_pending w p id) u rs → Counts w u rs
unfolding end_pending without_pending without_actions
end_pending_counts w p id c = from w refl refl c

end_circuit_counts : {rs : List Route} {u : World} (w : World) (id : ℕ) → Counts (end_circuit w id) u rs → Counts w u rs
unfolding end_circuit without_actions
end_circuit_counts w id c = from w refl refl c

end_pending_there_counts : {rs : List Route} {u : World} (w : World) (place : ℕ)
    → Counts (end_pending_there w place) u rs
    → Counts w u rs
unfolding end_pending_there without_actions
end_pending_there_counts w place c = from w refl refl c

end_circuit_there_counts : {rs : List Route} {u : World} (w : World) (place : ℕ)
    → Counts (end_circuit_there w place) u rs
    → Counts w u rs
unfolding end_circuit_there without_actions
end_circuit_there_counts w place c = from w refl refl c

revoke-pending-counts : (n : Notice) (w : World) (place : ℕ) → CountedPart w (revoke_pending n w place)
unfolding revoke_pending
revoke-pending-counts n w place = end_pending_there_counts w place (two-counts _ _ (end_pending_there w place))

pub disconnect-pending-counts : (peer : HnsrPeerId) (w : World) (place : ℕ)
    → CountedPart w (disconnect_pending peer w place)
unfolding disconnect_pending
disconnect-pending-counts peer w place = end_pending_there_counts w place (tell-counts _ (end_pending_there w place))

revoke-there-counts : (n : Notice) (w : World) (place : ℕ) → CountedPart w (revoke_circuit_there n w place)
unfolding revoke_circuit_there
revoke-there-counts n w place = end_circuit_there_counts w place (two-counts _ _ (end_circuit_there w place))

revoke-circuit-counts : (n : Notice) (w : World) (id : ℕ) → CountedPart w (revoke_circuit n w id)
unfolding revoke_circuit
revoke-circuit-counts n w id =
    when-cases (CountedPart w) (any (circuit_at id) w.circuits) _ w (λ e. revoke-there-counts n w _) (λ e. stay w)

module _ {A : Type 0} (id_of : A → ℕ) (table : World → List A) (p : A → Bool) (end : World → ℕ → Sent)
    (each : (w : World) (place : ℕ) → CountedPart w (end w place)) where
  walk-from-counts : (turns : ℕ) (c : Option Walked) (w : World) → CountedPart w (walk_from id_of table p end turns c w)
  unfolding walk_from
  walk-from-counts zero c w = stay w
  walk-from-counts (suc turns) c w =
      where-cases (CountedPart w) end (walk_from id_of table p end turns) (next id_of p c (table w)) w
      (λ n e. onward (each w n.place) (walk-from-counts turns (Some n) (end w n.place).world)) (λ e. stay w)

  walk-counts : (w : World) → CountedPart w (walk id_of table p end w)
  unfolding walk
  walk-counts w = walk-from-counts (length (table w)) not_yet w

revoke-all-counts : (end_p : World → ℕ → Sent) (p : RelayPending → Bool) (end_c : World → ℕ → Sent)
    (c : RelayCircuit → Bool) (w : World)
    → ((w : World) (place : ℕ) → CountedPart w (end_p w place))
    → ((w : World) (place : ℕ) → CountedPart w (end_c w place)) → Counted w (revoke_all end_p p end_c c w)
unfolding revoke_all
revoke-all-counts end_p p end_c c w a b =
    onward (walk-counts pending_id pending_table p end_p a w) (walk-counts circuit_id circuit_table c end_c b _)

-- ---- handle
open_counts : (w : World) (q : Packet) → Counted w (handle_open w q)
unfolding handle_open open_lapsed open_granted open_booked with_open
open_counts w q =
    proceed-counts w _ _ _ (stay w)
    (proceed-counts w _ _ _ (still w _ refl refl)
    (proceed-counts w _ _ _ (still w _ refl refl) (from w refl refl (send-counts _ _))))

accept_counts : (w : World) (q : Packet) → Counted w (handle_accept w q)
unfolding handle_accept accept_with with_accept
accept_counts w q = proceed-counts w _ _ _ (stay w) (from w refl refl (send-counts _ _))

data_counts : (w : World) (q : Packet) → Counted w (handle_data w q)
unfolding handle_data data_with with_data
data_counts w q = proceed-counts w _ _ _ (stay w) (from w refl refl (send-counts _ _))

window-counts : (w : World) (q : Packet) → Counted w (handle_window w q)
unfolding handle_window window_with with_window
window-counts w q = proceed-counts w _ _ _ (stay w) (from w refl refl (send-counts _ _))

close_counts : (w : World) (q : Packet) → Counted w (handle_close w q)
unfolding handle_close close_pending close_circuit
close_counts w q =
    proceed-counts w _ _ _ (stay w)
    (choose (Counted w) (any (named_by (sender q) q.context) w.pending)
    (close_pending w q (pick (named_by (sender q) q.context) no_pending w.pending))
    (close_circuit w q (named_circuit w q))
    (λ e. end_pending_counts w _ _ (send-counts _ _))
    (λ e. end_circuit_counts w _ (send-counts _ _)))

dispatch-counts : (k : Handling) (w : World) (q : Packet) → Counted w (dispatch k w q)
unfolding dispatch
dispatch-counts OPEN w q = open_counts w q
dispatch-counts ACCEPT w q = accept_counts w q
dispatch-counts DATA w q = data_counts w q
dispatch-counts WINDOW w q = window-counts w q
dispatch-counts CLOSE w q = close_counts w q
dispatch-counts ERROR w q = close_counts w q
dispatch-counts other w q = stay w

-- ---- acknowledge
undelivered-counts : (k : InflightKind) (w : World) (id : ℕ) → Counted w (undelivered k w id)
unfolding undelivered fail_incoming fail_pending without_pending
undelivered-counts Incoming w id =
    choose (Counted w) (has_pending w id) (fail_pending w id (pending_in w id)) (done w [])
    (λ e. from w refl refl (send-counts _ _))
    (λ e. stay w)
undelivered-counts Opened w id = revoke-circuit-counts _ w id
undelivered-counts Data w id = revoke-circuit-counts _ w id
undelivered-counts Control w id = revoke-circuit-counts _ w id
undelivered-counts Close w id = stay w

settled-counts : (w : World) (a : InflightAction) (delivered : Bool) → Counted w (settled w a delivered)
unfolding settled
settled-counts w a true = stay w
settled-counts w a false = undelivered-counts _ w _

-- ---- every call: the sequence as it was, or 1 after a switch, and the routes on top
abbrev Numbered : World → Outcome → Type 0
Numbered w o =
    sequence_of o.world ≡ cond (eqb (generation_of o.world) (generation_of w)) (sequence_of w) 1 + length o.routes

same-generation : (w : World) (o : Outcome) → Counted w o → Numbered w o
same-generation w o c =
    c.sequence
    ∙ ap (λ b. cond b (sequence_of w) 1 + length o.routes)
    (sym (eq-eqb (generation_of o.world) (generation_of w) c.generation))

switch_counts : (w : World) (on : Bool) → Counted (switched w on) (switch_to w on)
unfolding switch_to
switch_counts w true = stay (switched w true)
switch_counts w false = revoke-all-counts _ _ _ _ (switched w false) (revoke-pending-counts _) (revoke-there-counts _)

new-generation : (w : World) (on : Bool) (o : Outcome) → Counted (switched w on) o → Numbered w o
new-generation w on o c =
    c.sequence
    ∙ ap (λ b. cond b (sequence_of w) 1 + length o.routes)
    (sym (ne_eqb (generation_of o.world) (generation_of w) (λ e. omega (arith, c.generation))))

replace_numbered : (w : World) (expected : ℕ) (on : Bool) (room : ℕ) → Numbered w (replace_enabled w expected on room)
unfolding replace_enabled proceed
replace_numbered w expected on room =
    pass (room_answer w room (revoking_words w)
    then generation_answer (generation_of w) expected
    then change_answer (generation_of w) (changes w on))
  where
    rest : Numbered w (cond (changes w on) (switch_to w on) (done w []))
    rest =
        choose (Numbered w) (changes w on) (switch_to w on) (done w [])
        (λ e. new-generation w on (switch_to w on) (switch_counts w on))
        (λ e. same-generation w (done w []) (stay w))

    pass : (a : HnsrAnswer) → Numbered w (proceed w a (cond (changes w on) (switch_to w on) (done w [])))
    pass (Ok _) = rest
    pass (Err e) = same-generation w (done w []) (stay w)

pub step-numbered : (w : World) (c : Call) → Numbered w (step w c)
unfolding step status next_due observe_time handle handle_gate acknowledge acknowledge_action released disconnect
    disconnect_peer revoke_reservation revoke_under expire expire_at
step-numbered w (call_status peer circuit) =
    same-generation w (step w (call_status peer circuit)) (proceed-counts w _ _ _ (stay w) (stay w))
step-numbered w call_next_due = same-generation w (step w call_next_due) (proceed-counts w _ _ _ (stay w) (stay w))
step-numbered w (call_observe_time now) =
    same-generation w (step w (call_observe_time now)) (proceed-counts w _ _ _ (stay w) (still w _ refl refl))
step-numbered w (call_replace_enabled expected on room) = replace_numbered w expected on room
step-numbered w (call_handle q room) =
    same-generation w (step w (call_handle q room))
    (proceed-counts w _ _ _ (stay w)
    (proceed-counts w _ _ _ (still w _ refl refl) (from w refl refl (dispatch-counts _ _ q))))
step-numbered w (call_acknowledge g s delivered room) =
    same-generation w (step w (call_acknowledge g s delivered room))
    (proceed-counts w _ _ _ (stay w) (from w refl refl (settled-counts _ _ delivered)))
step-numbered w (call_disconnect peer room) =
    same-generation w (step w (call_disconnect peer room))
    (proceed-counts w _ _ _ (stay w)
    (from w refl refl (revoke-all-counts _ _ _ _ _ (disconnect-pending-counts _) (revoke-there-counts _))))
step-numbered w (call_revoke_reservation id room) =
    same-generation w (step w (call_revoke_reservation id room))
    (proceed-counts w _ _ _ (stay w)
    (from w refl refl (revoke-all-counts _ _ _ _ _ (revoke-pending-counts _) (revoke-there-counts _))))
step-numbered w (call_expire now room) =
    same-generation w (step w (call_expire now room))
    (proceed-counts w _ _ _ (stay w)
    (from w refl refl (revoke-all-counts _ _ _ _ _ (revoke-pending-counts _) (revoke-there-counts _))))
