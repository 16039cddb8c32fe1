-- Every call keeps the invariant, taken or refused: entry, clock and gate of `handle`, the opcode's handling, and the
-- other calls.
use Rattle.std.specs.Prelude.{ℕ, ◌+◌, ◌<◌, ◌≡◌, Bool, true, false, cond, not, ◌&&◌, ◌||◌, [], ltb, eqb, length, Ok, Err}
use Rattle.std.proofs.Common.{arith, ap, ◌∙◌}
use Rattle.std.proofs.Math.Path.{refl, sym, subst}
use borrow.Author.Tests.{eqb-true, le-ltb, ltb-true, not-false, not-true}
use Rattle.hns_encoding.specs.Numbers.{top}
use Rattle.hns_encoding.specs.Laws.Tests.{choose, or-none}
use Rattle.hnsr_body.specs.declared.error.HnsrInvalid.TheVariants.{ContextZero}
use Rattle.hnsr_body.specs.declared.error.HnsrProtocolError.TheVariants.{Invalid, TooLarge}
use Rattle.hnsr_body.specs.Packet.{packet_checked, packet_size, most_packet, sample_routes}
use Rattle.hnsr_circuit.specs.declared.answer.HnsrRuntimeError.{HnsrRuntimeError}
use Rattle.hnsr_circuit.specs.declared.answer.HnsrRuntimeError.TheVariants.{Short, Disabled}
use Rattle.hnsr_circuit.specs.Answers.{HnsrAnswer, check, body_answer, ◌then◌}
use Rattle.hnsr_circuit.specs.World.{World, Outcome, status_is, due_is, config_of, done, telling, at_time}
use Rattle.hnsr_circuit.specs.Queue.{sequence_of}
use Rattle.hnsr_circuit.specs.Opcode.{op_open, op_accept, op_data, op_window, op_close, op_error}
use Rattle.hnsr_circuit.specs.Entry.{handle_words, too_few, tables_short, tables_answer}
use Rattle.hnsr_circuit.specs.Entry.{room_answer, peer_answer, packet_answer, clock_answer}
use Rattle.hnsr_circuit.specs.Packet.{Packet}
use Rattle.hnsr_circuit.specs.Handle.{Handling, OPEN, ACCEPT, DATA, WINDOW, CLOSE, ERROR, other}
use Rattle.hnsr_circuit.specs.Handle.{handling_of, dispatch, entry_answer, gate_answer, handle_gate, handle}
use Rattle.hnsr_circuit.specs.New.{observe_time}
use Rattle.hnsr_circuit.specs.Peer.{peer_of}
use Rattle.hnsr_circuit.specs.Status.{status_of, action_capacity, status}
use Rattle.hnsr_circuit.specs.NextDue.{due_of, next_due}
use Rattle.hnsr_circuit.specs.Call.{Call, call_status, call_next_due, call_observe_time}
use Rattle.hnsr_circuit.specs.Call.{call_replace_enabled, call_handle}
use Rattle.hnsr_circuit.specs.Call.{call_acknowledge, call_disconnect, call_revoke_reservation, call_expire, step}
use Rattle.hnsr_circuit.specs.Laws.Answers.{then_taken, check-taken}
use Rattle.hnsr_run.specs.Past.{Past, moved_to}
use Rattle.hnsr_run.specs.History.{Event, taken, entered, handled_as, handle_in, after, after_event}
use Rattle.hnsr_run.specs.Claim.{limits_below}
use Rattle.hnsr_run.specs.Run.Revoking.{clock-taken, disconnect-keeps, revoke-keeps, expire-keeps}
use Rattle.hnsr_run.specs.Run.Switching.{replace_keeps}
use Rattle.hnsr_run.specs.Run.Undelivered.{acknowledge-keeps}
use Rattle.hnsr_run.specs.Run.Data.{data_keeps}
use Rattle.hnsr_run.specs.Run.Window.{window-keeps}
use Rattle.hnsr_run.specs.Run.Closing.{close_keeps}
use Rattle.hnsr_run.specs.Run.Accept.{accept_keeps}
use Rattle.hnsr_run.specs.Run.OpenCall.{open_keeps}
use Rattle.hnsr_run.specs.Run.Rel.{Rel, Places, proceed-cases, refused_differs}
use Rattle.hnsr_run.specs.Run.Rel.{if-not, if-taken, not_taken, moved-rel}

-- ---- the tables are long enough
pub long_enough : (w : World) → Places w → tables_short (config_of w) w ≡ false
unfolding tables_short too_few
long_enough w H =
    three (ltb (length w.pending) (config_of w).maximum_pending)
    (ltb (length w.circuits) (config_of w).maximum_circuits)
    (ltb (length w.inflight) (config_of w).maximum_inflight_actions)
    (le-ltb (length w.pending) (config_of w).maximum_pending H.pending)
    (le-ltb (length w.circuits) (config_of w).maximum_circuits H.circuits)
    (le-ltb (length w.inflight) (config_of w).maximum_inflight_actions H.inflight)
  where
    three : (a b c : Bool) → a ≡ false → b ≡ false → c ≡ false → (a || b || c) ≡ false
    three a b c e f g = rw (e, f, g)

pub room-same : (w : World) → Places w → (room needed : ℕ) → room_answer w room needed ≡ check (ltb room needed) Short
unfolding room_answer
room-same w H room needed =
    ap (λ b. check (ltb room needed || b) Short) (long_enough w H)
    ∙ ap (λ b. check b Short) (sym (or-none (ltb room needed)))

-- ---- entry and clock, in the world and in the past
pub entry-same : {w : World} {h : Past} → Rel w h → Places w → (q : Packet) (room : ℕ)
    → (entry_answer w q room then clock_answer w.runtime.trusted_time_high_water q.now) ≡ entered h q room
unfolding entry_answer
entry-same {w} {h} R H q room =
    λ i. (room-same w H room handle_words i
    then peer_answer (length q.source)
    then packet_answer q.opcode q.context (length q.body))
    then clock_answer (R.base.heads.clock i) q.now

-- an OPEN that passes the entry has a context
packet-context : (opcode context n : ℕ) → opcode ≡ op_open → packet_answer opcode context n ≡ Ok tt
    → eqb context 0 ≡ false
unfolding packet_answer packet_checked
packet-context opcode context n e h =
    from (ltb most_packet (packet_size n)) (eqb context 0)
    (subst (λ x. body_answer (cond (ltb most_packet (packet_size n)) (Err (TooLarge (packet_size n) most_packet))
    (cond (eqb context 0 && not (eqb x sample_routes)) (Err (Invalid ContextZero)) (Ok tt))) ≡ Ok tt) e h)
  where
    from : (a b : Bool)
        → body_answer
        (cond a (Err (TooLarge (packet_size n) most_packet)) (cond (b && true) (Err (Invalid ContextZero)) (Ok tt)))
        ≡ Ok tt
        → b ≡ false
    from true b k = refused_differs k
    from false true k = refused_differs k
    from false false k = refl

-- ---- by opcode (HANDLE.4)
by-opcode : (P : Handling → Type 0) (n : ℕ) → (n ≡ op_open → P OPEN) → (n ≡ op_accept → P ACCEPT)
    → (n ≡ op_data → P DATA)
    → (n ≡ op_window → P WINDOW) → (n ≡ op_close → P CLOSE) → (n ≡ op_error → P ERROR) → P other → P (handling_of n)
unfolding handling_of
by-opcode P n a b c d e f g =
    choose P (eqb n op_open) OPEN _ (λ x. a (eqb-true n op_open x))
    (λ x. choose P (eqb n op_accept) ACCEPT _ (λ y. b (eqb-true n op_accept y))
    (λ y. choose P (eqb n op_data) DATA _ (λ z. c (eqb-true n op_data z))
    (λ z. choose P (eqb n op_window) WINDOW _ (λ u. d (eqb-true n op_window u))
    (λ u. choose P (eqb n op_close) CLOSE _ (λ v. e (eqb-true n op_close v))
    (λ v. choose P (eqb n op_error) ERROR other (λ w. f (eqb-true n op_error w)) (λ w. g))))))

pub handling_data : (n : ℕ) → n ≡ op_data → handling_of n ≡ DATA
unfolding handling_of
handling_data n e =
    ap (λ (m : ℕ). cond (eqb m op_open) OPEN
    (cond (eqb m op_accept) ACCEPT
    (cond (eqb m op_data) DATA
    (cond (eqb m op_window) WINDOW (cond (eqb m op_close) CLOSE (cond (eqb m op_error) ERROR other)))))) e

check_refused : (b : Bool) (x e : HnsrRuntimeError) → check b x ≡ Err e → b ≡ true
check_refused true x e h = refl
check_refused false x e h = sym (unlike h)
  where
    unlike : ◌≡◌ {A = HnsrAnswer} (Ok tt) (Err e) → true ≡ false
    unlike k = cc

module _ {w : World} {h : Past} (R : Rel w h) (H : Places w) (low : sequence_of w < top 64) (q : Packet)
    (clock : h.head.clock ≡ q.now) (context : q.opcode ≡ op_open → eqb q.context 0 ≡ false)
    (limit : q.opcode ≡ op_open → q.admission.admitted ≡ true
    → q.admission.ticket.max_total_bytes < top 64) where
  dispatched : h.head.enabled ≡ true
      → let o = dispatch (handling_of q.opcode) w q in
      Rel o.world (handled_as (handling_of q.opcode) q o.answer o.routes h)
  unfolding dispatch
  dispatched on =
      by-opcode (λ (k : Handling).
      Rel (dispatch k w q).world (handled_as k q (dispatch k w q).answer (dispatch k w q).routes h)) q.opcode
      (λ e. open_keeps R H low q clock on (context e) (limit e))
      (λ e. accept_keeps R H low q clock)
      (λ e. data_keeps R low q e)
      (λ e. window-keeps R low q e)
      (λ e. close_keeps R low q op_close e refl refl)
      (λ e. close_keeps R low q op_error e refl refl)
      R

  gated : let o = handle_gate w q in
      Rel o.world (cond h.head.enabled (handled_as (handling_of q.opcode) q o.answer o.routes h) h)
  unfolding handle_gate gate_answer
  gated =
      proceed-cases (λ (o : Outcome).
      Rel o.world (cond h.head.enabled (handled_as (handling_of q.opcode) q o.answer o.routes h) h)) w
      (gate_answer w.runtime.enabled) (dispatch (handling_of q.opcode) w q)
      (λ e. let on = sym R.base.heads.enabled
      ∙ not-false w.runtime.enabled (check-taken (not w.runtime.enabled) Disabled e) in
      subst (λ b. Rel (dispatch (handling_of q.opcode) w q).world
      (cond b
      (handled_as (handling_of q.opcode) q (dispatch (handling_of q.opcode) w q).answer
      (dispatch (handling_of q.opcode) w q).routes h) h)) (sym on) (dispatched on))
      (λ e f. if-not (λ (g : Past). Rel w g) h.head.enabled _ h (sym R.base.heads.enabled
      ∙ not-true w.runtime.enabled (check_refused (not w.runtime.enabled) Disabled e f)) R)

open_limit : (q : Packet) (room : ℕ) → limits_below (call_handle q room) ≡ true → q.opcode ≡ op_open
    → q.admission.admitted ≡ true
    → q.admission.ticket.max_total_bytes < top 64
open_limit q room l e g =
    let b = ltb q.admission.ticket.max_total_bytes (top 64) in
    ltb-true q.admission.ticket.max_total_bytes (top 64)
    (subst (λ u. (not (eqb op_open op_open && u) || b) ≡ true) g
    (subst (λ n. (not (eqb n op_open && q.admission.admitted) || b) ≡ true) e l))

handle-keeps : {w : World} {h : Past} → Rel w h → Places w → sequence_of w < top 64 → (q : Packet) (room : ℕ)
    → limits_below (call_handle q room) ≡ true
    → let o = handle w q room in Rel o.world (handle_in q room o.answer o.routes h)
unfolding handle entry_answer
handle-keeps {w} {h} R H low q room lim = proceed-cases
    (λ (o : Outcome). Rel o.world (handle_in q room o.answer o.routes h)) w
    (entry_answer w q room then clock_answer high q.now) (handle_gate (at_time w q.now) q)
    (λ e. let entry = room_answer w room handle_words in
    let peer = peer_answer (length q.source) in
    let pack = packet_answer q.opcode q.context (length q.body) in
    let a = then_taken (entry_answer w q room) (clock_answer high q.now) e in
    let b = (then_taken peer pack (then_taken entry (peer then pack) a.0).1).1 in
    let R₁ = moved-rel R q.now (let l = clock-taken high q.now a.1 in omega (arith, R.base.heads.clock)) in
    let o = handle_gate (at_time w q.now) q in
    subst (λ c. Rel o.world
    (cond c
    (cond h.head.enabled (handled_as (handling_of q.opcode) q o.answer o.routes (moved_to h q.now))
    (moved_to h q.now)) h))
    (sym (ap taken (sym (entry-same R H q room) ∙ e)))
    (gated R₁ (record { pending = H.pending; circuits = H.circuits; inflight = H.inflight }) low q refl
    (λ x. packet-context q.opcode q.context (length q.body) x b) (open_limit q room lim)))
    (λ e f. if-not (λ (g : Past). Rel w g) (taken (entered h q room)) _ h
    (ap taken (sym (entry-same R H q room) ∙ f) ∙ not_taken e) R)
  where
    high : ℕ
    high = w.runtime.trusted_time_high_water

-- ---- every call
observe_keeps : {w : World} {h : Past} → Rel w h → (now : ℕ)
    → let o = observe_time w now in Rel o.world (after h (call_observe_time now) o.answer o.routes)
unfolding observe_time
observe_keeps {w} {h} R now =
    proceed-cases (λ (o : Outcome). Rel o.world (after h (call_observe_time now) o.answer o.routes)) w
    (clock_answer w.runtime.trusted_time_high_water now) (done (at_time w now) [])
    (λ e. moved-rel R now
    (let l = clock-taken w.runtime.trusted_time_high_water now e in omega (arith, R.base.heads.clock)))
    (λ e f. if-taken (λ (g : Past). Rel w g) e _ h R)

-- what a call of the machine tells
abbrev pub event_of : World → Call → Event
event_of w c = record { call = c; answer = (step w c).answer; routes = (step w c).routes }

-- the sequence is what the events tell, and below its top before the call and after it
pub step_keeps : {w : World} {h : Past} → Rel w h → Places w → sequence_of w ≡ h.head.next → sequence_of w < top 64
    → (c : Call) → limits_below c ≡ true → (after_event h (event_of w c)).head.next < top 64
    → Rel (step w c).world (after h c (step w c).answer (step w c).routes)
unfolding step status next_due
step_keeps {w} {h} R H now low (call_status peer circuit) lim next =
    proceed-cases (λ (o : Outcome). Rel o.world h) w (tables_answer w then peer_answer (length peer))
    (telling w (status_is (status_of w) (action_capacity w (peer_of peer) circuit)))
    (λ e. R)
    (λ e f. R)
step_keeps {w} {h} R H now low call_next_due lim next =
    proceed-cases (λ (o : Outcome). Rel o.world h) w (tables_answer w) (telling w (due_is (due_of w)))
    (λ e. R)
    (λ e f. R)
step_keeps R H s low (call_observe_time now) lim next = observe_keeps R now
step_keeps R H now low (call_replace_enabled expected on room) lim next = replace_keeps R expected on room
step_keeps R H now low (call_handle q room) lim next = handle-keeps R H low q room lim
step_keeps R H now low (call_acknowledge g s delivered room) lim next = acknowledge-keeps R low g s delivered room
step_keeps {w} {h} R H now low (call_disconnect peer room) lim next =
    let o = step w (call_disconnect peer room) in
    let n = length o.routes in
    disconnect-keeps R peer room (choose (λ (g : Past). g.head.next + n < top 64 → sequence_of w + n < top 64)
    (taken o.answer) _ h (λ x l. omega arith) (λ x l. omega arith) next)
step_keeps R H now low (call_revoke_reservation id room) lim next = revoke-keeps R id room
step_keeps R H s low (call_expire now room) lim next = expire-keeps R now room
