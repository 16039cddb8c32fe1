-- DATA where nothing is outstanding: the side that sends, the room, and that entry, clock and gate are passed.
use Rattle.std.specs.Prelude.{ℕ, ◌≤◌, ◌≡◌, Bool, true, false, cond, ◌&&◌, ◌||◌, [], ltb, eqb, length, Ok}
use Rattle.std.proofs.Common.{arith, sym, ◌∙◌, le-ltb, ne_eqb}
use Rattle.std.proofs.Math.Path.{ap}
use Rattle.std.proofs.Math.Bool.{not, or-true}
use Rattle.hns_encoding.specs.Laws.Tests.{split, clash}
use Rattle.hns_encoding.specs.Sums.{one, total, count}
use Rattle.hns_encoding.specs.Laws.Sums.{total-le}
use Rattle.std.specs.Prelude.{Err}
use Rattle.hnsr_body.specs.declared.error.HnsrInvalid.TheVariants.{ContextZero}
use Rattle.hnsr_body.specs.declared.error.HnsrProtocolError.TheVariants.{Invalid, TooLarge}
use Rattle.hnsr_body.specs.Packet.{packet_checked, packet_size, most_packet, sample_routes}
use Rattle.hnsr_circuit.specs.declared.peer.HnsrPeerId.{HnsrPeerId}
use Rattle.hnsr_circuit.specs.declared.config.OpaqueRelayConfig.{OpaqueRelayConfig}
use Rattle.hnsr_circuit.specs.declared.records.RelayCircuit.{RelayCircuit}
use Rattle.hnsr_circuit.specs.declared.records.RelaySide.{RelaySide}
use Rattle.hnsr_circuit.specs.declared.records.RelaySide.TheVariants.{Requester, Endpoint}
use Rattle.hnsr_circuit.specs.declared.answer.HnsrRuntimeError.TheVariants.{Short, InvalidPeer, ClockRollback}
use Rattle.hnsr_circuit.specs.declared.answer.HnsrRuntimeError.TheVariants.{Disabled, Capacity}
use Rattle.hnsr_circuit.specs.Answers.{HnsrAnswer, check, body_answer, ◌then◌}
use Rattle.hnsr_circuit.specs.Table.{also}
use Rattle.hnsr_circuit.specs.Peer.{same_peer}
use Rattle.hnsr_circuit.specs.Circuits.{is_side, side_of, peer_at, credit_of}
use Rattle.hnsr_circuit.specs.Inflight.{retained, action_under, action_toward, tallied, capacity_left, capacity_answer}
use Rattle.hnsr_circuit.specs.World.{World, config_of, proceed, at_time}
use Rattle.hnsr_circuit.specs.Entry.{handle_words, room_answer, peer_answer, packet_answer, clock_answer}
use Rattle.hnsr_circuit.specs.Packet.{Packet, sender}
use Rattle.hnsr_circuit.specs.Data.{handle_data}
use Rattle.hnsr_circuit.specs.Handle.{handling_of, dispatch, entry_answer, gate_answer, handle_gate, handle}
use Rattle.hnsr_circuit.specs.Call.{call_handle, step}
use Rattle.hnsr_circuit.specs.Laws.Peer.{same_names, names_same}
use Rattle.hnsr_circuit.specs.Laws.Answers.{taken_then, taken-check}
use Rattle.hnsr_run.specs.Past.{Known, Action, Past, peer_on, credit}
use Rattle.hnsr_run.specs.Claim.{Sends}
use Rattle.hnsr_run.specs.Run.Actions.{in_use}
use Rattle.hnsr_run.specs.Run.Circuits.{Agrees}
use Rattle.hnsr_run.specs.Run.Limits.{limits}
use Rattle.hnsr_run.specs.Run.Rel.{Rel, Places}
use Rattle.hnsr_run.specs.Run.Steps.{room-same, handling_data}

-- ---- the side that sends
pub side-is : (side : RelaySide) (q : Packet) {c : RelayCircuit} {k : Known} → Agrees c k
    → same_peer (peer_on side k) (sender q) ≡ true
    → (side_of (sender q) c ≡ side) × (is_side (sender q) c ≡ true)
unfolding side_of
side-is Requester q {c} {k} A e = let f = ap (λ (p : HnsrPeerId). same_peer p (sender q)) A.requester ∙ e in
    (ap (λ b. cond {A = RelaySide} b Requester Endpoint) f, ap (λ b. b || same_peer c.endpoint (sender q)) f)
side-is Endpoint q {c} {k} A e =
    let f = ap (λ (p : HnsrPeerId). same_peer p (sender q)) A.endpoint ∙ e in
    let n : same_peer c.requester (sender q) ≡ false = split (same_peer c.requester (sender q))
    (λ t. clash (names_same k.requester k.endpoint
    (same_names k.requester (sender q) (sym (ap (λ (p : HnsrPeerId). same_peer p (sender q)) A.requester) ∙ t)
    ∙ sym (same_names k.endpoint (sender q) e))) A.apart) (λ t. t) in (
      ap (λ b. cond {A = RelaySide} b Requester Endpoint) n,
      ap (λ b. same_peer c.requester (sender q) || b) f ∙ or-true (same_peer c.requester (sender q)),
    )

pub credit-is : (side : RelaySide) {c : RelayCircuit} {k : Known} → Agrees c k → credit_of side c ≡ credit side k
credit-is Requester A = omega (arith, A.credit_r)
credit-is Endpoint A = omega (arith, A.credit_e)

pub peer-is : (side : RelaySide) {c : RelayCircuit} {k : Known} → Agrees c k → peer_at side c ≡ peer_on side k
peer-is Requester A = A.requester
peer-is Endpoint A = A.endpoint

-- ---- room, where nothing is outstanding
pub has_room : {w : World} {h : Past} → Rel w h → h.out ≡ [] → (j : ℕ) (p : HnsrPeerId)
    → capacity_answer (config_of w) (tallied false j p w.inflight) ≡ Ok tt
unfolding capacity_answer capacity_left tallied action_under action_toward
has_room {w} {h} R e j p =
    let H = R.base.full.acts.held in
    let t = w.inflight in
    let all : count in_use t ≡ 0 = H.same (λ a. 1) ∙ ap (total (λ (a : Action). 1)) e in
    let a = total-le (one (retained false j)) (one in_use) t (λ i. most i.used true) in
    let b = total-le (one (also (retained false j) (action_under j))) (one in_use) t
    (λ i. twice i.used true (i.used && eqb i.circuit_id j)) in
    let c = total-le (one (also (retained false j) (action_toward p))) (one in_use) t
    (λ i. twice i.used true (i.used && same_peer i.destination p)) in
    let L = limits h.head.config R.base.good in
    let x = R.base.heads.config in
    taken-check (eqb (capacity_left (config_of w) (tallied false j p t)) 0) Capacity
    (ne_eqb (capacity_left (config_of w) (tallied false j p t)) 0
    (λ z. omega (
      arith,
      L.actions,
      L.per_circuit,
      L.per_peer,
      ap (λ (k : OpaqueRelayConfig). k.maximum_inflight_actions) x,
      ap
          (λ (k : OpaqueRelayConfig). k.maximum_inflight_actions_per_circuit) x,
      ap (λ (k : OpaqueRelayConfig). k.maximum_inflight_actions_per_peer) x,
    )))
  where
    most : (u b : Bool) → cond {A = ℕ} (u && b) 1 0 ≤ cond u 1 0
    most true true = omega arith
    most true false = omega arith
    most false b = omega arith

    twice : (u b d : Bool) → cond {A = ℕ} ((u && b) && d) 1 0 ≤ cond u 1 0
    twice true true true = omega arith
    twice true true false = omega arith
    twice true false d = omega arith
    twice false b d = omega arith

-- ---- entry, clock and gate are passed
module _ {w : World} {h : Past} (R : Rel w h) (H : Places w) (q : Packet) (room j : ℕ) (side : RelaySide)
    (active : h.active j ≡ true) (s : Sends h j side q room) where
  some-context : eqb q.context 0 ≡ false
  some-context = ap (λ x. eqb x 0) s.context ∙ R.base.full.real j active

  packet-taken : packet_answer q.opcode q.context (length q.body) ≡ Ok tt
  unfolding packet_answer packet_checked
  packet-taken =
      ap (λ b. body_answer (cond b (Err (TooLarge (packet_size (length q.body)) most_packet))
      (cond (eqb q.context 0 && not (eqb q.opcode sample_routes)) (Err (Invalid ContextZero)) (Ok tt))))
      (le-ltb most_packet (packet_size (length q.body)) (omega (arith, s.fits)))
      ∙ ap (λ b. body_answer (cond (b && not (eqb q.opcode sample_routes)) (Err (Invalid ContextZero)) (Ok tt)))
      some-context

  entry-taken : (entry_answer w q room then clock_answer w.runtime.trusted_time_high_water q.now) ≡ Ok tt
  unfolding entry_answer peer_answer clock_answer
  entry-taken = taken_then (entry_answer w q room) (clock_answer w.runtime.trusted_time_high_water q.now)
      (taken_then (room_answer w room handle_words)
      (peer_answer (length q.source) then packet_answer q.opcode q.context (length q.body))
      (room-same w H room handle_words ∙ ap (λ b. check b Short) (le-ltb room handle_words s.words))
      (taken_then (peer_answer (length q.source)) (packet_answer q.opcode q.context (length q.body))
      (ap (λ b. check (not b) InvalidPeer) s.named) packet-taken))
      (taken-check (ltb q.now w.runtime.trusted_time_high_water) ClockRollback
      (le-ltb q.now w.runtime.trusted_time_high_water (omega (arith, s.forward, R.base.heads.clock))))

  on : w.runtime.enabled ≡ true
  on = R.base.heads.enabled ∙ split h.head.enabled (λ e. e) (λ e. clash active (R.quiet e j))

  pub is_data_lem : step w (call_handle q room) ≡ handle_data (at_time w q.now) q
  unfolding step handle handle_gate gate_answer dispatch proceed
  is_data_lem = ap (λ (a : HnsrAnswer). proceed w a (handle_gate (at_time w q.now) q)) entry-taken
      ∙ ap (λ b.
      proceed (at_time w q.now) (check (not b) Disabled) (dispatch (handling_of q.opcode) (at_time w q.now) q)) on
      ∙ ap (λ k. dispatch k (at_time w q.now) q) (handling_data q.opcode s.opcode)
