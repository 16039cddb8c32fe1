-- What the code does for a packet is the definition's: which handling an opcode picks; and a packet that the entry
-- takes has a short body.
use Rattle.std.specs.Prelude.{ℕ, ◌+◌, ◌≤◌, ◌<◌, ◌≡◌, Bool, true, cond, not, ◌&&◌, ◌||◌, List, eqb, ltb, length, Ok, Err}
use Rattle.std.proofs.Common.{arith, ◌∙◌, ltb-false, eqb-true, ne_eqb}
use Rattle.std.proofs.Math.Path.{sym, ap}
use Rattle.std.proofs.lemmas.Bool.{eqb-false}
use Rattle.hns_encoding.specs.Laws.Tests.{split, on-true, clash}
use Rattle.hnsr_body.specs.declared.error.HnsrInvalid.TheVariants.{ContextZero}
use Rattle.hnsr_body.specs.declared.error.HnsrProtocolError.TheVariants.{Invalid, TooLarge}
use Rattle.hnsr_body.specs.declared.error.HnsrProtocolError.{HnsrProtocolError}
use Rattle.std.specs.Prelude.{Result}
use Rattle.hnsr_body.specs.Packet.{most_packet, sample_routes, packet_size, packet_checked}
use Rattle.hnsr_circuit.specs.declared.records.RelayPending.{RelayPending}
use Rattle.hnsr_circuit.specs.declared.records.RelayCircuit.{RelayCircuit}
use Rattle.hnsr_circuit.specs.declared.records.ReservationUsage.{ReservationUsage}
use Rattle.hnsr_circuit.specs.declared.records.InflightAction.{InflightAction}
use Rattle.hnsr_circuit.specs.declared.runtime.OpaqueRelayRuntime.{OpaqueRelayRuntime}
use Rattle.hnsr_circuit.specs.declared.answer.HnsrRuntimeError.TheVariants.{Short}
use Rattle.hnsr_circuit.specs.Answers.{HnsrAnswer, check, body_answer, taken, ◌then◌}
use Rattle.hnsr_circuit.specs.Runtime.{with_clock}
use Rattle.hnsr_circuit.specs.World.{World, at_time, world_of}
use Rattle.hnsr_circuit.specs.Packet.{Packet}
use Rattle.hnsr_circuit.specs.Entry.{handle_words, too_few, tables_short, room_answer}
use Rattle.hnsr_circuit.specs.Entry.{peer_answer, packet_answer, clock_answer}
use Rattle.hnsr_circuit.specs.Close.{handle_close}
use Rattle.hnsr_circuit.specs.Handle.{other, handling_of, dispatch, entry_answer, handle_gate, handle}
use Rattle.hnsr_circuit.specs.Laws.Answers.{then_taken}
use Rattle.hnsr_circuit.specs.Laws.Queueing.{taken_is}
use Rattle.hnsr_circuit.specs.Laws.Calls.{gone-on}

-- ---- by opcode
-- 19 and 20 are closed alike
pub closes : (n : ℕ) (w : World) (q : Packet) → 19 ≤ n → n < 21 → handle_close w q ≡ dispatch (handling_of n) w q
unfolding handling_of dispatch
closes n w q low high =
    split (eqb n 19)
    (λ t. ap (λ (k : ℕ). dispatch (handling_of k) w q) (sym (eqb-true n 19 t)))
    (λ f. let d = eqb-false n 19 f in ap (λ (k : ℕ). dispatch (handling_of k) w q) {x = 20} {y = n} (omega arith))

past : (n k : ℕ) → k ≤ n → (n ≡ k → ⊥) → k + 1 ≤ n
past n k h d = omega arith

-- what is none of 13 to 18 and not below them
pub at_nineteen : (n : ℕ) → 13 ≤ n → (n ≡ 13 → ⊥) → (n ≡ 14 → ⊥) → (n ≡ 15 → ⊥) → (n ≡ 16 → ⊥) → (n ≡ 17 → ⊥)
    → (n ≡ 18 → ⊥) → 19 ≤ n
at_nineteen n h a b c d e f = past n 18 (past n 17 (past n 16 (past n 15 (past n 14 (past n 13 h a) b) c) d) e) f

apart : (n : ℕ) → (n ≡ 13 → ⊥) → (n ≡ 15 → ⊥) → (n ≡ 17 → ⊥) → (n ≡ 18 → ⊥) → (n ≡ 19 → ⊥) → (n ≡ 20 → ⊥)
    → handling_of n ≡ other
unfolding handling_of
apart n a b c d e f = rw (ne_eqb n 13 a, ne_eqb n 15 b, ne_eqb n 17 c, ne_eqb n 18 d, ne_eqb n 19 e, ne_eqb n 20 f)

pub other-below : (n : ℕ) → n < 13 → handling_of n ≡ other
other-below n h =
    apart n
    (λ e. omega arith)
    (λ e. omega arith)
    (λ e. omega arith)
    (λ e. omega arith)
    (λ e. omega arith)
    (λ e. omega arith)

pub other-above : (n : ℕ) → 21 ≤ n → handling_of n ≡ other
other-above n h =
    apart n
    (λ e. omega arith)
    (λ e. omega arith)
    (λ e. omega arith)
    (λ e. omega arith)
    (λ e. omega arith)
    (λ e. omega arith)

-- 14 and 16, which a relay sends and does not take
pub other-incoming : (n : ℕ) → n ≡ 14 → handling_of n ≡ other
other-incoming n h =
    apart n
    (λ e. omega arith)
    (λ e. omega arith)
    (λ e. omega arith)
    (λ e. omega arith)
    (λ e. omega arith)
    (λ e. omega arith)

pub other-opened : (n : ℕ) → n ≡ 16 → handling_of n ≡ other
other-opened n h =
    apart n
    (λ e. omega arith)
    (λ e. omega arith)
    (λ e. omega arith)
    (λ e. omega arith)
    (λ e. omega arith)
    (λ e. omega arith)

-- ---- a packet that is taken is at most 65,535 bytes, its header included
packet-short : (opcode context n : ℕ) → packet_answer opcode context n ≡ Ok tt → n < 65536
unfolding packet_answer packet_checked
packet-short opcode context n h =
    let large = Err (TooLarge (packet_size n) most_packet) in
    let small = cond (eqb context 0 && not (eqb opcode sample_routes)) (Err (Invalid ContextZero)) (Ok tt) in
    split (ltb most_packet (packet_size n))
    (λ t. clash (ap taken h)
    (ap (λ (x : Result Unit HnsrProtocolError). taken (body_answer x))
    (on-true (ltb most_packet (packet_size n)) large small t)))
    (λ f. let k = ltb-false most_packet (packet_size n) f in omega arith)

module _ (h : OpaqueRelayRuntime) (p : List RelayPending) (c : List RelayCircuit) (l : List ReservationUsage)
    (i : List InflightAction) where
  -- ---- entry and clock
  module _ (q : Packet) (room : ℕ) (few : Bool) (first a : HnsrAnswer)
      (ef : few ≡ too_few h.config (length p) (length c) (length i))
      (er : first ≡ check (ltb room handle_words || few) Short)
      (ea : a ≡ ((first
      then peer_answer (length q.source)
      then packet_answer q.opcode q.context (length q.body))
      then clock_answer h.trusted_time_high_water q.now)) where
    pub rows : a ≡ (entry_answer (world_of h p c l i) q room then clock_answer h.trusted_time_high_water q.now)
    unfolding entry_answer room_answer tables_short
    rows =
        let full = er ∙ ap (λ (b : Bool). check (ltb room handle_words || b) Short) ef in
        ea
        ∙ (λ x. (full x
        then peer_answer (length q.source)
        then packet_answer q.opcode q.context (length q.body))
        then clock_answer h.trusted_time_high_water q.now)

    pub body-short : taken a ≡ true → length q.body < 65536
    body-short t =
        let named = peer_answer (length q.source) in
        let enveloped = packet_answer q.opcode q.context (length q.body) in
        let all = (then_taken (first then named then enveloped) (clock_answer h.trusted_time_high_water q.now)
        (taken_is _ (ap taken (sym ea) ∙ t))).0 in
        packet-short q.opcode q.context (length q.body)
        (then_taken named enveloped (then_taken first (named then enveloped) all).1).1

    pub entered : (h' : OpaqueRelayRuntime) → taken a ≡ true → h' ≡ with_clock h q.now
        → handle_gate (world_of h' p c l i) q ≡ handle (world_of h p c l i) q room
    unfolding handle
    entered h' t eh =
        ap (λ (x : OpaqueRelayRuntime). handle_gate (world_of x p c l i) q) eh
        ∙ sym (gone-on (world_of h p c l i) a _ (handle_gate (at_time (world_of h p c l i) q.now) q) t rows)
