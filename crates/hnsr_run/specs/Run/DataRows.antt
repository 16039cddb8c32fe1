-- DATA's rows one by one, the action that it queues by the side that sends, and a circuit of which more is known.
use Rattle.std.specs.Prelude.{ℕ, ◌+◌, ◌≤◌, ◌≡◌, true, false, cond, not, ◌||◌, List, ltb, eqb, length, Ok}
use Rattle.std.proofs.Common.{arith, sym, ap, ◌∙◌, eqb-true}
use Rattle.std.proofs.lemmas.Bool.{not-false}
use Rattle.hns_encoding.specs.Numbers.{top, saturating_add}
use Rattle.hns_encoding.specs.Laws.Tests.{split, neither}
use Rattle.hnsr_body.specs.declared.values.ReservationId.{ReservationId}
use Rattle.hnsr_body.specs.Data.{data_checked}
use Rattle.hnsr_circuit.specs.declared.records.RelayCircuit.{RelayCircuit}
use Rattle.hnsr_circuit.specs.declared.records.RelaySide.{RelaySide}
use Rattle.hnsr_circuit.specs.declared.records.RelaySide.TheVariants.{Requester, Endpoint}
use Rattle.hnsr_circuit.specs.declared.answer.HnsrRuntimeError.TheVariants.{InvalidAdmission, ByteLimit}
use Rattle.hnsr_circuit.specs.declared.answer.HnsrRuntimeError.TheVariants.{FlowControl, UnknownCircuit, WrongPeer}
use Rattle.hnsr_circuit.specs.Answers.{check, body_answer, ◌then◌}
use Rattle.hnsr_circuit.specs.Peer.{same_peer}
use Rattle.hnsr_circuit.specs.Circuits.{is_side, side_of, other_side, peer_at, credit_of, queued_to, charged}
use Rattle.hnsr_circuit.specs.Ledger.{has_usage, usage_of}
use Rattle.hnsr_circuit.specs.Inflight.{to_endpoint, tallied, capacity_answer}
use Rattle.hnsr_circuit.specs.World.{World, config_of}
use Rattle.hnsr_circuit.specs.Packet.{Packet, sender, has_circuit, circuit_answer, receiver}
use Rattle.hnsr_circuit.specs.Data.{bytes_answer, flow_answer, data_taken}
use Rattle.hnsr_circuit.specs.Laws.Answers.{then_taken, check-taken}
use Rattle.hnsr_circuit.specs.Laws.Peer.{same_refl, same_comm}
use Rattle.hnsr_run.specs.Past.{Known, Action, Past, at, peer_on, toward_side}
use Rattle.hnsr_run.specs.Past.{with_book, with_out, learnt, lives, with_spent}
use Rattle.hnsr_run.specs.History.{known_side, side_in}
use Rattle.hnsr_run.specs.Run.Circuits.{Agrees, none}
use Rattle.hnsr_run.specs.Run.Full.{Full}
use Rattle.hnsr_run.specs.Run.Ends.{circuit-there}
use Rattle.hnsr_run.specs.Run.Books.{Books}
use Rattle.hnsr_run.specs.Run.Rel.{Heads, Rel}

-- ---- more is known of a circuit, not its reservation
at_field : {B : Type 0} (f : Known → B) (j : ℕ) (k : Known) (kn : ℕ → Known) → f k ≡ f (kn j) → (i : ℕ)
    → f (at j k kn i) ≡ f (kn i)
at_field f j k kn e i =
    split (eqb j i)
    (λ q. ap (λ b. f (cond b k (kn i))) q ∙ e ∙ ap (λ x. f (kn x)) (eqb-true j i q))
    (λ q. ap (λ b. f (cond b k (kn i))) q)

pub known-rel : {w : World} {h : Past} → Rel w h
    → (v : World) (j : ℕ) (k : Known) (sp : ReservationId → ℕ) (out : List Action)
    → Full none v (with_out (with_book (learnt h j k) (with_spent h.book sp)) out)
    → Books v.ledger h.head.clock (with_spent h.book sp)
    → k.reservation ≡ (h.known j).reservation → k.expires ≡ (h.known j).expires → Heads v h.head
    → Rel v (with_out (with_book (learnt h j k) (with_spent h.book sp)) out)
known-rel {w} {h} R v j k sp out F B er ee H = record {
  base = record {
    full = F;
    books = B;
    kept = λ i a e.
        let x = at_field (λ y. y.reservation) j k h.known er i in
        let y = at_field (λ y. y.expires) j k h.known ee i in
        let K = R.base.kept i a (ap (ltb h.head.clock) (sym y) ∙ e) in record {
          lives = ap (lives h.head.clock h.book) x ∙ K.lives;
          due = ap h.book.due x ∙ K.due ∙ sym y;
        };
    kept_p = λ i a e. let K = R.base.kept_p i a e in record { lives = K.lives; due = K.due };
    heads = H;
    names = R.base.names;
    drawn = R.base.drawn;
    drawn_p = R.base.drawn_p;
    good = R.base.good;
    below = R.base.below;
  };
  quiet = R.quiet;
  quiet_p = R.quiet_p;
}

-- ---- the circuit that a packet names
pub named-active : {w : World} {h : Past} → Rel w h → (q : Packet) → (c : RelayCircuit)
    → circuit_answer (has_circuit w q.context) c (sender q) ≡ Ok tt
    → h.active q.context ≡ true
unfolding circuit_answer
named-active {w} {h} R q c e = sym (circuit-there w h R.base.full q.context)
    ∙ not-false (has_circuit w q.context)
    (check-taken (not (has_circuit w q.context)) UnknownCircuit
    (then_taken (check (not (has_circuit w q.context)) UnknownCircuit)
    (check (not (is_side (sender q) c)) WrongPeer) e).0)

pub side_same : (q : Packet) {c : RelayCircuit} {k : Known} → Agrees c k → side_of (sender q) c ≡ side_in (sender q) k
unfolding side_of
side_same q A = ap (λ p. cond {A = RelaySide} (same_peer p (sender q)) Requester Endpoint) A.requester

-- and the sender is a side of it
pub named-side : (w : World) (q : Packet) {c : RelayCircuit} {k : Known} → Agrees c k
    → circuit_answer (has_circuit w q.context) c (sender q) ≡ Ok tt
    → known_side (sender q) k ≡ true
unfolding circuit_answer
named-side w q {c} {k} A e = sym (λ i. same_peer (A.requester i) (sender q) || same_peer (A.endpoint i) (sender q))
    ∙ not-false (is_side (sender q) c)
    (check-taken (not (is_side (sender q) c)) WrongPeer
    (then_taken (check (not (has_circuit w q.context)) UnknownCircuit)
    (check (not (is_side (sender q) c)) WrongPeer) e).1)

-- ---- DATA: what its rows say
pub record DataRows (w : World) (q : Packet) (c : RelayCircuit) (side : RelaySide) (n : ℕ) : Type 0 where
  pub size : body_answer (data_checked (length q.body)) ≡ Ok tt
  pub circuit : circuit_answer (has_circuit w q.context) c (sender q) ≡ Ok tt
  pub room : capacity_answer (config_of w) (tallied false q.context (receiver c (sender q)) w.inflight) ≡ Ok tt
  pub ledger : has_usage c.reservation_id w.ledger ≡ true
  pub circuit_bytes : ltb c.maximum_bytes (saturating_add 64 c.forwarded_bytes n) ≡ false
  pub total_bytes : ltb c.maximum_total_bytes
      (saturating_add 64 (usage_of c.reservation_id w.ledger).bytes n) ≡ false
  pub credit : ltb (credit_of side c) n ≡ false
  pub queue : ltb (config_of w).maximum_queue_bytes (saturating_add 64 (queued_to (other_side side) c) n) ≡ false

pub data_rows_lem : (w : World) (q : Packet) (c : RelayCircuit) (side : RelaySide) (n : ℕ)
    → data_taken w q c side n ≡ Ok tt
    → DataRows w q c side n
unfolding data_taken bytes_answer flow_answer
data_rows_lem w q c side n e =
    let body = body_answer (data_checked (length q.body)) in
    let circ = circuit_answer (has_circuit w q.context) c (sender q) in
    let cap = capacity_answer (config_of w) (tallied false q.context (receiver c (sender q)) w.inflight) in
    let u = usage_of c.reservation_id w.ledger in
    let over = ltb c.maximum_bytes (saturating_add 64 c.forwarded_bytes n) in
    let overall = ltb c.maximum_total_bytes (saturating_add 64 u.bytes n) in
    let none-there = check (not (has_usage c.reservation_id w.ledger)) InvalidAdmission in
    let limit = check (over || overall) ByteLimit in
    let bytes = bytes_answer (has_usage c.reservation_id w.ledger) u c n in
    let flow = flow_answer (config_of w) c side n in
    let short = ltb (credit_of side c) n in
    let full = ltb (config_of w).maximum_queue_bytes (saturating_add 64 (queued_to (other_side side) c) n) in
    let a = then_taken body (circ then cap then bytes then flow) e in
    let b = then_taken circ (cap then bytes then flow) a.1 in
    let d = then_taken cap (bytes then flow) b.1 in
    let f = then_taken bytes flow d.1 in
    let g = then_taken none-there limit f.0 in
    let h = neither over overall (check-taken (over || overall) ByteLimit g.1) in
    let i = neither short full (check-taken (short || full) FlowControl f.1) in record {
      size = a.0;
      circuit = b.0;
      room = d.0;
      ledger =
          not-false (has_usage c.reservation_id w.ledger)
          (check-taken (not (has_usage c.reservation_id w.ledger)) InvalidAdmission g.0);
      circuit_bytes = h.0;
      total_bytes = h.1;
      credit = i.0;
      queue = i.1;
    }

-- ---- DATA: the action, by the side that sends
pub to-endpoint : (side : RelaySide) {c : RelayCircuit} {k : Known} → Agrees c k
    → same_peer k.endpoint (peer_at (other_side side) c) ≡ to_endpoint (other_side side)
to-endpoint Requester {c} {k} A = ap (same_peer k.endpoint) A.endpoint ∙ same_refl k.endpoint
to-endpoint Endpoint {c} {k} A =
    ap (same_peer k.endpoint) A.requester ∙ same_comm k.endpoint k.requester ∙ A.apart

pub to-side : (side : RelaySide) {c : RelayCircuit} {k : Known} → Agrees c k
    → same_peer (peer_at (other_side side) c) (peer_on (cond (to_endpoint (other_side side)) Endpoint Requester) k)
    ≡ true
to-side Requester {c} {k} A = ap (λ p. same_peer p k.endpoint) A.endpoint ∙ same_refl k.endpoint
to-side Endpoint {c} {k} A = ap (λ p. same_peer p k.requester) A.requester ∙ same_refl k.requester

-- what is queued for the other side
pub charged-queue : (side s : RelaySide) (n : ℕ) (c : RelayCircuit) (a : Action)
    → a.to_endpoint ≡ to_endpoint (other_side side)
    → queued_to (other_side side) c + n ≤ top 64
    → queued_to s (charged side n c) ≡ queued_to s c + cond (toward_side s a) n 0
charged-queue Requester Requester n c a e l = omega (arith, ap (λ b. cond {A = ℕ} (not b) n 0) e)
charged-queue Requester Endpoint n c a e l = omega (arith, ap (λ b. cond {A = ℕ} b n 0) e)
charged-queue Endpoint Requester n c a e l = omega (arith, ap (λ b. cond {A = ℕ} (not b) n 0) e)
charged-queue Endpoint Endpoint n c a e l = omega (arith, ap (λ b. cond {A = ℕ} b n 0) e)
