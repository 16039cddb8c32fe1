-- DATA once nothing is outstanding passes unchanged if and only if it is within credit and within what circuit and
-- reservation have left.
use Rattle.std.specs.Prelude.{ℕ, ◌≤◌, ◌<◌, ◌≡◌, Bool, true, not, ◌||◌, [], ◌∷◌, leb, length, Ok, Err}
use native.Mathlib.Omega.{arith}
use Rattle.std.proofs.Math.Path.{refl, sym, ap, subst}
use Rattle.std.proofs.Common.{◌∙◌, le-leb, le-ltb, lt-ltb, ltb-false}
use Rattle.std.proofs.Math.Bool.{false}
use Rattle.std.proofs.Math.Dec.{ltb, eqb}
use Rattle.hns_encoding.specs.Numbers.{top, saturating_add}
use Rattle.hns_encoding.specs.Laws.Tests.{join}
use Rattle.hns_encoding.specs.Sums.{total}
use Rattle.hnsr_body.specs.declared.error.HnsrInvalid.TheVariants.{DataSize}
use Rattle.hnsr_body.specs.Causes.{answer}
use Rattle.hnsr_body.specs.Data.{most_data, data_checked}
use Rattle.hnsr_circuit.specs.declared.config.OpaqueRelayConfig.{OpaqueRelayConfig}
use Rattle.hnsr_circuit.specs.declared.records.RelayCircuit.{RelayCircuit}
use Rattle.hnsr_circuit.specs.declared.records.RelaySide.{RelaySide}
use Rattle.hnsr_circuit.specs.declared.answer.HnsrRuntimeError.{HnsrRuntimeError}
use Rattle.hnsr_circuit.specs.declared.answer.HnsrRuntimeError.TheVariants.{UnknownCircuit, WrongPeer}
use Rattle.hnsr_circuit.specs.declared.answer.HnsrRuntimeError.TheVariants.{InvalidAdmission, ByteLimit, FlowControl}
use Rattle.hnsr_circuit.specs.Answers.{HnsrAnswer, check, body_answer, ◌then◌}
use Rattle.hnsr_circuit.specs.Circuits.{is_side, side_of, other_side, peer_at, credit_of, queued_to}
use Rattle.hnsr_circuit.specs.Ledger.{has_usage, usage_of}
use Rattle.hnsr_circuit.specs.Inflight.{tallied, capacity_answer}
use Rattle.hnsr_circuit.specs.World.{World, Outcome, config_of, done, proceed}
use Rattle.hnsr_circuit.specs.Queue.{Message, sequence_of, queued, routed, send}
use Rattle.hnsr_circuit.specs.Packet.{Packet, sender, has_circuit, named_circuit, circuit_answer, receiver}
use Rattle.hnsr_circuit.specs.Data.{bytes_answer, flow_answer, with_data}
use Rattle.hnsr_circuit.specs.Data.{data_message, data_taken, data_with, handle_data}
use Rattle.hnsr_circuit.specs.Laws.Answers.{taken_then}
use Rattle.hnsr_circuit.specs.Laws.Capacity.{can-queue, send-taken}
use Rattle.hnsr_run.specs.Past.{Past, credit, circuit_left, total_left, weight}
use Rattle.hnsr_run.specs.Claim.{Sends, Passes}
use Rattle.hnsr_run.specs.Run.Circuits.{Agrees}
use Rattle.hnsr_run.specs.Run.Ends.{circuit-there}
use Rattle.hnsr_run.specs.Run.InPlace.{agreed}
use Rattle.hnsr_run.specs.Run.Limits.{within-top, top_within}
use Rattle.hnsr_run.specs.Run.DataRows.{DataRows, data_rows_lem}
use Rattle.hnsr_run.specs.Run.Rel.{Live, Rel, refused_differs}
use Rattle.hnsr_run.specs.Run.Entering.{side-is, credit-is, peer-is, has_room}

-- ---- DATA at its time
module _ {w : World} {h : Past} (R : Rel w h) (empty : h.out ≡ []) (low : sequence_of w < top 64) (q : Packet)
    (room j : ℕ) (side : RelaySide) (active : h.active j ≡ true) (s : Sends h j side q room)
    (clock : h.head.clock ≡ q.now) where
  abbrev n : ℕ
  n = length q.body

  c : RelayCircuit
  c = named_circuit w q

  here : h.active q.context ≡ true
  here = ap h.active s.context ∙ active

  A : Agrees c (h.known j)
  unfolding c
  A = subst (λ i. Agrees (named_circuit w q) (h.known i)) s.context (agreed R.base.full q.context here)

  sides : (side_of (sender q) c ≡ side) × (is_side (sender q) c ≡ true)
  sides = side-is side q A s.from

  live : Live h.head.clock h.book (h.known j).reservation (h.known j).expires
  live = R.base.kept j active (lt-ltb h.head.clock (h.known j).expires (omega (arith, clock, s.unexpired)))

  there : has_usage c.reservation_id w.ledger ≡ true
  there =
      ap (λ r. has_usage r w.ledger) A.reservation ∙ R.base.books.there (h.known j).reservation live.lives

  spent-is : (usage_of c.reservation_id w.ledger).bytes ≡ h.book.spent (h.known j).reservation
  spent-is =
      ap (λ r. (usage_of r w.ledger).bytes) A.reservation
      ∙ (R.base.books.stands (h.known j).reservation live.lives).bytes

  Within : Type 0
  Within = (n ≤ credit side (h.known j)) × (n ≤ circuit_left (h.known j)) × (n ≤ total_left h.book (h.known j))

  rows-within : DataRows w q c (side_of (sender q) c) n → Within
  unfolding Within
  rows-within D =
      let x = within-top c.maximum_bytes c.forwarded_bytes n
      (subst (λ m. m < top 64) (sym A.maximum) A.limited) D.circuit_bytes in
      let y = within-top c.maximum_total_bytes (usage_of c.reservation_id w.ledger).bytes n (subst
      (λ m. m < top 64) (sym A.total) A.totalled) D.total_bytes in
      let z = subst (λ d. ltb (credit_of d c) n ≡ false) sides.0 D.credit in (
        subst (λ m. n ≤ m) (credit-is side A) (ltb-false (credit_of side c) n z),
        omega (arith, A.forwarded, A.maximum),
        omega (arith, spent-is, A.total, s.some),
      )

  answer-taken : (handle_data w q).answer ≡ Ok tt → data_taken w q c (side_of (sender q) c) n ≡ Ok tt
  unfolding handle_data data_with c proceed
  answer-taken e =
      from (data_taken w q (named_circuit w q) (side_of (sender q) (named_circuit w q)) n)
      (send (with_data w q.context (named_circuit w q).reservation_id (side_of (sender q) (named_circuit w q)) n)
      (data_message q (named_circuit w q) (side_of (sender q) (named_circuit w q)) n)) e
    where
      from : (a : HnsrAnswer) (o : Outcome) → (proceed w a o).answer ≡ Ok tt → a ≡ Ok tt
      from (Ok _) o h = refl
      from (Err x) o h = refused_differs h

  pub only_if : Passes (handle_data w q) h j side q
      → (n ≤ credit side (h.known j)) × (n ≤ circuit_left (h.known j)) × (n ≤ total_left h.book (h.known j))
  unfolding Within
  only_if P = rows-within (data_rows_lem w q c (side_of (sender q) c) n (answer-taken P.taken))

  -- ---- and back
  queue_empty : (d : RelaySide) → queued_to d c ≡ 0
  unfolding c
  queue_empty d = sym (R.base.full.queue.queued q.context refl here d) ∙ ap (total (weight q.context d)) empty

  size-taken : body_answer (data_checked n) ≡ Ok tt
  unfolding data_checked
  size-taken =
      ap (λ b. body_answer (answer (Ok tt) b DataSize))
      (join (leb 1 n) (leb n most_data) (le-leb 1 n s.some) (le-leb n most_data s.fits))

  circuit-taken : circuit_answer (has_circuit w q.context) c (sender q) ≡ Ok tt
  unfolding circuit_answer
  circuit-taken =
      ap (λ b. check (not b) UnknownCircuit then check (not (is_side (sender q) c)) WrongPeer)
      (circuit-there w h R.base.full q.context ∙ here)
      ∙ ap (λ b. check (not b) WrongPeer) sides.1

  two-tests : (a b : Bool) (e : HnsrRuntimeError) → a ≡ false → b ≡ false → check (a || b) e ≡ Ok tt
  two-tests a b e x y = rw (x, y)

  module _
      (W : (n ≤ credit side (h.known j))
      × (n ≤ circuit_left (h.known j))
      × (n ≤ total_left h.book (h.known j))) where
    bytes-taken : bytes_answer (has_usage c.reservation_id w.ledger) (usage_of c.reservation_id w.ledger)
        c n ≡ Ok tt
    unfolding bytes_answer
    bytes-taken =
        ap (λ b. check (not b) InvalidAdmission
        then check (ltb c.maximum_bytes (saturating_add 64 c.forwarded_bytes n)
        || ltb c.maximum_total_bytes (saturating_add 64 (usage_of c.reservation_id w.ledger).bytes n))
        ByteLimit) there
        ∙ two-tests (ltb c.maximum_bytes (saturating_add 64 c.forwarded_bytes n))
        (ltb c.maximum_total_bytes (saturating_add 64 (usage_of c.reservation_id w.ledger).bytes n))
        ByteLimit
        (le-ltb c.maximum_bytes (saturating_add 64 c.forwarded_bytes n)
        (top_within c.maximum_bytes c.forwarded_bytes n
        (omega (arith, W.1, A.forwarded, A.maximum, s.some))))
        (le-ltb c.maximum_total_bytes (saturating_add 64 (usage_of c.reservation_id w.ledger).bytes n)
        (top_within c.maximum_total_bytes (usage_of c.reservation_id w.ledger).bytes n
        (omega (arith, W.2, spent-is, A.total, s.some))))

    flow_taken : (d : RelaySide) → d ≡ side → flow_answer (config_of w) c d n ≡ Ok tt
    unfolding flow_answer
    flow_taken d e =
        two-tests (ltb (credit_of d c) n)
        (ltb (config_of w).maximum_queue_bytes (saturating_add 64 (queued_to (other_side d) c) n)) FlowControl
        (subst (λ x. ltb (credit_of x c) n ≡ false) (sym e)
        (le-ltb (credit_of side c) n (subst (λ m. n ≤ m) (sym (credit-is side A)) W.0)))
        (le-ltb (config_of w).maximum_queue_bytes (saturating_add 64 (queued_to (other_side d) c) n)
        (top_within (config_of w).maximum_queue_bytes (queued_to (other_side d) c) n
        (omega (
          arith,
          queue_empty (other_side d),
          s.queue,
          ap
              (λ (k : OpaqueRelayConfig). k.maximum_queue_bytes) R.base.heads.config,
        ))))

    data_taken_lem : data_taken w q c (side_of (sender q) c) n ≡ Ok tt
    unfolding data_taken
    data_taken_lem =
        let d = side_of (sender q) c in
        let b =
        bytes_answer (has_usage c.reservation_id w.ledger) (usage_of c.reservation_id w.ledger) c n in
        let f = flow_answer (config_of w) c d n in
        let r = capacity_answer (config_of w) (tallied false q.context (receiver c (sender q)) w.inflight) in
        let u = circuit_answer (has_circuit w q.context) c (sender q) in
        taken_then (body_answer (data_checked n)) (u then r then b then f) size-taken
        (taken_then u (r then b then f) circuit-taken
        (taken_then r (b then f) (has_room R empty q.context (receiver c (sender q)))
        (taken_then b f bytes-taken (flow_taken d sides.0))))

    abbrev v : World
    v = with_data w q.context (named_circuit w q).reservation_id (side_of (sender q) (named_circuit w q)) n

    abbrev m : Message
    m = data_message q (named_circuit w q) (side_of (sender q) (named_circuit w q)) n

    sent-taken : send v m ≡ done (queued m v) (routed m v ∷ [])
    unfolding with_data data_message c
    sent-taken = send-taken v m (can-queue m v (ap (λ x. eqb x 0) s.context
        ∙ R.base.full.real j active) low (has_room R empty q.context (receiver (named_circuit w q) (sender q))))

    outcome : handle_data w q ≡ done (queued m v) (routed m v ∷ [])
    unfolding handle_data data_with c proceed
    outcome = ap (λ (a : HnsrAnswer). proceed w a (send v m)) data_taken_lem ∙ sent-taken

    pub if : Passes (handle_data w q) h j side q
    unfolding data_message c
    if = subst (λ (o : Outcome). Passes o h j side q) (sym outcome) (record {
      taken = refl;
      route = routed m v;
      one = refl;
      to = ap (λ d. peer_at (other_side d) (named_circuit w q)) sides.0 ∙ peer-is (other_side side) A;
      opcode = refl;
      context = refl;
      body = refl;
    })
