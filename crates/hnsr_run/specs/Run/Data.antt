-- DATA keeps the invariant: the circuit and the ledger are charged, and one action queued.
use Rattle.std.specs.Prelude.{ℕ, ◌+◌, ◌≤◌, ◌<◌, ◌≡◌, Bool, true, false, ◌&&◌, [], ◌∷◌, ◌++◌, length}
use Rattle.std.proofs.Common.{arith, sym, ◌∙◌, eq-eqb, ltb-false}
use Rattle.std.proofs.Math.Path.{refl, ap, subst}
use Rattle.std.proofs.Math.Bool.{cond, not}
use Rattle.std.proofs.Math.Dec.{eqb}
use Rattle.hns_encoding.specs.Numbers.{top}
use Rattle.hns_encoding.specs.Sums.{total}
use Rattle.hns_encoding.specs.Laws.Sums.{total-append}
use Rattle.hnsr_body.specs.declared.values.ReservationId.{ReservationId}
use Rattle.hnsr_circuit.specs.declared.peer.HnsrPeerId.{HnsrPeerId}
use Rattle.hnsr_circuit.specs.declared.config.OpaqueRelayConfig.{OpaqueRelayConfig}
use Rattle.hnsr_circuit.specs.declared.records.RelayCircuit.{RelayCircuit}
use Rattle.hnsr_circuit.specs.declared.records.RelaySide.{RelaySide}
use Rattle.hnsr_circuit.specs.declared.records.RelaySide.TheVariants.{Requester, Endpoint}
use Rattle.hnsr_circuit.specs.Table.{pick, edit}
use Rattle.hnsr_circuit.specs.Peer.{same_peer}
use Rattle.hnsr_circuit.specs.Circuits.{no_circuit, circuit_at, side_of, other_side}
use Rattle.hnsr_circuit.specs.Circuits.{peer_at, credit_of, queued_to, charged}
use Rattle.hnsr_circuit.specs.Ledger.{usage_of}
use Rattle.hnsr_circuit.specs.Inflight.{to_endpoint}
use Rattle.hnsr_circuit.specs.World.{World, Outcome, config_of, done}
use Rattle.hnsr_circuit.specs.Queue.{Message, action_for, route_for, generation_of, sequence_of, queued, routed, send}
use Rattle.hnsr_circuit.specs.Opcode.{op_data}
use Rattle.hnsr_circuit.specs.Packet.{Packet, sender, named_circuit, receiver}
use Rattle.hnsr_circuit.specs.Data.{with_data, data_message, data_taken, data_with, handle_data}
use Rattle.hnsr_circuit.specs.Laws.Capacity.{can-queue, send-taken}
use Rattle.hnsr_run.specs.Past.{Known, Action, Past, at, peer_on, is_data, toward_side}
use Rattle.hnsr_run.specs.Past.{weight, carried, emit, learnt, with_book, spent_by}
use Rattle.hnsr_run.specs.History.{side_in, sent, strange, data_in}
use Rattle.hnsr_run.specs.Run.Actions.{view, queue-acts, room_of_lem}
use Rattle.hnsr_run.specs.Run.Circuits.{Agrees, stray, none, queue-queue}
use Rattle.hnsr_run.specs.Run.Full.{Body, Full, reout}
use Rattle.hnsr_run.specs.Run.Books.{Books, spend_books}
use Rattle.hnsr_run.specs.Run.InPlace.{only_one, agreed, place-circuit, looked}
use Rattle.hnsr_run.specs.Run.InPlace.{resume-at, charged-at, charge_agrees, sent_peers}
use Rattle.hnsr_run.specs.Run.Limits.{limits, within-top}
use Rattle.hnsr_run.specs.Run.Rel.{Rel, proceed-cases, if-taken}
use Rattle.hnsr_run.specs.Run.DataRows.{named-side, known-rel, named-active, side_same}
use Rattle.hnsr_run.specs.Run.DataRows.{DataRows, data_rows_lem, to-side, charged-queue}

-- ---- DATA, taken: the circuit charged, the ledger charged, the action queued
module _ {w : World} {h : Past} (R : Rel w h) (q : Packet) (op : q.opcode ≡ op_data)
    (low : sequence_of w < top 64) where
  abbrev id : ℕ
  id = q.context

  abbrev bytes : ℕ
  bytes = length q.body

  abbrev circuit : RelayCircuit
  circuit = named_circuit w q

  module _ (side : RelaySide) (from : side ≡ side_of (sender q) (named_circuit w q))
      (D : DataRows w q (named_circuit w q) side (length q.body)) where
    active : h.active id ≡ true
    active = named-active R q circuit D.circuit

    A : Agrees circuit (h.known id)
    A = agreed R.base.full id active

    kn : ℕ → Known
    kn = at id (sent side bytes (h.known id)) h.known

    kn-here : kn id ≡ sent side bytes (h.known id)
    unfolding kn
    kn-here = ap (λ b. cond b (sent side bytes (h.known id)) (h.known id)) (eq-eqb id id refl)

    forwarded-fits : circuit.forwarded_bytes + bytes ≤ top 64
    forwarded-fits = let x = within-top circuit.maximum_bytes circuit.forwarded_bytes bytes (subst
        (λ m. m < top 64) (sym A.maximum) A.limited) D.circuit_bytes in omega (arith, A.limited, A.maximum)

    total-fits : (usage_of circuit.reservation_id w.ledger).bytes + bytes ≤ top 64
    total-fits =
        let x = within-top circuit.maximum_total_bytes (usage_of circuit.reservation_id w.ledger).bytes
        bytes (subst (λ m. m < top 64) (sym A.total) A.totalled) D.total_bytes in
        omega (arith, A.totalled, A.total)

    queue-limit : (config_of w).maximum_queue_bytes ≤ 65536
    queue-limit =
        subst (λ (c : OpaqueRelayConfig). c.maximum_queue_bytes ≤ 65536) (sym R.base.heads.config)
        (limits h.head.config R.base.good).queue

    queue-fits : queued_to (other_side side) circuit + bytes ≤ top 64
    queue-fits =
        let x = within-top (config_of w).maximum_queue_bytes (queued_to (other_side side) circuit) bytes
        (omega (arith, queue-limit)) D.queue in
        omega (arith, queue-limit)

    message : Message
    message = data_message q circuit side bytes

    act : Action
    act = view (action_for message (generation_of w) (sequence_of w))

    is_data_lem : is_data act ≡ true
    unfolding act message data_message
    is_data_lem = refl

    goes : act.to_endpoint ≡ to_endpoint (other_side side)
    unfolding act message data_message
    goes = refl

    weighs : (j : ℕ) (s : RelaySide) → weight j s act ≡ cond (eqb id j && toward_side s act) bytes 0
    unfolding act message data_message
    weighs j s = refl

    honest : stray h.active kn act ≡ false
    unfolding act message data_message
    honest =
        subst (λ (b : Bool). not (b
        && same_peer (receiver circuit (sender q))
        (peer_on (cond (to_endpoint (other_side side)) Endpoint Requester) (kn id))) ≡ false) (sym active)
        (subst (λ (k : Known). not
        (same_peer (receiver circuit (sender q)) (peer_on (cond (to_endpoint (other_side side)) Endpoint Requester) k))
        ≡ false)
        (sym kn-here)
        (subst (λ (p : HnsrPeerId). not (same_peer (receiver circuit (sender q)) p) ≡ false)
        (sym (sent_peers side bytes (h.known id) (cond (to_endpoint (other_side side)) Endpoint Requester)))
        (ap not
        (subst (λ (s : RelaySide). same_peer (peer_at (other_side s) circuit)
        (peer_on (cond (to_endpoint (other_side side)) Endpoint Requester) (h.known id)) ≡ true) from
        (to-side side A)))))

    heard_it : carried id side bytes (route_for message (generation_of w) (sequence_of w)) ≡ act
    unfolding act message data_message
    heard_it = refl

    full : Full none (queued message (with_data w id circuit.reservation_id side bytes))
        (emit
        (with_book (learnt h id (sent side bytes (h.known id))) (spent_by h.book circuit.reservation_id bytes))
        (carried id side bytes) (routed message (with_data w id circuit.reservation_id side bytes) ∷ []))
    unfolding queued with_data message kn act
    full =
        reout (ap (λ (a : Action). h.out ++ (a ∷ [])) (sym heard_it))
        (resume-at id
        (record {
          acts =
              queue-acts R.base.full.acts message
              (room_of_lem (config_of w) id (receiver circuit (sender q)) w.inflight D.room);
          circs = changed.circs;
          queue =
              queue-queue changed.queue act honest
              (λ j s side'. weighs j side' ∙ ap (λ b. cond (b && toward_side side' act) bytes 0) s);
          pends = changed.pends;
          disjoint = changed.disjoint;
          real = changed.real;
          real_p = changed.real_p;
        }) counts)
      where
        changed : Body (λ i. eqb id i) (config_of w) (generation_of w) (sequence_of w) w.pending
            (edit (circuit_at id) (charged side bytes) w.circuits) w.inflight h.active kn h.opens.standing
            h.opens.asked h.out
        changed =
            place-circuit (only_one R.base.full id (λ i e. refl)) id (eq-eqb id id refl) active (charged side bytes)
            (sent side bytes (h.known id)) kn (λ x. charged-at id side bytes x)
            (charge_agrees side bytes A (ltb-false (credit_of side circuit) bytes D.credit) forwarded-fits)
            (sent_peers side bytes (h.known id)) (λ i. refl)

        counts : (s : RelaySide)
            → total (weight id s) (h.out ++ (act ∷ []))
            ≡ queued_to s (pick (circuit_at id) no_circuit (edit (circuit_at id) (charged side bytes) w.circuits))
        counts s =
            let a = total-append (weight id s) h.out (act ∷ []) in
            let b = weighs id s ∙ ap (λ x. cond (x && toward_side s act) bytes 0) (eq-eqb id id refl) in
            let c = R.base.full.queue.queued id refl active s in
            let d = charged-queue side s bytes circuit act goes queue-fits in
            let e =
            ap (queued_to s) (looked R.base.full id active (charged side bytes) (λ x. charged-at id side bytes x)) in
            omega arith

    context-some : eqb message.context 0 ≡ false
    unfolding message data_message
    context-some = R.base.full.real id active

    can : send (with_data w id circuit.reservation_id side bytes) message
        ≡ done (queued message (with_data w id circuit.reservation_id side bytes))
        (routed message (with_data w id circuit.reservation_id side bytes) ∷ [])
    unfolding with_data message data_message
    can = send-taken _ message (can-queue message _ context-some low D.room)

    rel : Rel (queued message (with_data w id circuit.reservation_id side bytes))
        (emit
        (with_book (learnt h id (sent side bytes (h.known id))) (spent_by h.book circuit.reservation_id bytes))
        (carried id side bytes) (routed message (with_data w id circuit.reservation_id side bytes) ∷ []))
    unfolding queued with_data
    rel =
        known-rel R (queued message (with_data w id circuit.reservation_id side bytes)) id
        (sent side bytes (h.known id)) (spent_by h.book circuit.reservation_id bytes).spent _ full ledger
        (same_res side) (same_exp side) R.base.heads
      where
        same_res : (s : RelaySide) → (sent s bytes (h.known id)).reservation ≡ (h.known id).reservation
        same_res Requester = refl
        same_res Endpoint = refl

        same_exp : (s : RelaySide) → (sent s bytes (h.known id)).expires ≡ (h.known id).expires
        same_exp Requester = refl
        same_exp Endpoint = refl

        ledger : Books (queued message (with_data w id circuit.reservation_id side bytes)).ledger h.head.clock
            (spent_by h.book circuit.reservation_id bytes)
        ledger = spend_books R.base.books circuit.reservation_id bytes D.ledger total-fits

pub data_keeps : {w : World} {h : Past} → Rel w h → sequence_of w < top 64 → (q : Packet) → q.opcode ≡ op_data
    → let o = handle_data w q in Rel o.world (data_in q o.answer o.routes h)
unfolding handle_data data_with message
data_keeps {w} {h} R low q op =
    proceed-cases P w (data_taken w q c side n)
    (send (with_data w j c.reservation_id side n) (data_message q c side n))
    (λ e. let D = data_rows_lem w q c side n e in
    let A = agreed R.base.full j (named-active R q c D.circuit) in
    let m = data_message q c side n in
    let v = with_data w j c.reservation_id side n in
    subst P (sym (can R q op low side refl D))
    (subst (λ b. Rel (queued m v)
    (emit
    (with_book (learnt h j (cond b (sent (side_in (sender q) (h.known j)) n (h.known j)) (strange n (h.known j))))
    (spent_by h.book (h.known j).reservation n)) (carried j (side_in (sender q) (h.known j)) n) (routed m v ∷ [])))
    (sym (named-side w q A D.circuit))
    (subst (λ (s : RelaySide). Rel (queued m v)
    (emit (with_book (learnt h j (sent s n (h.known j))) (spent_by h.book (h.known j).reservation n))
    (carried j s n) (routed m v ∷ [])))
    (side_same q A)
    (subst (λ (r : ReservationId). Rel (queued m v)
    (emit (with_book (learnt h j (sent side n (h.known j))) (spent_by h.book r n)) (carried j side n)
    (routed m v ∷ []))) A.reservation (rel R q op low side refl D)))))
    (λ e f. if-taken (λ (g : Past). Rel w g) e _ h R)
  where
    P : Outcome → Type 0
    P o = Rel o.world (data_in q o.answer o.routes h)

    j : ℕ
    j = q.context

    c : RelayCircuit
    c = named_circuit w q

    side : RelaySide
    side = side_of (sender q) c

    n : ℕ
    n = length q.body
