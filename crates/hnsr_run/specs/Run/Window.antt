-- WINDOW keeps the invariant: the other side's credit is raised, and a Control queued.
use Rattle.std.specs.Prelude.{ℕ, ◌<◌, ◌≡◌, true, false, cond, [], ◌∷◌, eqb, Ok}
use Rattle.std.proofs.Math.Path.{refl, sym}
use Rattle.std.proofs.Common.{ap, ◌∙◌, subst, eq-eqb}
use Rattle.hns_encoding.specs.Numbers.{top}
use Rattle.hnsr_body.specs.Data.{decode_window, window_fields}
use Rattle.hnsr_circuit.specs.declared.records.RelayCircuit.{RelayCircuit}
use Rattle.hnsr_circuit.specs.declared.records.RelaySide.{RelaySide}
use Rattle.hnsr_circuit.specs.declared.records.RelaySide.TheVariants.{Requester, Endpoint}
use Rattle.hnsr_circuit.specs.Answers.{body_answer, ◌then◌}
use Rattle.hnsr_circuit.specs.Circuits.{side_of, queued_to, raised}
use Rattle.hnsr_circuit.specs.declared.records.InflightKind.{InflightKind}
use Rattle.hnsr_circuit.specs.declared.records.InflightKind.TheVariants.{Data, Control}
use Rattle.hnsr_circuit.specs.Inflight.{kind_number, tallied, capacity_answer}
use Rattle.hnsr_circuit.specs.World.{World, Outcome, config_of, done}
use Rattle.hnsr_circuit.specs.Queue.{Message, route_for, sequence_of, queued, routed, send}
use Rattle.hnsr_circuit.specs.Opcode.{op_window}
use Rattle.hnsr_circuit.specs.Packet.{Packet, sender, has_circuit, named_circuit, circuit_answer, receiver, forwarded}
use Rattle.hnsr_circuit.specs.Window.{credit_answer, with_window, window_taken, window_with, handle_window}
use Rattle.hnsr_circuit.specs.Laws.Answers.{then_taken}
use Rattle.hnsr_circuit.specs.Laws.Capacity.{can-queue, send-taken}
use Rattle.hnsr_run.specs.Past.{Past, at, kind_for, of_route, heard, emit, learnt}
use Rattle.hnsr_run.specs.History.{side_in, granted, window_in}
use Rattle.hnsr_run.specs.Run.Actions.{room_of_lem}
use Rattle.hnsr_run.specs.Run.Circuits.{none}
use Rattle.hnsr_run.specs.Run.Full.{Full, Quiet, queue-full}
use Rattle.hnsr_run.specs.Run.InPlace.{only_one, agreed, place-circuit, looked}
use Rattle.hnsr_run.specs.Run.InPlace.{resume-at, raised_at, raise_agrees, granted_peers}
use Rattle.hnsr_run.specs.Run.DataRows.{named-side, known-rel, named-active, side_same}
use Rattle.hnsr_run.specs.Run.Rel.{Rel, proceed-cases, if-taken}

-- a packet that is passed on, and is no DATA
pub quiet-forwarded : (q : Packet) (c : RelayCircuit) (kind : InflightKind) (j n : ℕ) → j ≡ q.context → q.opcode ≡ n
    → kind_for n ≡ kind_number kind
    → eqb (kind_number kind) (kind_number Data) ≡ false → Quiet (heard (λ r. j)) (forwarded q c kind)
quiet-forwarded q c kind j n on op is-kind plain = record {
  plain = plain;
  same = λ g s i. of_route (route_for (forwarded q c kind) g s) (on i) ((ap kind_for op ∙ is-kind) i) false 0;
}

raised-queue : (side s : RelaySide) (n : ℕ) (c : RelayCircuit) → queued_to s (raised side n c) ≡ queued_to s c
raised-queue Requester Requester n c = refl
raised-queue Requester Endpoint n c = refl
raised-queue Endpoint Requester n c = refl
raised-queue Endpoint Endpoint n c = refl

module _ {w : World} {h : Past} (R : Rel w h) (q : Packet) (op : q.opcode ≡ op_window) (low : sequence_of w < top 64)
    (side : RelaySide) (n : ℕ) (active : h.active q.context ≡ true)
    (room : capacity_answer (config_of w)
    (tallied false q.context (receiver (named_circuit w q) (sender q)) w.inflight) ≡ Ok tt) where
  abbrev passed : Message
  passed = forwarded q (named_circuit w q) Control

  wider : Full none (with_window w q.context side n) (learnt h q.context (granted side n (h.known q.context)))
  unfolding with_window
  wider =
      resume-at q.context
      (place-circuit (only_one R.base.full q.context (λ i e. refl)) q.context
      (eq-eqb q.context q.context refl) active (raised side n) (granted side n (h.known q.context))
      (at q.context (granted side n (h.known q.context)) h.known) (λ x. raised_at q.context side n x)
      (raise_agrees side n (agreed R.base.full q.context active))
      (granted_peers side n (h.known q.context)) (λ i. refl))
      (λ s. R.base.full.queue.queued q.context refl active s
      ∙ sym (ap (queued_to s)
      (looked R.base.full q.context active (raised side n) (λ x. raised_at q.context side n x))
      ∙ raised-queue side s n (named_circuit w q)))

  can : send (with_window w q.context side n) passed
      ≡ done (queued passed (with_window w q.context side n)) (routed passed (with_window w q.context side n) ∷ [])
  unfolding with_window
  can = send-taken _ passed (can-queue passed _ (R.base.full.real q.context active) low room)

  rel : Rel (queued passed (with_window w q.context side n))
      (emit (learnt h q.context (granted side n (h.known q.context))) (heard (λ r. q.context))
      (routed passed (with_window w q.context side n) ∷ []))
  unfolding queued with_window
  rel =
      known-rel R (queued passed (with_window w q.context side n)) q.context
      (granted side n (h.known q.context)) h.book.spent _
      (queue-full (with_window w q.context side n) (learnt h q.context (granted side n (h.known q.context)))
      passed wider (quiet-forwarded q (named_circuit w q) Control q.context op_window refl op refl refl)
      (room_of_lem (config_of w) q.context (receiver (named_circuit w q) (sender q)) w.inflight room))
      R.base.books (same_res side) (same_exp side) R.base.heads
    where
      same_res : (s : RelaySide) → (granted s n (h.known q.context)).reservation ≡ (h.known q.context).reservation
      same_res Requester = refl
      same_res Endpoint = refl

      same_exp : (s : RelaySide) → (granted s n (h.known q.context)).expires ≡ (h.known q.context).expires
      same_exp Requester = refl
      same_exp Endpoint = refl

pub window-keeps : {w : World} {h : Past} → Rel w h → sequence_of w < top 64 → (q : Packet) → q.opcode ≡ op_window
    → let o = handle_window w q in Rel o.world (window_in q o.answer o.routes h)
unfolding handle_window window_with window_taken
window-keeps {w} {h} R low q op =
    proceed-cases P w (window_taken w q c side n) (send (with_window w j side n) (forwarded q c Control))
    (λ e. let body = body_answer (decode_window q.body).result in
    let circ = circuit_answer (has_circuit w j) c (sender q) in
    let cap = capacity_answer (config_of w) (tallied false j (receiver c (sender q)) w.inflight) in
    let last = credit_answer c side n in
    let a = then_taken circ (cap then last) (then_taken body (circ then cap then last) e).1 in
    let room = (then_taken cap last a.1).0 in
    let active = named-active R q c a.0 in
    let v = with_window w j side n in
    subst P (sym (can R q op low side n active room))
    (subst (λ b. Rel (queued (forwarded q c Control) v)
    (emit (learnt h j (cond b (granted (side_in (sender q) (h.known j)) n (h.known j)) (h.known j))) (heard (λ r. j))
    (routed (forwarded q c Control) v ∷ [])))
    (sym (named-side w q (agreed R.base.full j active) a.0))
    (subst (λ (s : RelaySide). Rel (queued (forwarded q c Control) v)
    (emit (learnt h j (granted s n (h.known j))) (heard (λ r. j)) (routed (forwarded q c Control) v ∷ [])))
    (side_same q (agreed R.base.full j active)) (rel R q op low side n active room))))
    (λ e f. if-taken (λ (g : Past). Rel w g) e _ h R)
  where
    P : Outcome → Type 0
    P o = Rel o.world (window_in q o.answer o.routes h)

    j : ℕ
    j = q.context

    c : RelayCircuit
    c = named_circuit w q

    side : RelaySide
    side = side_of (sender q) c

    n : ℕ
    n = (window_fields q.body).credit_delta
