-- CLOSE and ERROR, the call: its rows, the OPEN or the circuit ended, the message passed on.
use Rattle.std.specs.Prelude.{ℕ, ◌<◌, ◌≡◌, Bool, true, cond, not, [], leb, Ok}
use Rattle.std.proofs.Common.{arith, ◌∙◌}
use Rattle.std.proofs.Math.Path.{refl, sym, ap, subst}
use Rattle.std.proofs.Math.Bool.{false}
use Rattle.std.proofs.Math.Dec.{eqb}
use Rattle.std.proofs.lemmas.Bool.{lt-leb}
use Rattle.hns_encoding.specs.Numbers.{top}
use Rattle.hns_encoding.specs.Laws.Tests.{choose}
use Rattle.hns_encoding.specs.Sums.{count}
use Rattle.hnsr_body.specs.declared.error.HnsrProtocolError.{HnsrProtocolError}
use Rattle.std.specs.Prelude.{Result, Err}
use Rattle.hnsr_body.specs.Detail.{decode_detail}
use Rattle.hnsr_circuit.specs.declared.peer.HnsrPeerId.{HnsrPeerId}
use Rattle.hnsr_circuit.specs.declared.records.RelayPending.{RelayPending}
use Rattle.hnsr_circuit.specs.declared.answer.HnsrRuntimeError.TheVariants.{InvalidAdmission}
use Rattle.hnsr_circuit.specs.declared.answer.HnsrRuntimeError.TheVariants.{UnknownCircuit, WrongPeer}
use Rattle.hnsr_circuit.specs.Answers.{number, check, body_answer, ◌then◌}
use Rattle.hnsr_circuit.specs.Table.{any, pick}
use Rattle.hnsr_circuit.specs.Peer.{same_peer}
use Rattle.hnsr_circuit.specs.Pending.{no_pending, pending_at, named_by}
use Rattle.hnsr_circuit.specs.Circuits.{is_side}
use Rattle.hnsr_circuit.specs.declared.records.InflightKind.TheVariants.{Close}
use Rattle.hnsr_circuit.specs.Inflight.{kind_number}
use Rattle.hnsr_circuit.specs.World.{World, Outcome}
use Rattle.hnsr_circuit.specs.Queue.{Message, message, route_for, sequence_of}
use Rattle.hnsr_circuit.specs.Opcode.{op_data}
use Rattle.hnsr_circuit.specs.Packet.{Packet, sender, has_circuit, named_circuit, circuit_answer, forwarded}
use Rattle.hnsr_circuit.specs.Revocation.{without_actions, without_pending, end_pending, end_circuit}
use Rattle.hnsr_circuit.specs.Close.{detail_answer, close_answer, translated, close_taken}
use Rattle.hnsr_circuit.specs.Close.{close_pending, close_circuit, handle_close}
use Rattle.hnsr_circuit.specs.Laws.Lookups.{none-count}
use Rattle.hnsr_circuit.specs.Laws.Answers.{then_taken, check-taken}
use Rattle.hnsr_run.specs.Past.{Action, Past, at, kind_for, of_route, heard, emit, open_ended}
use Rattle.hnsr_run.specs.History.{ends, end_in, ended_by, close_in}
use Rattle.hnsr_circuit.specs.Route.{Route}
use Rattle.hnsr_run.specs.Run.Circuits.{none}
use Rattle.hnsr_run.specs.Run.Full.{Keeps, Quiet, rest-same}
use Rattle.hnsr_run.specs.Run.Ended.{at-false, end_circuit_lem, end_pending_lem}
use Rattle.hnsr_run.specs.Run.DataRows.{named-active}
use Rattle.hnsr_run.specs.Run.Window.{quiet-forwarded}
use Rattle.hnsr_run.specs.Run.Undelivered.{refused_ends}
use Rattle.hnsr_run.specs.Run.Close.{sends-after, is_seen, found-same, ends_open}
use Rattle.hnsr_run.specs.Run.Close.{ends-circuit, ended_open, ended-circuit}
use Rattle.hnsr_run.specs.Run.Rel.{Rel, proceed-cases}

-- ---- the rows
close_rows_lem : (m : ℕ) (b : Result Unit HnsrProtocolError) (x y u v : Bool) → eqb 0 m ≡ false → eqb 1 m ≡ false
    → eqb 11 m ≡ false
    → eqb 14 m ≡ false → eqb 15 m ≡ false
    → eqb (number
    (body_answer b then (check x InvalidAdmission then cond y (Ok tt) (check u UnknownCircuit then check v WrongPeer))))
    m
    ≡ false
close_rows_lem m (Err c) x y u v z a d e f = a
close_rows_lem m (Ok done) true y u v z a d e f = d
close_rows_lem m (Ok done) false true u v z a d e f = z
close_rows_lem m (Ok done) false false true v z a d e f = e
close_rows_lem m (Ok done) false false false true z a d e f = f
close_rows_lem m (Ok done) false false false false z a d e f = z

never-closed : (w : World) (q : Packet) (m : ℕ) → eqb 0 m ≡ false → eqb 1 m ≡ false → eqb 11 m ≡ false
    → eqb 14 m ≡ false → eqb 15 m ≡ false
    → eqb (number (close_taken w q)) m ≡ false
unfolding close_taken detail_answer close_answer circuit_answer
never-closed w q m z a b c d =
    close_rows_lem m (decode_detail q.body).result (leb 2 (count (named_by (sender q) q.context) w.pending))
    (leb 1 (count (named_by (sender q) q.context) w.pending)) (not (has_circuit w q.context))
    (not (is_side (sender q) (named_circuit w q))) z a b c d

one_only : (w : World) (q : Packet) → close_taken w q ≡ Ok tt
    → leb 2 (count (named_by (sender q) q.context) w.pending) ≡ false
unfolding close_taken close_answer
one_only w q e =
    let n = count (named_by (sender q) q.context) w.pending in
    let rest = cond (leb 1 n) (Ok tt) (circuit_answer (has_circuit w q.context) (named_circuit w q) (sender q)) in
    check-taken (leb 2 n) InvalidAdmission
    (then_taken (check (leb 2 n) InvalidAdmission) rest
    (then_taken (detail_answer q) (check (leb 2 n) InvalidAdmission then rest) e).1).0

then_circuit : (w : World) (q : Packet) → close_taken w q ≡ Ok tt
    → any (named_by (sender q) q.context) w.pending ≡ false
    → circuit_answer (has_circuit w q.context) (named_circuit w q) (sender q) ≡ Ok tt
unfolding close_taken close_answer
then_circuit w q e f =
    let n = count (named_by (sender q) q.context) w.pending in
    let c = circuit_answer (has_circuit w q.context) (named_circuit w q) (sender q) in
    let rest = cond (leb 1 n) (Ok tt) c in
    let k = (then_taken (check (leb 2 n) InvalidAdmission) rest
    (then_taken (detail_answer q) (check (leb 2 n) InvalidAdmission then rest) e).1).1 in
    sym
    (ap (λ b. cond b (Ok tt) c) (lt-leb 1 n (omega (arith, none-count (named_by (sender q) q.context) w.pending f))))
    ∙ k

-- ---- the message
quiet-message : (to : HnsrPeerId) (j circuit context : ℕ) (q : Packet) (n : ℕ) → j ≡ circuit → q.opcode ≡ n
    → kind_for n ≡ kind_number Close
    → Quiet (heard (λ r. j)) (message to circuit q.opcode context q.body Close)
quiet-message to j circuit context q n on op is-kind = record {
  plain = refl;
  same = λ g s i. of_route (route_for (message to circuit q.opcode context q.body Close) g s) (on i)
      ((ap kind_for op ∙ is-kind) i) false 0;
}

module _ {w : World} {h : Past} (R : Rel w h) (low : sequence_of w < top 64) (q : Packet) (n : ℕ) (op : q.opcode ≡ n)
    (no-data : eqb n op_data ≡ false) (is-kind : kind_for n ≡ kind_number Close) where
  abbrev p : HnsrPeerId
  p = sender q

  abbrev x : ℕ
  x = q.context

  abbrev found : RelayPending
  found = pick (named_by (sender q) q.context) no_pending w.pending

  -- an OPEN
  some-context : any (named_by p x) w.pending ≡ true → eqb (translated q found).context 0 ≡ false
  unfolding translated pending_at
  some-context e = let s = is_seen R p x e in let A = R.base.full.pends.agree found.circuit_id s.0 in
      choose (λ (m : Message). eqb m.context 0 ≡ false) (same_peer found.requester (sender q)) _ _
      (λ y. R.base.full.real_p found.circuit_id s.0)
      (λ y. ap (λ (r : RelayPending). eqb r.requester_context 0) (found-same R p x e).0
      ∙ ap (λ c. eqb c 0) A.context
      ∙ A.some)

  abbrev told : Route → Action
  told = heard (λ r. ended_by p x h)

  quiet_open : ended_by p x h ≡ found.circuit_id → Quiet told (translated q found)
  unfolding translated
  quiet_open on = choose (λ (m : Message). Quiet told m) (same_peer found.requester (sender q)) _ _
      (λ y. quiet-message _ (ended_by p x h) _ _ q n on op is-kind)
      (λ y. quiet-message _ (ended_by p x h) _ _ q n on op is-kind)

  open_world : any (named_by p x) w.pending ≡ true
      → end_pending w (pending_at found.circuit_id) found.circuit_id
      ≡ end_pending w (named_by p x) found.circuit_id
  unfolding end_pending without_pending without_actions
  open_world e = λ i. record {
    runtime = (end_pending w (named_by p x) found.circuit_id).runtime;
    pending = sym (found-same R p x e).1 i;
    circuits = w.circuits;
    ledger = w.ledger;
    inflight = (end_pending w (named_by p x) found.circuit_id).inflight;
  }

  ended-sequence : (j : ℕ) → sequence_of (end_pending w (named_by p x) j) ≡ sequence_of w
  unfolding end_pending without_pending without_actions
  ended-sequence j = refl

  close_open : any (named_by p x) w.pending ≡ true → leb 2 (count (named_by p x) w.pending) ≡ false
      → let o = close_pending w q found in
      (ends o.answer ≡ true) × Rel o.world (emit (end_in p x h) told o.routes)
  unfolding close_pending
  close_open e l = let j = found.circuit_id in let s = is_seen R p x e in
      let K = subst (λ v. Keeps none w v (open_ended h j)) (open_world e)
      (end_pending_lem w h j s.0 (record { full = R.base.full; rest = rest-same w })) in
      subst (λ (g : Past). (ends (close_pending w q found).answer ≡ true)
      × Rel (close_pending w q found).world (emit g told (close_pending w q found).routes)) (sym (ends_open R p x e l))
      (sends-after R h.active (at j false h.opens.standing) _ K (λ i a. a) (at-false j h.opens.standing)
      (translated q found) (quiet_open (ended_open R p x e l)) (some-context e)
      (subst (λ m. m < top 64) (sym (ended-sequence j)) low))

  -- a circuit
  circuit-sequence : sequence_of (end_circuit w x) ≡ sequence_of w
  unfolding end_circuit without_actions
  circuit-sequence = refl

  close_circuit_lem : any (named_by p x) w.pending ≡ false → h.active x ≡ true
      → let o = close_circuit w q (named_circuit w q) in
      (ends o.answer ≡ true) × Rel o.world (emit (end_in p x h) told o.routes)
  unfolding close_circuit
  close_circuit_lem e a =
      let K = end_circuit_lem w h x none (λ i s t. refl) (record { full = R.base.full; rest = rest-same w }) in
      subst (λ (g : Past). (ends (close_circuit w q (named_circuit w q)).answer ≡ true)
      × Rel (close_circuit w q (named_circuit w q)).world (emit g told (close_circuit w q (named_circuit w q)).routes))
      (sym (ends-circuit R p x e))
      (sends-after R (at x false h.active) h.opens.standing _ K (at-false x h.active) (λ i a. a)
      (forwarded q (named_circuit w q) Close)
      (quiet-forwarded q (named_circuit w q) Close (ended_by p x h) n (ended-circuit R p x e) op is-kind refl)
      (R.base.full.real x a) (subst (λ m. m < top 64) (sym circuit-sequence) low))

  pub close_keeps : let o = handle_close w q in Rel o.world (close_in q o.answer o.routes h)
  unfolding handle_close
  close_keeps =
      proceed-cases P w (close_taken w q)
      (cond (any (named_by p x) w.pending) (close_pending w q found) (close_circuit w q (named_circuit w q)))
      (λ e. choose P (any (named_by p x) w.pending) (close_pending w q found) (close_circuit w q (named_circuit w q))
      (λ f. into (close_pending w q found) (close_open f (one_only w q e)))
      (λ f. into (close_circuit w q (named_circuit w q))
      (close_circuit_lem f (named-active R q (named_circuit w q) (then_circuit w q e f)))))
      (λ e f. subst (λ b. Rel w (cond b (emit (end_in p x h) told []) h))
      (sym (refused_ends (close_taken w q) e f (never-closed w q 10 refl refl refl refl refl)
      (never-closed w q 6 refl refl refl refl refl))) R)
    where
      P : Outcome → Type 0
      P o = Rel o.world (close_in q o.answer o.routes h)

      into : (o : Outcome) → (ends o.answer ≡ true) × Rel o.world (emit (end_in p x h) told o.routes) → P o
      into o r = subst (λ b. Rel o.world (cond b (emit (end_in p x h) told o.routes) h)) (sym r.0) r.1
