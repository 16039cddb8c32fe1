-- What the wrong machines are made of: the relay with one call replaced; and the runs that refute them.
use Rattle.std.specs.Prelude.{ℕ, ◌<◌, ◌≡◌, refl, Bool, true, ◌&&◌, List, [], ◌∷◌, ◌++◌, eqb, leb, ltb, length, Ok}
use Rattle.std.proofs.Common.{arith, ap, ◌∙◌, eqb-true, leb-true, ltb-true}
use Rattle.hns_encoding.specs.Numbers.{top}
use Rattle.hns_encoding.specs.Laws.Tests.{both}
use Rattle.hnsr_body.specs.Data.{most_data}
use Rattle.hnsr_circuit.specs.declared.records.RelaySide.{RelaySide}
use Rattle.hnsr_circuit.specs.Answers.{HnsrAnswer, ◌then◌}
use Rattle.hnsr_circuit.specs.Peer.{peer_good, peer_of, same_peer}
use Rattle.hnsr_circuit.specs.Inflight.{capacity_left}
use Rattle.hnsr_circuit.specs.World.{World, Outcome, Told, silent, status_is, due_is}
use Rattle.hnsr_circuit.specs.Opcode.{op_data}
use Rattle.hnsr_circuit.specs.Entry.{handle_words, clock_answer}
use Rattle.hnsr_circuit.specs.Handle.{entry_answer}
use Rattle.hnsr_circuit.specs.Packet.{Packet, sender}
use Rattle.hnsr_circuit.specs.Call.{Start, Call, start, step, call_status, call_handle}
use Rattle.hnsr_circuit.specs.Call.{call_acknowledge, call_disconnect, on_call}
use Rattle.hnsr_circuit.specs.Code.Told.{capacity_in}
use Rattle.hnsr_run.specs.Past.{Past, peer_on, tally}
use Rattle.hnsr_run.specs.History.{begin}
use Rattle.hnsr_run.specs.Claim.{Sends, Machine, events, below, Holds, Run}
use Rattle.hnsr_run.specs.Talk.{tables, fresh, grant, opens, accepts, sends}

-- ---- the relay with one call replaced
pub record Replaced : Type 0 where
  pub handles : World → Packet → (room : ℕ) → Outcome
  pub acknowledges : World → (generation sequence : ℕ) → (delivered : Bool) → (room : ℕ) → Outcome
  pub disconnects : World → (peer : List ℕ) → (room : ℕ) → Outcome
  pub tells : World → (peer : List ℕ) → (circuit : ℕ) → Outcome

abbrev replacing : Replaced → World → Call → Outcome
replacing r w c = on_call (r.tells w) (r.handles w) (r.acknowledges w) (r.disconnects w) (step w) c

abbrev handled : World → Packet → (room : ℕ) → Outcome
handled w q room = step w (call_handle q room)

abbrev acknowledged : World → (generation sequence : ℕ) → (delivered : Bool) → (room : ℕ) → Outcome
acknowledged w g s delivered room = step w (call_acknowledge g s delivered room)

abbrev disconnected : World → (peer : List ℕ) → (room : ℕ) → Outcome
disconnected w peer room = step w (call_disconnect peer room)

abbrev told : World → (peer : List ℕ) → (circuit : ℕ) → Outcome
told w peer circuit = step w (call_status peer circuit)

abbrev pub handling : (World → Packet → (room : ℕ) → Outcome) → Machine
handling f = record {
  new = start;
  step = replacing (record { handles = f; acknowledges = acknowledged; disconnects = disconnected; tells = told });
}

abbrev pub acknowledging : (World → (generation sequence : ℕ) → (delivered : Bool) → (room : ℕ) → Outcome) → Machine
acknowledging f = record {
  new = start;
  step = replacing (record { handles = handled; acknowledges = f; disconnects = disconnected; tells = told });
}

abbrev pub disconnecting : (World → (peer : List ℕ) → (room : ℕ) → Outcome) → Machine
disconnecting f = record {
  new = start;
  step = replacing (record { handles = handled; acknowledges = acknowledged; disconnects = f; tells = told });
}

abbrev pub telling-status : (World → (peer : List ℕ) → (circuit : ℕ) → Outcome) → Machine
telling-status f = record {
  new = start;
  step = replacing (record { handles = handled; acknowledges = acknowledged; disconnects = disconnected; tells = f });
}

-- entry and clock, in front of what is replaced
abbrev pub entering : World → Packet → (room : ℕ) → HnsrAnswer
entering w q room = entry_answer w q room then clock_answer w.runtime.trusted_time_high_water q.now

-- ---- the runs: a circuit, whose OPENED has the number 2; then DATA of 40 bytes toward the endpoint, whose route has
-- the number 3
abbrev pub opened : List Call
opened = opens 1 2 9 (7 ∷ []) (grant 5 100) 100 ∷ accepts 2 7 100 ∷ []

abbrev pub talk : List Call
talk = opened ++ (sends 1 7 40 100 ∷ [])

abbrev pub run-from : (s : Start) (m : Machine) → (m.new tables s).answer ≡ Ok tt
    → s.config.maximum_bytes_per_circuit < top 64 → (calls : List Call)
    → below (begin s) (events m.step (m.new tables s).world calls) ≡ true → Run m
run-from s m new-taken limit calls bounded =
    record { lent = tables; began = s; new-taken = new-taken; limit = limit; calls = calls; bounded = bounded }

abbrev pub run_of : (m : Machine) → (m.new tables fresh).answer ≡ Ok tt → (calls : List Call)
    → below (begin fresh) (events m.step (m.new tables fresh).world calls) ≡ true
    → Run m
run_of m new-taken calls bounded = run-from fresh m new-taken (omega arith) calls bounded

-- ---- the parts of the claim, for computing
abbrev pub actions_in : Told → ℕ
actions_in silent = 0
actions_in (status_is s capacity) = s.queued_actions
actions_in (due_is d) = 0

module _ (f : World → Call → Outcome) (w : World) (h : Past) (H : Holds f w h) where
  -- asked for the name of the byte 1 and for circuit 0: for any others the actions are as many
  pub status-tells : actions_in (f w (call_status (1 ∷ []) 0)).told ≡ length h.out
  status-tells = let s = H.status (1 ∷ []) 0 refl in ap actions_in s.3 ∙ s.4

  pub capacity_tells : (peer : List ℕ) (circuit : ℕ) → peer_good (length peer) ≡ true
      → capacity_in (f w (call_status peer circuit)).told
      ≡ capacity_left h.head.config (tally circuit (peer_of peer) h.out)
  capacity_tells peer circuit good = let s = H.status peer circuit good in ap capacity_in s.3 ∙ s.5

abbrev pub sendable : Past → (circuit : ℕ) → RelaySide → Packet → (room : ℕ) → Bool
sendable h j side q room =
    eqb q.opcode op_data
    && (eqb q.context j
    && (peer_good (length q.source)
    && (same_peer (peer_on side (h.known j)) (sender q)
    && (ltb 0 (length q.body)
    && (leb (length q.body) most_data
    && (leb (length q.body) h.head.config.maximum_queue_bytes
    && (leb h.head.clock q.now
    && (ltb q.now (h.known j).expires
    && leb handle_words room))))))))

pub can-send : (h : Past) (j : ℕ) (side : RelaySide) (q : Packet) (room : ℕ) → sendable h j side q room ≡ true
    → Sends h j side q room
can-send h j side q room e =
    let a = both (eqb q.opcode op_data) _ e in
    let b = both (eqb q.context j) _ a.1 in
    let c = both (peer_good (length q.source)) _ b.1 in
    let d = both (same_peer (peer_on side (h.known j)) (sender q)) _ c.1 in
    let f = both (ltb 0 (length q.body)) _ d.1 in
    let g = both (leb (length q.body) most_data) _ f.1 in
    let i = both (leb (length q.body) h.head.config.maximum_queue_bytes) _ g.1 in
    let k = both (leb h.head.clock q.now) _ i.1 in
    let l = both (ltb q.now (h.known j).expires) (leb handle_words room) k.1 in
    record {
      opcode = eqb-true q.opcode op_data a.0;
      context = eqb-true q.context j b.0;
      named = c.0;
      from = d.0;
      some = ltb-true 0 (length q.body) f.0;
      fits = leb-true (length q.body) most_data g.0;
      queue = leb-true (length q.body) h.head.config.maximum_queue_bytes i.0;
      forward = leb-true h.head.clock q.now k.0;
      unexpired = ltb-true q.now (h.known j).expires l.0;
      words = leb-true handle_words room l.1;
    }
