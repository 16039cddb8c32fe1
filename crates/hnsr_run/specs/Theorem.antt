-- The run theorem: the claim holds of the definition, its `start` and its `step`; so does what stands beside it. And
-- both at the rich run.
use Rattle.std.specs.Prelude.{ℕ, ◌<◌, ◌≡◌, refl, true, List, [], map, length}
use Rattle.std.proofs.Common.{arith, sym, ap, ◌∙◌, subst}
use Rattle.hns_encoding.specs.Numbers.{top}
use Rattle.hnsr_circuit.specs.declared.peer.HnsrPeerId.{HnsrPeerId}
use Rattle.hnsr_circuit.specs.declared.records.RelayCircuit.{RelayCircuit}
use Rattle.hnsr_circuit.specs.declared.records.RelaySide.{RelaySide}
use Rattle.hnsr_circuit.specs.declared.records.RelaySide.TheVariants.{Requester, Endpoint}
use Rattle.hnsr_circuit.specs.Peer.{peer_good, peer_of}
use Rattle.hnsr_circuit.specs.Inflight.{is_action, capacity_left}
use Rattle.hnsr_circuit.specs.World.{World, Outcome, status_is, telling, proceed, at_time}
use Rattle.hnsr_circuit.specs.Queue.{sequence_of}
use Rattle.hnsr_circuit.specs.Entry.{tables_answer, peer_answer}
use Rattle.hnsr_circuit.specs.Packet.{Packet, circuit_in}
use Rattle.hnsr_circuit.specs.Data.{handle_data}
use Rattle.hnsr_circuit.specs.Status.{status_of, action_capacity, status}
use Rattle.hnsr_circuit.specs.Call.{start, call_status, step}
use Rattle.hnsr_circuit.specs.Pending.{pending_at}
use Rattle.hnsr_circuit.specs.Circuits.{circuit_at, other_side, peer_at, credit_of}
use Rattle.hnsr_circuit.specs.Laws.Answers.{number-zero}
use Rattle.hnsr_circuit.specs.Laws.Totals.{ones_length}
use Rattle.hnsr_run.specs.Past.{Known, Past, peer_on, credit, tally, with_out, moved_to}
use Rattle.hnsr_run.specs.History.{begin}
use Rattle.hnsr_run.specs.Claim.{Sends, Passes, Machine, left_by, delivered, Holds, Run, world_at, past_at, Claim}
use Rattle.hnsr_run.specs.Tables.{SameCircuit, Tabled, Companion}
use Rattle.hnsr_run.specs.Talk.{tables, fresh, world_after, past_after}
use Rattle.hnsr_run.specs.RichRun.{rich_calls, new-taken, bounded}
use Rattle.hnsr_run.specs.Run.Actions.{tally-held}
use Rattle.hnsr_run.specs.Run.Circuits.{Agrees}
use Rattle.hnsr_run.specs.Run.Rel.{Rel, Places, moved-rel}
use Rattle.hnsr_run.specs.Run.Steps.{long_enough}
use Rattle.hnsr_run.specs.Run.Start.{start-rel}
use Rattle.hnsr_run.specs.Run.Runs.{Between, run-between}
use Rattle.hnsr_run.specs.Run.AllAcknowledged.{acknowledge-all}
use Rattle.hnsr_run.specs.Run.Entering.{is_data_lem}
use Rattle.hnsr_run.specs.Run.Passing.{only_if, if}

-- the machine of the definition
abbrev pub relay : Machine
relay = record { new = start; step = step }

status-is : (w : World) → Places w → (peer : List ℕ) (circuit : ℕ) → peer_good (length peer) ≡ true
    → step w (call_status peer circuit) ≡ telling w (status_is (status_of w) (action_capacity w (peer_of peer) circuit))
unfolding step status tables_answer peer_answer proceed
status-is w H peer circuit good = rw (long_enough w H, good)

actions_are : {w : World} {h : Past} → Rel w h → (status_of w).queued_actions ≡ length h.out
unfolding status_of is_action
actions_are {w} {h} R = R.base.full.acts.held.same (λ a. 1) ∙ ones_length h.out

pub capacity_is : {w : World} {h : Past} → Rel w h → (peer : HnsrPeerId) (circuit : ℕ)
    → action_capacity w peer circuit ≡ capacity_left h.head.config (tally circuit peer h.out)
unfolding action_capacity
capacity_is R peer circuit i =
    capacity_left (R.base.heads.config i) (tally-held R.base.full.acts circuit peer i)

-- what was asked of a DATA before the acknowledgements is asked of it after
sends-after : (h : Past) (j : ℕ) (side : RelaySide) (q : Packet) (room : ℕ) → Sends h j side q room
    → Sends (with_out h []) j side q room
sends-after h j side q room s = record {
  opcode = s.opcode;
  context = s.context;
  named = s.named;
  from = s.from;
  some = s.some;
  fits = s.fits;
  queue = s.queue;
  forward = s.forward;
  unexpired = s.unexpired;
  words = s.words;
}

sends_then : (h : Past) (j : ℕ) (side : RelaySide) (q : Packet) (room : ℕ) → Sends h j side q room
    → Sends (moved_to (with_out h []) q.now) j side q room
sends_then h j side q room s = record {
  opcode = s.opcode;
  context = s.context;
  named = s.named;
  from = s.from;
  some = s.some;
  fits = s.fits;
  queue = s.queue;
  forward = omega arith;
  unexpired = s.unexpired;
  words = s.words;
}

passes_same : (o : Outcome) (h g : Past) (j : ℕ) (side : RelaySide) (q : Packet) → h.known j ≡ g.known j
    → Passes o h j side q → Passes o g j side q
passes_same o h g j side q e P = record {
  taken = P.taken;
  route = P.route;
  one = P.one;
  to = P.to ∙ ap (λ k. peer_on (other_side side) k) e;
  opcode = P.opcode;
  context = P.context;
  body = P.body;
}

holds : (w : World) (h : Past) → Rel w h → Places w → sequence_of w < top 64 → Holds step w h
holds w h R H low = record {
  status = λ peer circuit good. (
    status_of w,
    action_capacity w (peer_of peer) circuit,
    ap (λ (o : Outcome). o.answer) (status-is w H peer circuit good),
    ap (λ (o : Outcome). o.told) (status-is w H peer circuit good),
    actions_are R,
    capacity_is R (peer_of peer) circuit,
  );
  queued = λ j a side. sym (R.base.full.queue.queued j refl a side);
  acknowledged = λ order s rooms enough. let D = acknowledge-all rooms enough order w h R H low s in (
    D.answers,
    λ j a side q room S.
        let W = left_by step w (map (delivered step rooms) order) in
        let e = is_data_lem D.rel D.places q room j side a (sends-after h j side q room S) in
        let R₁ = moved-rel D.rel q.now S.forward in
        let S₁ = sends_then h j side q room S in
        let g = moved_to (with_out h []) q.now in
        let o = handle_data (at_time W q.now) q in (
          λ P. only_if R₁ refl D.low q room j side a S₁ refl
              (passes_same o h g j side q refl (subst (λ (x : Outcome). Passes x h j side q) e P)),
          λ c. subst (λ (x : Outcome). Passes x h j side q) (sym e)
              (passes_same o g h j side q refl (if R₁ refl D.low q room j side a S₁ refl c)),
        ),
  );
}

-- ---- every run keeps the invariant
pub run-rel : (r : Run relay) → Between (world_at relay r) (past_at relay r) × (sequence_of (world_at relay r) < top 64)
run-rel r =
    let b = start-rel r.lent r.began r.new-taken r.limit in
    run-between r.calls (start r.lent r.began).world (begin r.began)
    (record { rel = b.0; places = b.1; next = b.2 }) r.bounded

-- ---- the claim (RUN.10)
pub claim : Claim relay
claim r = let k = run-rel r in holds (world_at relay r) (past_at relay r) k.0.rel k.0.places k.1

-- ---- and what the tables hold
same-circuit : (c : RelayCircuit) (k : Known) → Agrees c k → SameCircuit c k
same-circuit c k A = record {
  sides = sides;
  reservation = A.reservation;
  expires = A.expires;
  limit = A.maximum;
  total = A.total;
  credits = credits;
  bytes = A.forwarded;
}
  where
    sides : (side : RelaySide) → peer_at side c ≡ peer_on side k
    sides Requester = A.requester
    sides Endpoint = A.endpoint

    credits : (side : RelaySide) → credit_of side c ≡ credit side k
    credits Requester = omega (arith, A.credit_r)
    credits Endpoint = omega (arith, A.credit_e)

tabled : {w : World} {h : Past} → Rel w h → Tabled w h
unfolding circuit_at pending_at
tabled {w} {h} R = let F = R.base.full in record {
  active = F.circs.found;
  one-active = F.circs.once;
  known = λ j a. same-circuit (circuit_in w j) (h.known j) (F.circs.agree j a);
  standing = F.pends.found;
  one-standing = F.pends.once;
  asked = λ j a. let A = F.pends.agree j a in record {
    requester = A.requester;
    endpoint = A.endpoint;
    context = A.context;
    ticket = A.ticket;
    deadline = A.deadline;
  };
  reserved = R.base.books.there;
  spent = λ r l. (R.base.books.stands r l).bytes;
}

pub companion : Companion relay
companion r = tabled (run-rel r).0.rel

-- ---- it is not vacuous
abbrev pub rich_run : Run relay
rich_run = record {
  lent = tables;
  began = fresh;
  new-taken = number-zero (start tables fresh).answer new-taken;
  limit = omega arith;
  calls = rich_calls;
  bounded = bounded;
}

pub rich_holds : Holds step (world_after rich_calls) (past_after rich_calls)
rich_holds = claim rich_run
