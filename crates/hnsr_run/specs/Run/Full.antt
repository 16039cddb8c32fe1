-- Actions, circuits, queues and pending records together, and what a message told does to them.
use Rattle.std.specs.Prelude.{ℕ, ◌<◌, ◌≡◌, refl, Bool, true, false, cond, not, ◌&&◌, List, [], ◌∷◌, ◌++◌, map, eqb}
use Rattle.std.specs.Prelude.{Ok, Err}
use Rattle.std.proofs.Common.{arith, sym, ap, ◌∙◌, subst, append-nil, append_assoc, eqb-true, eq-eqb}
use Rattle.hns_encoding.specs.Numbers.{top}
use Rattle.hns_encoding.specs.Sums.{one, non, count}
use Rattle.hns_encoding.specs.Laws.Sums.{total-append}
use Rattle.hnsr_circuit.specs.declared.config.OpaqueRelayConfig.{OpaqueRelayConfig}
use Rattle.hnsr_circuit.specs.declared.records.RelayPending.{RelayPending}
use Rattle.hnsr_circuit.specs.declared.records.RelayCircuit.{RelayCircuit}
use Rattle.hnsr_circuit.specs.declared.records.RelaySide.{RelaySide}
use Rattle.hnsr_circuit.specs.declared.records.InflightAction.{InflightAction}
use Rattle.hnsr_circuit.specs.declared.answer.HnsrRuntimeError.TheVariants.{Protocol, GenerationExhausted}
use Rattle.hnsr_body.specs.declared.error.HnsrInvalid.TheVariants.{ContextZero}
use Rattle.hnsr_body.specs.declared.error.HnsrProtocolError.TheVariants.{Invalid}
use Rattle.hnsr_circuit.specs.Answers.{HnsrAnswer, check, ◌then◌}
use Rattle.hnsr_circuit.specs.Peer.{same_peer}
use Rattle.hnsr_circuit.specs.Pending.{no_pending, pending_id, clear_pending}
use Rattle.hnsr_circuit.specs.declared.records.InflightKind.TheVariants.{Data}
use Rattle.hnsr_circuit.specs.Inflight.{kind_number, tallied, capacity_answer}
use Rattle.hnsr_circuit.specs.World.{World, config_of}
use Rattle.hnsr_circuit.specs.Queue.{Message, route_for, action_for, generation_of, sequence_of}
use Rattle.hnsr_circuit.specs.Queue.{queue_answer, can_queue, queued, routed, and_then, tell_if, tell}
use Rattle.hnsr_circuit.specs.Route.{Route}
use Rattle.hnsr_circuit.specs.Laws.Answers.{then_taken}
use Rattle.hnsr_circuit.specs.Laws.Keyed.{Keys, Tells}
use Rattle.hnsr_run.specs.Past.{Known, Asked, Action, Past, peer_on, is_data, on_circuit, toward_side, weight, emit}
use Rattle.hnsr_run.specs.Run.Actions.{Acts, view, in_use, queue-acts, room_of_lem}
use Rattle.hnsr_run.specs.Run.Circuits.{Circs, Queue, stray, side_to, queue-queue}
use Rattle.hnsr_run.specs.Run.Books.{SameBooks, one-ledger, books_then}

-- ---- a pending record and the OPEN that is known
pub record AgreesP (x : RelayPending) (k : Asked) : Type 0 where
  pub requester : x.requester ≡ k.requester
  pub endpoint : x.endpoint ≡ k.endpoint
  pub apart : same_peer k.requester k.endpoint ≡ false
  pub context : x.requester_context ≡ k.context
  pub some : eqb k.context 0 ≡ false
  pub ticket : x.ticket ≡ k.ticket
  pub deadline : x.deadline ≡ k.deadline
  pub totalled : k.ticket.max_total_bytes < top 64

abbrev pub pending_keys : Keys RelayPending ℕ Asked
pending_keys = record {
  used = λ p. p.used;
  unmark = clear_pending;
  off = λ p. refl;
  nobody = no_pending;
  key = pending_id;
  same = λ i j. eqb i j;
  same-eq = eqb-true;
  same_refl = λ i. eq-eqb i i refl;
  Agree = AgreesP;
}

-- ---- all four; no id is both pending and a circuit, and none is 0
pub record Body (S : ℕ → Bool) (c : OpaqueRelayConfig) (g next : ℕ) (ps : List RelayPending) (cs : List RelayCircuit)
    (t : List InflightAction) (ac : ℕ → Bool) (kn : ℕ → Known) (st : ℕ → Bool) (ask : ℕ → Asked)
    (out : List Action) : Type 0 where
  pub acts : Acts c g next t out
  pub circs : Circs cs ac kn
  pub queue : Queue S cs ac kn out
  pub pends : Tells pending_keys ps st ask
  pub disjoint : (j : ℕ) → st j ≡ true → ac j ≡ false
  pub real : (j : ℕ) → ac j ≡ true → eqb j 0 ≡ false
  pub real_p : (j : ℕ) → st j ≡ true → eqb j 0 ≡ false

abbrev pub Full : (ℕ → Bool) → World → Past → Type 0
Full S w h =
    Body S (config_of w) (generation_of w) (sequence_of w) w.pending w.circuits w.inflight h.active h.known
    h.opens.standing h.opens.asked h.out

-- ---- what the parts of a revocation leave alone; of the ledger, what the book is about
pub record Rest (w v : World) : Type 0 where
  pub ledger : SameBooks w.ledger v.ledger
  pub clock : v.runtime.trusted_time_high_water ≡ w.runtime.trusted_time_high_water
  pub generation : v.runtime.generation ≡ w.runtime.generation
  pub enabled : v.runtime.enabled ≡ w.runtime.enabled
  pub config : v.runtime.config ≡ w.runtime.config

pub rest-same : (w : World) → Rest w w
rest-same w = record { ledger = one-ledger w.ledger; clock = refl; generation = refl; enabled = refl; config = refl }

pub record Keeps (S : ℕ → Bool) (u w : World) (h : Past) : Type 0 where
  pub full : Full S w h
  pub rest : Rest u w

-- ---- a message told
-- one that is not DATA, whose route tells its action
pub record Quiet (f : Route → Action) (m : Message) : Type 0 where
  pub plain : eqb (kind_number m.kind) (kind_number Data) ≡ false
  pub same : (g n : ℕ) → f (route_for m g n) ≡ view (action_for m g n)

pub can-room : (m : Message) (w : World) → can_queue m w ≡ Ok tt
    → count in_use w.inflight < (config_of w).maximum_inflight_actions
unfolding can_queue queue_answer
can-room m w h =
    let cap = capacity_answer (config_of w) (tallied false m.circuit m.destination w.inflight) in
    let last = check (eqb (sequence_of w) (top 64)) GenerationExhausted in
    room_of_lem (config_of w) m.circuit m.destination w.inflight
    (then_taken cap last
    (then_taken (check (eqb m.context 0) (Protocol (Invalid ContextZero))) (cap then last) h).1).0

pub queued-rest : (m : Message) (w : World) → Rest w (queued m w)
unfolding queued
queued-rest m w =
    record { ledger = one-ledger w.ledger; clock = refl; generation = refl; enabled = refl; config = refl }

pub rest_then : {u v w : World} → Rest u v → Rest v w → Rest u w
rest_then r s = record {
  ledger = books_then r.ledger s.ledger;
  clock = s.clock ∙ r.clock;
  generation = s.generation ∙ r.generation;
  enabled = s.enabled ∙ r.enabled;
  config = s.config ∙ r.config;
}

-- another list of actions that is the same
pub reout : {S : ℕ → Bool} {c : OpaqueRelayConfig} {g next : ℕ} {ps : List RelayPending} {cs : List RelayCircuit}
    {t : List InflightAction} {ac : ℕ → Bool} {kn : ℕ → Known} {st : ℕ → Bool} {ask : ℕ → Asked} {o o' : List Action}
    → o ≡ o' → Body S c g next ps cs t ac kn st ask o → Body S c g next ps cs t ac kn st ask o'
reout {S} {c} {g} {next} {ps} {cs} {t} {ac} {kn} {st} {ask} e B =
    subst (λ o. Body S c g next ps cs t ac kn st ask o) e B

-- other circuits in suspense
pub suspending : {S S' : ℕ → Bool} {c : OpaqueRelayConfig} {g next : ℕ} {ps : List RelayPending}
    {cs : List RelayCircuit} {t : List InflightAction} {ac : ℕ → Bool} {kn : ℕ → Known} {st : ℕ → Bool}
    {ask : ℕ → Asked} {o : List Action}
    → ((j : ℕ) → S' j ≡ false → ac j ≡ true → S j ≡ false) → Body S c g next ps cs t ac kn st ask o
    → Body S' c g next ps cs t ac kn st ask o
suspending sw F = record {
  acts = F.acts;
  circs = F.circs;
  queue = record { queued = λ j s a. F.queue.queued j (sw j s a) a; honest = F.queue.honest };
  pends = F.pends;
  disjoint = F.disjoint;
  real = F.real;
  real_p = F.real_p;
}

pub plain-stray : (ac : ℕ → Bool) (kn : ℕ → Known) (a : Action) → is_data a ≡ false → stray ac kn a ≡ false
plain-stray ac kn a e =
    ap (λ b. b && not (ac a.circuit && same_peer a.destination (peer_on (side_to a) (kn a.circuit)))) e

pub plain-weight : (j : ℕ) (side : RelaySide) (a : Action) → is_data a ≡ false → weight j side a ≡ 0
plain-weight j side a e = ap (λ b. cond (b && (on_circuit j a && toward_side side a)) a.bytes 0) e

pub queue-full : {S : ℕ → Bool} {f : Route → Action} (w : World) (h : Past) (m : Message) → Full S w h → Quiet f m
    → count in_use w.inflight < (config_of w).maximum_inflight_actions
    → Full S (queued m w) (emit h f (routed m w ∷ []))
unfolding queued
queue-full {S} w h m F Q l =
    reout (ap (λ a. h.out ++ (a ∷ [])) (sym (Q.same (generation_of w) (sequence_of w))))
    (record {
      acts = queue-acts F.acts m l;
      circs = F.circs;
      queue =
          queue-queue F.queue (view (action_for m (generation_of w) (sequence_of w)))
          (plain-stray h.active h.known (view (action_for m (generation_of w) (sequence_of w))) Q.plain)
          (λ j s side. plain-weight j side (view (action_for m (generation_of w) (sequence_of w))) Q.plain);
      pends = F.pends;
      disjoint = F.disjoint;
      real = F.real;
      real_p = F.real_p;
    })

tell-if : {S : ℕ → Bool} {f : Route → Action} {u : World} (a : HnsrAnswer) (m : Message) (w : World) (h : Past)
    → (a ≡ Ok tt → count in_use w.inflight < (config_of w).maximum_inflight_actions) → Keeps S u w h → Quiet f m
    → Keeps S u (tell_if a m w).world (emit h f (tell_if a m w).routes)
unfolding tell_if
tell-if (Ok _) m w h l K Q =
    record { full = queue-full w h m K.full Q (l refl); rest = rest_then K.rest (queued-rest m w) }
tell-if {S} (Err e) m w h l K Q = record { full = reout (sym (append-nil h.out)) K.full; rest = K.rest }

pub tell-keeps : {S : ℕ → Bool} {f : Route → Action} {u : World} (m : Message) (w : World) (h : Past) → Keeps S u w h
    → Quiet f m
    → Keeps S u (tell m w).world (emit h f (tell m w).routes)
unfolding tell
tell-keeps m w h K Q = tell-if (can_queue m w) m w h (can-room m w) K Q

pub map-append : {A B : Type 0} (f : A → B) (xs ys : List A) → map f (xs ++ ys) ≡ map f xs ++ map f ys
map-append f [] ys = refl
map-append {B = B} f (x ∷ xs) ys = ap {B = List B} (λ l. f x ∷ l) (map-append f xs ys)

pub two-tells : {S : ℕ → Bool} {f : Route → Action} {u : World} (m n : Message) (w : World) (h : Past) → Keeps S u w h
    → Quiet f m → Quiet f n
    → Keeps S u (and_then (tell m w) (tell n)).world (emit h f (and_then (tell m w) (tell n)).routes)
two-tells {S} {f} {u} m n w h K Q P =
    let k = tell-keeps n (tell m w).world (emit h f (tell m w).routes) (tell-keeps m w h K Q) P in
    let e = append_assoc h.out (map f (tell m w).routes) (map f (tell n (tell m w).world).routes) ∙ ap
    (λ l. h.out ++ l) (sym (map-append f (tell m w).routes (tell n (tell m w).world).routes)) in
    record { full = reout e k.full; rest = k.rest }

-- its routes are about its circuit; it leaves the tables of records alone
tell-if-on : {f : Route → Action} (a : HnsrAnswer) (m : Message) (w : World) (j : ℕ) → Quiet f m
    → eqb m.circuit j ≡ true
    → count (non (on_circuit j)) (map f (tell_if a m w).routes) ≡ 0
unfolding tell_if
tell-if-on {f} (Ok _) m w j Q e = rw (Q.same (generation_of w) (sequence_of w), e)
tell-if-on (Err x) m w j Q e = refl

pub tell-on : {f : Route → Action} (m : Message) (w : World) (j : ℕ) → Quiet f m → eqb m.circuit j ≡ true
    → count (non (on_circuit j)) (map f (tell m w).routes) ≡ 0
unfolding tell
tell-on m w j Q e = tell-if-on (can_queue m w) m w j Q e

pub two-on : {f : Route → Action} (m n : Message) (w : World) (j : ℕ) → Quiet f m → Quiet f n
    → eqb m.circuit j ≡ true → eqb n.circuit j ≡ true
    → count (non (on_circuit j)) (map f (and_then (tell m w) (tell n)).routes) ≡ 0
two-on {f} m n w j Q P e d = rw (map-append f (tell m w).routes (tell n (tell m w).world).routes) (omega (
  arith,
  total-append (one (non (on_circuit j))) (map f (tell m w).routes) (map f (tell n (tell m w).world).routes),
  tell-on m w j Q e,
  tell-on n (tell m w).world j P d,
))

pub record SameTables (w v : World) : Type 0 where
  pub pending : v.pending ≡ w.pending
  pub circuits : v.circuits ≡ w.circuits
  pub ledger : v.ledger ≡ w.ledger

tell-if-tables : (a : HnsrAnswer) (m : Message) (w : World) → SameTables w (tell_if a m w).world
unfolding tell_if queued
tell-if-tables (Ok _) m w = record { pending = refl; circuits = refl; ledger = refl }
tell-if-tables (Err e) m w = record { pending = refl; circuits = refl; ledger = refl }

pub tell-tables : (m : Message) (w : World) → SameTables w (tell m w).world
unfolding tell
tell-tables m w = tell-if-tables (can_queue m w) m w

pub two-tables : (m n : Message) (w : World) → SameTables w (and_then (tell m w) (tell n)).world
two-tables m n w = let a = tell-tables m w in let b = tell-tables n (tell m w).world in record {
  pending = b.pending ∙ a.pending;
  circuits = b.circuits ∙ a.circuits;
  ledger = b.ledger ∙ a.ledger;
}
