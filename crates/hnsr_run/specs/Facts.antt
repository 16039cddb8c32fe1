-- What is known of the world that a run leaves, for work that builds on runs: first what is of the world alone, then
-- how it agrees with history. Each is a theorem by itself, and its proof is in Run/. The list of calls is any, so these
-- hold at every moment of a run.
use Rattle.std.specs.Prelude.{ℕ, ◌+◌, ◌≤◌, ◌<◌, ◌≡◌, refl, true, false, not, List, ltb, eqb, length, replicate, Ok, Err}
use Rattle.std.proofs.Common.{arith, sym, ◌∙◌, subst}
use Rattle.hns_encoding.specs.Numbers.{top}
use Rattle.hns_encoding.specs.Sums.{only, total, count}
use Rattle.hnsr_body.specs.declared.values.ReservationId.{ReservationId}
use Rattle.hnsr_circuit.specs.declared.peer.HnsrPeerId.{HnsrPeerId}
use Rattle.hnsr_circuit.specs.declared.records.RelaySide.{RelaySide}
use Rattle.hnsr_circuit.specs.declared.answer.HnsrRuntimeError.TheVariants.{Capacity}
use Rattle.hnsr_circuit.specs.Peer.{same_peer}
use Rattle.hnsr_circuit.specs.Circuits.{credit_of, queued_to}
use Rattle.hnsr_circuit.specs.Ledger.{has_usage, usage_of}
use Rattle.hnsr_circuit.specs.Inflight.{is_action, tallied, capacity_left}
use Rattle.hnsr_circuit.specs.World.{World, config_of}
use Rattle.hnsr_circuit.specs.Queue.{Message, generation_of, sequence_of, send}
use Rattle.hnsr_circuit.specs.Status.{action_capacity}
use Rattle.hnsr_circuit.specs.Fits.{answers_to, sent_all, Toward, AllToward, Ready}
use Rattle.hnsr_circuit.specs.Laws.Fits.{fits_exactly as exactly}
use Rattle.hnsr_circuit.specs.Packet.{has_circuit, circuit_in}
use Rattle.hnsr_circuit.specs.Revocation.{has_pending, pending_in}
use Rattle.hnsr_circuit.specs.Call.{start}
use Rattle.hnsr_run.specs.Past.{Action, Past, credit, weight, tally, lives}
use Rattle.hnsr_run.specs.Claim.{Run, world_at, past_at}
use Rattle.hnsr_run.specs.Tables.{SameCircuit, SameOpen}
use Rattle.hnsr_run.specs.SameRun.{same-world}
use Rattle.hnsr_run.specs.Theorem.{relay, capacity_is as capacity-reckoned, run-rel, companion}
use Rattle.hnsr_run.specs.Run.Actions.{view, none-numbered, tally-held}
use Rattle.hnsr_run.specs.Run.Circuits.{none, stray, idle}
use Rattle.hnsr_run.specs.Run.Rel.{Live, Base}
use Rattle.hnsr_run.specs.Run.Runs.{Between}
use Rattle.hnsr_run.specs.Run.Shape.{Shape}
use Rattle.hnsr_run.specs.Run.ShapeRuns.{run_shape as left-shape}

module _ (r : Run relay) where
  abbrev pub left : World
  left = world_at relay r

  abbrev pub told : Past
  told = past_at relay r

  -- ---- the world alone. `Run.Shape` says what follows by id
  pub run_shape : Shape left
  run_shape = subst Shape (sym (same-world (start r.lent r.began).world r.calls))
      (left-shape r.lent r.began r.calls r.new-taken)

  -- ---- the whole relation to history, of which the rest are parts
  pub related : Between left told × (sequence_of left < top 64)
  related = run-rel r

  base : Base none left told
  base = related.0.rel.base

  -- ---- runtime
  pub generation-is : generation_of left ≡ told.head.generation
  generation-is = base.heads.generation

  pub enabled-is : left.runtime.enabled ≡ told.head.enabled
  enabled-is = base.heads.enabled

  pub clock-is : left.runtime.trusted_time_high_water ≡ told.head.clock
  clock-is = base.heads.clock

  pub config-is : config_of left ≡ told.head.config
  config-is = base.heads.config

  -- the number that the next action gets
  pub next-is : sequence_of left ≡ told.head.next
  next-is = related.0.next

  -- off: no circuit is active, and no OPEN stands
  pub off-circuits : told.head.enabled ≡ false → (j : ℕ) → told.active j ≡ false
  off-circuits = related.0.rel.quiet

  pub off-opens : told.head.enabled ≡ false → (j : ℕ) → told.opens.standing j ≡ false
  off-opens = related.0.rel.quiet_p

  -- ---- circuits
  pub circuit-there : (j : ℕ) → has_circuit left j ≡ told.active j
  circuit-there = (companion r).active

  -- sides, reservation, expiry, limits; credits and bytes as they are reckoned
  pub circuit-known : (j : ℕ) → told.active j ≡ true → SameCircuit (circuit_in left j) (told.known j)
  circuit-known = (companion r).known

  pub credit-is : (j : ℕ) → told.active j ≡ true → (side : RelaySide)
      → credit_of side (circuit_in left j) ≡ credit side (told.known j)
  credit-is j a = (circuit-known j a).credits

  pub bytes_are : (j : ℕ) → told.active j ≡ true → (circuit_in left j).forwarded_bytes ≡ (told.known j).bytes
  bytes_are j a = (circuit-known j a).bytes

  pub sides-differ : (j : ℕ) → told.active j ≡ true
      → same_peer (told.known j).requester (told.known j).endpoint ≡ false
  sides-differ j a = (base.full.circs.agree j a).apart

  -- ---- OPENs
  pub open_there : (j : ℕ) → has_pending left j ≡ told.opens.standing j
  open_there = (companion r).standing

  pub open_asked : (j : ℕ) → told.opens.standing j ≡ true → SameOpen (pending_in left j) (told.opens.asked j)
  open_asked = (companion r).asked

  -- no id is both
  pub open_alone : (j : ℕ) → told.opens.standing j ≡ true → told.active j ≡ false
  open_alone = base.full.disjoint

  -- the requester's context leads to the id
  pub open_named : (j : ℕ) → told.opens.standing j ≡ true → (p : HnsrPeerId)
      → same_peer (told.opens.asked j).requester p ≡ true
      → told.opens.named p (told.opens.asked j).context ≡ j
  open_named = base.names

  -- ---- the ledger: of a record past its expiry nothing is said
  pub ledger-there : (i : ReservationId) → lives told.head.clock told.book i ≡ true
      → has_usage i left.ledger ≡ true
  ledger-there = base.books.there

  pub ledger-spent : (i : ReservationId) → lives told.head.clock told.book i ≡ true
      → (usage_of i left.ledger).bytes ≡ told.book.spent i
  ledger-spent i l = (base.books.stands i l).bytes

  pub ledger-due : (i : ReservationId) → lives told.head.clock told.book i ≡ true
      → (usage_of i left.ledger).expires_at ≡ told.book.due i
  ledger-due i l = (base.books.stands i l).expires

  pub ledger-lives : (i : ReservationId) → has_usage i left.ledger ≡ true
      → ltb told.head.clock (usage_of i left.ledger).expires_at ≡ true
      → lives told.head.clock told.book i ≡ true
  ledger-lives = base.books.known

  -- a circuit or an OPEN that is not past its expiry has its reservation living, due at its own expiry
  pub circuit-reserved : (j : ℕ) → told.active j ≡ true → ltb told.head.clock (told.known j).expires ≡ true
      → Live told.head.clock told.book (told.known j).reservation (told.known j).expires
  circuit-reserved = base.kept

  pub open_reserved : (j : ℕ) → told.opens.standing j ≡ true
      → ltb told.head.clock (told.opens.asked j).ticket.expires_at ≡ true
      → Live told.head.clock told.book (told.opens.asked j).ticket.reservation_id
      (told.opens.asked j).ticket.expires_at
  open_reserved = base.kept_p

  -- ---- actions: those in the table are those outstanding, whatever is summed over them; no number twice, all below
  -- the next, all of this generation
  pub actions_are : (f : Action → ℕ) → total (only is_action (λ i. f (view i))) left.inflight ≡ total f told.out
  unfolding is_action
  actions_are = base.full.acts.held.same

  pub numbers-once : (n : ℕ) → count (λ a. eqb a.sequence n) told.out ≤ 1
  numbers-once = base.full.acts.held.once

  pub numbers-below : (n : ℕ) → sequence_of left ≤ n → count (λ a. eqb a.sequence n) told.out ≡ 0
  numbers-below = base.full.acts.held.below

  pub numbers-ours : count (λ a. not (eqb a.generation (generation_of left))) told.out ≡ 0
  numbers-ours = base.full.acts.ours

  pub sequence-below : sequence_of left < top 64
  sequence-below = related.1

  -- the three counts of the action capacity
  pub tally-is : (j : ℕ) (peer : HnsrPeerId) → tallied false j peer left.inflight ≡ tally j peer told.out
  tally-is = tally-held base.full.acts

  -- so many further ones fit, reckoned from history
  pub capacity_is : (peer : HnsrPeerId) (circuit : ℕ)
      → action_capacity left peer circuit ≡ capacity_left told.head.config (tally circuit peer told.out)
  capacity_is = capacity-reckoned related.0.rel

  -- the table can take them: it has the places, and numbers are not in use
  pub ready : Ready left
  ready = record {
    places = base.full.acts.places;
    fresh = none-numbered base.full.acts;
  }

  -- with n left exactly n messages to that peer about that circuit can be queued, and the next finds a 10
  pub fits_exactly : (peer : HnsrPeerId) (circuit : ℕ) (ms : List Message) → AllToward peer circuit ms
      → told.head.next + length ms ≤ top 64
      → length ms ≡ capacity_left told.head.config (tally circuit peer told.out)
      → (m : Message) → Toward peer circuit m
      → (answers_to left ms ≡ replicate (length ms) (Ok tt)) × ((send (sent_all left ms) m).answer ≡ Err Capacity)
  fits_exactly peer circuit ms aimed low exact m last =
      exactly left ready peer circuit ms aimed (omega (arith, next-is)) (exact ∙ sym (capacity_is peer circuit)) m last

  -- ---- queues: each queued count is the bytes outstanding there, and no DATA is outstanding elsewhere
  pub queue-is : (j : ℕ) → told.active j ≡ true → (side : RelaySide)
      → queued_to side (circuit_in left j) ≡ total (weight j side) told.out
  queue-is j a side = sym (base.full.queue.queued j refl a side)

  pub queue-idle : (j : ℕ) → told.active j ≡ false → (side : RelaySide) → total (weight j side) told.out ≡ 0
  queue-idle = idle base.full.queue

  pub queue-honest : count (stray told.active told.known) told.out ≡ 0
  queue-honest = base.full.queue.honest
