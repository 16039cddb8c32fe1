-- Acknowledge keeps the invariant: the action goes out of table and list, of a DATA the circuit's queued count too;
-- undelivered, a record ends.
use Rattle.std.specs.Prelude.{ℕ, ◌-◌, ◌≤◌, ◌≡◌, Bool, true, false, cond, not, ◌&&◌, List, leb, eqb}
use Rattle.std.proofs.Math.Nat.{sub-zero}
use Rattle.std.proofs.Common.{arith, sym, ap, ◌∙◌, eqb-true, eq-eqb, ne_eqb, le-leb}
use Rattle.std.proofs.Math.Path.{refl}
use Rattle.std.proofs.lemmas.Bool.{false≢true, eqb-false, lt-leb}
use Rattle.hns_encoding.specs.Laws.Tests.{split, choose}
use Rattle.hns_encoding.specs.Sums.{only, one, non, total}
use Rattle.hns_encoding.specs.Laws.Sums.{total-le, total-split}
use Rattle.hnsr_circuit.specs.declared.records.RelayCircuit.{RelayCircuit}
use Rattle.hnsr_circuit.specs.declared.records.RelaySide.{RelaySide}
use Rattle.hnsr_circuit.specs.declared.records.RelaySide.TheVariants.{Requester, Endpoint}
use Rattle.hnsr_circuit.specs.declared.records.InflightAction.{InflightAction}
use Rattle.hnsr_circuit.specs.Peer.{same_peer}
use Rattle.hnsr_circuit.specs.Table.{any, pick, edit, keep}
use Rattle.hnsr_circuit.specs.Circuits.{no_circuit, circuit_at, queued_to, lowered}
use Rattle.hnsr_circuit.specs.declared.records.InflightKind.{InflightKind}
use Rattle.hnsr_circuit.specs.declared.records.InflightKind.TheVariants.{Incoming, Opened, Data, Control, Close}
use Rattle.hnsr_circuit.specs.Inflight.{kind_of, no_action, action_at, clear_action}
use Rattle.hnsr_circuit.specs.Inflight.{toward_side as toward_of}
use Rattle.hnsr_circuit.specs.World.{World, config_of}
use Rattle.hnsr_circuit.specs.Queue.{generation_of, sequence_of}
use Rattle.hnsr_circuit.specs.Acknowledge.{without_action, lower_for, released}
use Rattle.hnsr_circuit.specs.Laws.Totals.{total-keep}
use Rattle.hnsr_run.specs.Past.{Action, Past, peer_on, is_data, numbered, toward_side, weight, without}
use Rattle.hnsr_run.specs.Run.Actions.{view, remove_acts, found-is}
use Rattle.hnsr_run.specs.Run.Circuits.{stray, side_to, none, drop-queue}
use Rattle.hnsr_run.specs.Run.Books.{one-ledger}
use Rattle.hnsr_run.specs.Run.Full.{Body, Full, Keeps, Rest, plain-weight}
use Rattle.hnsr_run.specs.Run.InPlace.{only_one, agreed, place-circuit, looked}
use Rattle.hnsr_run.specs.Run.InPlace.{resume-at, lowered-at, lower-agrees}

-- ---- the kinds
pub by_kind : (P : InflightKind → Type 0) (n : ℕ) → (eqb n 0 ≡ true → eqb n 2 ≡ false → P Incoming)
    → (eqb n 0 ≡ false → eqb n 2 ≡ false → leb 4 n ≡ false → P Opened)
    → (eqb n 0 ≡ false → eqb n 2 ≡ true → leb 4 n ≡ false → P Data)
    → (eqb n 0 ≡ false → eqb n 2 ≡ false → leb 4 n ≡ false → P Control)
    → (eqb n 0 ≡ false → eqb n 2 ≡ false → leb 4 n ≡ true → P Close) → P (kind_of n)
unfolding kind_of
by_kind P n incoming opened data' control close =
    choose P (eqb n 0) Incoming _ (λ e. incoming e (ne_eqb n 2 (λ q. omega (arith, eqb-true n 0 e))))
    (λ a. choose P (eqb n 1) Opened _
    (λ e. let x = eqb-true n 1 e in opened a (ne_eqb n 2 (λ q. omega arith)) (lt-leb 4 n (omega arith)))
    (λ b. choose P (eqb n 2) Data _
    (λ e. let x = eqb-true n 2 e in data' a e (lt-leb 4 n (omega arith)))
    (λ c. choose P (eqb n 3) Control Close
    (λ e. let x = eqb-true n 3 e in control a c (lt-leb 4 n (omega arith)))
    (λ d. close a c (le-leb 4 n (omega (arith, eqb-false n 0 a, eqb-false n 1 b, eqb-false n 2 c, eqb-false n 3 d)))))))

-- ---- the action goes
lowered-queue : (b : Bool) (side : RelaySide) (n : ℕ) (c : RelayCircuit) (a : Action) → a.to_endpoint ≡ b
    → queued_to side (lowered (cond b Endpoint Requester) n c) ≡ queued_to side c - cond (toward_side side a) n 0
lowered-queue true Requester n c a e =
    sym (sub-zero (queued_to Requester c)) ∙ ap (λ b. queued_to Requester c - cond (not b) n 0) (sym e)
lowered-queue true Endpoint n c a e = ap (λ b. queued_to Endpoint c - cond b n 0) (sym e)
lowered-queue false Requester n c a e = ap (λ b. queued_to Requester c - cond (not b) n 0) (sym e)
lowered-queue false Endpoint n c a e =
    sym (sub-zero (queued_to Endpoint c)) ∙ ap (λ b. queued_to Endpoint c - cond b n 0) (sym e)

module _ (w : World) (h : Past) (F : Full none w h) (g s : ℕ) (found : any (numbered g s) h.out ≡ true) where
  abbrev action : InflightAction
  action = pick (action_at g s) no_action w.inflight

  abbrev table : List InflightAction
  table = edit (action_at g s) clear_action w.inflight

  abbrev rest : List Action
  rest = keep (non (numbered g s)) h.out

  is : (f : Action → ℕ) → total (only (numbered g s) f) h.out ≡ f (view action)
  is = found-is F.acts g s found

  -- no DATA: nothing is lowered
  plain : is_data (view action) ≡ false
      → Body none (config_of w) (generation_of w) (sequence_of w) w.pending w.circuits table h.active h.known
      h.opens.standing h.opens.asked rest
  plain e = record {
    acts = remove_acts F.acts g s;
    circs = F.circs;
    queue =
        drop-queue F.queue (numbered g s) (λ j t a side. is (weight j side) ∙ plain-weight j side (view action) e);
    pends = F.pends;
    disjoint = F.disjoint;
    real = F.real;
    real_p = F.real_p;
  }

  -- DATA: its circuit is active, and the queue that it stood in is lowered
  data_active : is_data (view action) ≡ true → h.active action.circuit_id ≡ true
  data_active e =
      real-one (is_data (view action)) (h.active action.circuit_id)
      (same_peer action.destination (peer_on (side_to (view action)) (h.known action.circuit_id))) e
      (let z = is (one (stray h.active h.known)) in
      let l = total-le (only (numbered g s) (one (stray h.active h.known))) (one (stray h.active h.known))
      h.out (λ a. most (numbered g s a) (one (stray h.active h.known) a)) in
      omega (arith, F.queue.honest))
    where
      most : (b : Bool) (n : ℕ) → cond b n 0 ≤ n
      most true n = omega arith
      most false n = omega arith

      real-one : (d x y : Bool) → d ≡ true → cond {A = ℕ} (d && not (x && y)) 1 0 ≡ 0 → x ≡ true
      real-one true true y e z = refl
      real-one true false y e z = absurd (omega arith)
      real-one false x y e z = absurd (false≢true e)

  data_lowered : is_data (view action) ≡ true
      → Body none (config_of w) (generation_of w) (sequence_of w) w.pending
      (edit (circuit_at action.circuit_id) (lowered (toward_of action) action.bytes) w.circuits) table
      h.active h.known h.opens.standing h.opens.asked rest
  data_lowered e = resume-at j (place-circuit out_of j (eq-eqb j j refl) act (lowered side n) (h.known j) h.known
      (λ x. lowered-at j side n x) (lower-agrees side n (agreed F j act)) (λ s. refl) same) counts
    where
      j : ℕ
      j = action.circuit_id

      n : ℕ
      n = action.bytes

      side : RelaySide
      side = toward_of action

      act : h.active j ≡ true
      act = data_active e

      same : (i : ℕ) → h.known i ≡ cond (eqb j i) (h.known j) (h.known i)
      same i =
          split (eqb j i)
          (λ q. ap h.known (sym (eqb-true j i q)) ∙ sym (ap (λ b. cond b (h.known j) (h.known i)) q))
          (λ q. sym (ap (λ b. cond b (h.known j) (h.known i)) q))

      elsewhere : (i : ℕ) (s : RelaySide) → eqb j i ≡ false → weight i s (view action) ≡ 0
      elsewhere i s q = off (is_data (view action)) (eqb j i) (toward_side s (view action)) q
        where
          off : (d x y : Bool) → x ≡ false → cond (d && (x && y)) n 0 ≡ 0
          off true x y z = ap (λ b. cond (b && y) n 0) z
          off false x y z = refl

      out_of : Body (λ i. eqb j i) (config_of w) (generation_of w) (sequence_of w) w.pending w.circuits table
          h.active h.known h.opens.standing h.opens.asked rest
      out_of = let O = only_one F j (λ i q. refl) in record {
        acts = remove_acts F.acts g s;
        circs = F.circs;
        queue = drop-queue O.queue (numbered g s) (λ i t a side. is (weight i side) ∙ elsewhere i side t);
        pends = F.pends;
        disjoint = F.disjoint;
        real = F.real;
        real_p = F.real_p;
      }

      here : (s : RelaySide) → weight j s (view action) ≡ cond (toward_side s (view action)) n 0
      here s =
          ap (λ b. cond (b && (eqb j j && toward_side s (view action))) n 0) e
          ∙ ap (λ b. cond (b && toward_side s (view action)) n 0) (eq-eqb j j refl)

      counts : (s : RelaySide)
          → total (weight j s) rest
          ≡ queued_to s (pick (circuit_at j) no_circuit (edit (circuit_at j) (lowered side n) w.circuits))
      counts s' =
          let a = total-keep (weight j s') (non (numbered g s)) h.out in
          let b = total-split (numbered g s) (weight j s') h.out in
          let c = is (weight j s') in
          let q = F.queue.queued j refl act s' in
          let l =
          lowered-queue action.to_endpoint s' n (pick (circuit_at j) no_circuit w.circuits) (view action) refl in
          let k = ap (queued_to s') (looked F j act (lowered side n) (λ x. lowered-at j side n x)) in
          omega (arith, here s')

  pub settle : Full none (released (without_action w g s) action) (without h (numbered g s))
  unfolding released lower_for
  settle =
      by_kind (λ k. Body none (config_of w) (generation_of w) (sequence_of w) w.pending
      (lower_for k action w.circuits) table h.active h.known h.opens.standing h.opens.asked rest)
      action.kind
      (λ a b. plain b) (λ a b c. plain b) (λ a b c. data_lowered b) (λ a b c. plain b) (λ a b c. plain b)

  settle-rest : Rest w (released (without_action w g s) action)
  unfolding released
  settle-rest =
      record { ledger = one-ledger w.ledger; clock = refl; generation = refl; enabled = refl; config = refl }

  pub settled-keeps : Keeps none w (released (without_action w g s) action) (without h (numbered g s))
  settled-keeps = record { full = settle; rest = settle-rest }
