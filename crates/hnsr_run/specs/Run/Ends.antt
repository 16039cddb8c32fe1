-- Revocation of one record: it ends, its actions are dropped, and its sides are told.
use Rattle.std.specs.Prelude.{ℕ, ◌≡◌, Bool, true, false, cond, List, map, eqb}
use Rattle.std.proofs.Math.Path.{refl, subst}
use Rattle.std.proofs.Common.{sym, ap, ◌∙◌, eqb-true, eq-eqb}
use Rattle.hns_encoding.specs.Laws.Tests.{choose, clash, both}
use Rattle.hns_encoding.specs.Sums.{non, count}
use Rattle.hnsr_body.specs.declared.messages.Notice.{Notice}
use Rattle.hnsr_circuit.specs.declared.peer.HnsrPeerId.{HnsrPeerId}
use Rattle.hnsr_circuit.specs.declared.records.RelayPending.{RelayPending}
use Rattle.hnsr_circuit.specs.declared.records.RelaySide.{RelaySide}
use Rattle.hnsr_circuit.specs.declared.records.RelaySide.TheVariants.{Requester, Endpoint}
use Rattle.hnsr_circuit.specs.Table.{any, edit, clear}
use Rattle.hnsr_circuit.specs.Peer.{same_peer}
use Rattle.hnsr_circuit.specs.Pending.{no_pending, pending_at, clear_pending}
use Rattle.hnsr_circuit.specs.Circuits.{circuit_at, clear_circuit, peer_at}
use Rattle.hnsr_circuit.specs.World.{World}
use Rattle.hnsr_circuit.specs.declared.records.InflightKind.TheVariants.{Close}
use Rattle.hnsr_circuit.specs.Inflight.{kind_number}
use Rattle.hnsr_circuit.specs.Route.{Route}
use Rattle.hnsr_circuit.specs.Queue.{Message, Sent, route_for}
use Rattle.hnsr_circuit.specs.Opcode.{op_close, op_error}
use Rattle.hnsr_circuit.specs.Packet.{circuit_in}
use Rattle.hnsr_circuit.specs.Revocation.{without_pending, without_actions, end_pending, end_circuit}
use Rattle.hnsr_circuit.specs.Revocation.{closing, error_to_requester, close_to_requester, close_to_endpoint}
use Rattle.hnsr_circuit.specs.Revocation.{close_to, pending_in, has_pending, revoke_pending, revoke_circuit}
use Rattle.hnsr_circuit.specs.RevokingCalls.{close_to_other, disconnect_pending}
use Rattle.hnsr_circuit.specs.Laws.Lookups.{pick-has}
use Rattle.hnsr_circuit.specs.Laws.Peer.{same_refl}
use Rattle.hnsr_circuit.specs.Laws.Edits.{edit-clear}
use Rattle.hnsr_run.specs.Past.{Known, Asked, Action, Past, peer_on, on_circuit, kind_for}
use Rattle.hnsr_run.specs.Past.{of_route, heard, fewer, emit, open_ended, circuit_ended}
use Rattle.hnsr_run.specs.History.{asked_side, about}
use Rattle.hnsr_run.specs.Run.Walks.{when-cases}
use Rattle.hnsr_run.specs.Run.ByLookup.{by_id, revoked-by-id, disconnected-by-id, circuit-by-id}
use Rattle.hnsr_run.specs.Run.Full.{AgreesP, Full, Keeps, Quiet, tell-keeps, two-tells}
use Rattle.hnsr_run.specs.Run.Full.{tell-on, two-on, tell-tables, two-tables}
use Rattle.hnsr_run.specs.Run.Ended.{end_circuit_lem, end_pending_lem}

-- ---- the relay's own messages are no DATA, and their routes tell what they are about: of the OPENs with qo and the
-- circuits with qc, that end, the endpoint and both sides hear under the id; the requester hears under its own context,
-- where T tells so
pub record Labelled (qo : Asked → Bool) (qc : Known → Bool) (T : (opcode : ℕ) → Asked → Bool) (f : Route → Action)
    (h : Past) : Type 0 where
  pub endpoint : (j : ℕ) (n : Notice) → h.opens.standing j ≡ true → qo (h.opens.asked j) ≡ true
      → Quiet f (closing (h.opens.asked j).endpoint j op_close j n)
  pub sides : (j : ℕ) (n : Notice) (side : RelaySide) → h.active j ≡ true → qc (h.known j) ≡ true
      → Quiet f (closing (peer_on side (h.known j)) j op_close j n)
  pub asker : (j opcode : ℕ) (n : Notice) → kind_for opcode ≡ kind_number Close → h.opens.standing j ≡ true
      → T opcode (h.opens.asked j) ≡ true
      → Quiet f (closing (h.opens.asked j).requester j opcode (h.opens.asked j).context n)

-- a revocation: requesters hear by ERROR
abbrev pub by_error : (opcode : ℕ) → Asked → Bool
by_error opcode k = eqb opcode op_error

abbrev Leads : Past → Type 0
Leads h = (j : ℕ) → h.opens.standing j ≡ true → (p : HnsrPeerId) → same_peer (h.opens.asked j).requester p ≡ true
    → h.opens.named p (h.opens.asked j).context ≡ j

heard_as : (told : Route → ℕ) (peer : HnsrPeerId) (id opcode context : ℕ) (n : Notice)
    → kind_for opcode ≡ kind_number Close
    → ((g s : ℕ) → told (route_for (closing peer id opcode context n) g s) ≡ id)
    → Quiet (heard told) (closing peer id opcode context n)
heard_as told peer id opcode context n k e = record {
  plain = refl;
  same = λ g s i. of_route (route_for (closing peer id opcode context n) g s) (e g s i) (k i) false 0;
}

pub labelled : (qo : Asked → Bool) (qc : Known → Bool) (h : Past) → Leads h
    → Labelled qo qc by_error (heard (about h)) h
labelled qo qc h leads = record {
  endpoint = λ j n a s. heard_as (about h) (h.opens.asked j).endpoint j op_close j n refl (λ g i. refl);
  sides = λ j n side a s. heard_as (about h) (peer_on side (h.known j)) j op_close j n refl (λ g i. refl);
  asker = λ j opcode n k a t. let p = (h.opens.asked j).requester in let x = (h.opens.asked j).context in
      heard_as (about h) p j opcode x n k
      (λ g i. ap (λ b. cond b (h.opens.named p x) x) t ∙ leads j a p (same_refl p));
}

-- and so do the labels that the machine itself gives
pub labelled-own : (qo : Asked → Bool) (qc : Known → Bool) (h : Past)
    → Labelled qo qc (λ opcode k. true) (heard (λ r. r.circuit)) h
labelled-own qo qc h = record {
  endpoint = λ j n a s. heard_as (λ r. r.circuit) (h.opens.asked j).endpoint j op_close j n refl (λ g i. refl);
  sides = λ j n side a s. heard_as (λ r. r.circuit) (peer_on side (h.known j)) j op_close j n refl (λ g i. refl);
  asker =
      λ j opcode n k a t.
      heard_as (λ r. r.circuit) (h.opens.asked j).requester j opcode (h.opens.asked j).context n k (λ g i. refl);
}

-- one message, told by its circuit
pub quiet-about : (peer : HnsrPeerId) (j id opcode context : ℕ) (n : Notice) → j ≡ id
    → kind_for opcode ≡ kind_number Close
    → Quiet (heard (λ r. j)) (closing peer id opcode context n)
quiet-about peer j id opcode context n e k = record {
  plain = refl;
  same = λ g s i. of_route (route_for (closing peer id opcode context n) g s) (e i) (k i) false 0;
}

-- the same of a past in which fewer OPENs stand and fewer circuits are active
pub still-labelled : {qo : Asked → Bool} {qc : Known → Bool} {T : ℕ → Asked → Bool} {f : Route → Action} {h : Past}
    → Labelled qo qc T f h → (ac st : ℕ → Bool) (out : List Action)
    → ((j : ℕ) → ac j ≡ true → h.active j ≡ true) → ((j : ℕ) → st j ≡ true → h.opens.standing j ≡ true)
    → Labelled qo qc T f (fewer h ac st out)
still-labelled L ac st out l m = record {
  endpoint = λ j n a. L.endpoint j n (m j a);
  sides = λ j n side a. L.sides j n side (l j a);
  asker = λ j opcode n k a. L.asker j opcode n k (m j a);
}

module _ {qo : Asked → Bool} {qc : Known → Bool} {T : ℕ → Asked → Bool} {f : Route → Action} {h : Past}
    (L : Labelled qo qc T f h) (n : Notice) (p : RelayPending) (j : ℕ) (a : h.opens.standing j ≡ true)
    (A : AgreesP p (h.opens.asked j)) (id : p.circuit_id ≡ j) where
  quiet-error : T op_error (h.opens.asked j) ≡ true → Quiet f (error_to_requester n p)
  unfolding error_to_requester
  quiet-error t =
      subst (λ (m : Message). Quiet f m) (sym (λ i. closing (A.requester i) (id i) op_error (A.context i) n))
      (L.asker j op_error n refl a t)

  quiet_close : qo (h.opens.asked j) ≡ true → Quiet f (close_to_endpoint n p)
  unfolding close_to_endpoint
  quiet_close s =
      subst (λ (m : Message). Quiet f m) (sym (λ i. closing (A.endpoint i) (id i) op_close (id i) n))
      (L.endpoint j n a s)

  quiet-requester : T op_close (h.opens.asked j) ≡ true → Quiet f (close_to_requester n p)
  unfolding close_to_requester
  quiet-requester t =
      subst (λ (m : Message). Quiet f m) (sym (λ i. closing (A.requester i) (id i) op_close (A.context i) n))
      (L.asker j op_close n refl a t)

pub quiet-to : {qo : Asked → Bool} {qc : Known → Bool} {T : ℕ → Asked → Bool} {f : Route → Action}
    {S : ℕ → Bool} {h : Past} → Labelled qo qc T f h → (n : Notice) (w : World) (j : ℕ)
    → Full S w h → h.active j ≡ true → qc (h.known j) ≡ true → (side : RelaySide)
    → Quiet f (close_to n (peer_at side (circuit_in w j)) j)
unfolding close_to circuit_at
quiet-to {f = f} L n w j F a s Requester =
    subst (λ (p : HnsrPeerId). Quiet f (closing p j op_close j n)) (sym (F.circs.agree j a).requester)
    (L.sides j n Requester a s)
quiet-to {f = f} L n w j F a s Endpoint =
    subst (λ (p : HnsrPeerId). Quiet f (closing p j op_close j n)) (sym (F.circs.agree j a).endpoint)
    (L.sides j n Endpoint a s)

quiet-other : (peer : HnsrPeerId) {qo : Asked → Bool} {qc : Known → Bool} {f : Route → Action} {h : Past}
    → Labelled qo qc (λ opcode k. true) f h → (p : RelayPending) (j : ℕ)
    → h.opens.standing j ≡ true → qo (h.opens.asked j) ≡ true → AgreesP p (h.opens.asked j) → p.circuit_id ≡ j
    → Quiet f (close_to_other peer p)
unfolding close_to_other
quiet-other peer {f = f} L p j a s A id =
    choose (λ (m : Message). Quiet f m) (same_peer p.requester peer) _ _
    (λ e. quiet_close L _ p j a A id s)
    (λ e. quiet-requester L _ p j a A id refl)

-- ---- one pending record, one circuit
pub pending-id : {S : ℕ → Bool} (w : World) (h : Past) → Full S w h → (j : ℕ) → h.opens.standing j ≡ true
    → eqb (pending_in w j).circuit_id j ≡ true
unfolding pending_at
pending-id w h F j a =
    (both (pending_in w j).used (eqb (pending_in w j).circuit_id j)
    (pick-has (pending_at j) no_pending w.pending (F.pends.found j ∙ a))).1

pub pending-there : {S : ℕ → Bool} (w : World) (h : Past) → Full S w h → (j : ℕ) → has_pending w j ≡ h.opens.standing j
unfolding pending_at
pending-there w h F j = F.pends.found j

pub pending-is : {S : ℕ → Bool} (w : World) (h : Past) → Full S w h → (j : ℕ) → h.opens.standing j ≡ true
    → (pending_in w j).circuit_id ≡ j
pending-is w h F j a = eqb-true (pending_in w j).circuit_id j (pending-id w h F j a)

pub pending-agrees : {S : ℕ → Bool} (w : World) (h : Past) → Full S w h → (j : ℕ) → h.opens.standing j ≡ true
    → AgreesP (pending_in w j) (h.opens.asked j)
unfolding pending_at
pending-agrees w h F j a = F.pends.agree j a

pub circuit-there : {S : ℕ → Bool} (w : World) (h : Past) → Full S w h → (j : ℕ)
    → any (circuit_at j) w.circuits ≡ h.active j
unfolding circuit_at
circuit-there w h F j = F.circs.found j

pub pending-table : {S : ℕ → Bool} (w : World) (h : Past) → Full S w h → (j : ℕ)
    → edit (pending_at j) clear_pending w.pending ≡ clear clear_pending (pending_at j) w.pending
unfolding pending_at
pending-table w h F j = edit-clear (pending_at j) clear_pending w.pending (F.pends.once j)

pub circuit-table : {S : ℕ → Bool} (w : World) (h : Past) → Full S w h → (j : ℕ)
    → edit (circuit_at j) clear_circuit w.circuits ≡ clear clear_circuit (circuit_at j) w.circuits
unfolding circuit_at
circuit-table w h F j = edit-clear (circuit_at j) clear_circuit w.circuits (F.circs.once j)

-- what an end of a pending record has to do, by id
pub record EndsOne (qo : Asked → Bool) (T : ℕ → Asked → Bool) (end : World → ℕ → Sent) : Type 1 where
  pub keeps : {qc : Known → Bool} {f : Route → Action} (S : ℕ → Bool) (u : World) (w : World) (h : Past) (j : ℕ)
      → Labelled qo qc T f h → Keeps S u w h
      → h.opens.standing j ≡ true → qo (h.opens.asked j) ≡ true
      → Keeps S u (by_id end w j).world (emit (open_ended h j) f (by_id end w j).routes)
  pub about : {qc : Known → Bool} {f : Route → Action} {S : ℕ → Bool} (w : World) (h : Past) (j : ℕ)
      → Labelled qo qc T f h → Full S w h → h.opens.standing j ≡ true
      → qo (h.opens.asked j) ≡ true → count (non (on_circuit j)) (map f (by_id end w j).routes) ≡ 0
  pub table : {S : ℕ → Bool} (w : World) (h : Past) (j : ℕ) → Full S w h → h.opens.standing j ≡ true
      → (by_id end w j).world.pending ≡ edit (pending_at j) clear_pending w.pending

ended-pendings : (w : World) (j : ℕ)
    → (end_pending w (pending_at j) j).pending ≡ edit (pending_at j) clear_pending w.pending
unfolding end_pending without_pending without_actions
ended-pendings w j = refl

error-id : (n : Notice) {S : ℕ → Bool} (w : World) (h : Past) → Full S w h → (j : ℕ) → h.opens.standing j ≡ true
    → eqb (error_to_requester n (pending_in w j)).circuit j ≡ true
unfolding error_to_requester
error-id n w h F j a = pending-id w h F j a

close_id_lem : (n : Notice) {S : ℕ → Bool} (w : World) (h : Past) → Full S w h → (j : ℕ) → h.opens.standing j ≡ true
    → eqb (close_to_endpoint n (pending_in w j)).circuit j ≡ true
unfolding close_to_endpoint
close_id_lem n w h F j a = pending-id w h F j a

other-id : (peer : HnsrPeerId) {S : ℕ → Bool} (w : World) (h : Past) → Full S w h → (j : ℕ)
    → h.opens.standing j ≡ true
    → eqb (close_to_other peer (pending_in w j)).circuit j ≡ true
unfolding close_to_other close_to_endpoint close_to_requester
other-id peer w h F j a =
    choose (λ (m : Message). eqb m.circuit j ≡ true) (same_peer (pending_in w j).requester peer) _ _
    (λ e. pending-id w h F j a)
    (λ e. pending-id w h F j a)

pub revoking : (qo : Asked → Bool) (n : Notice) → EndsOne qo by_error (revoke_pending n)
revoking qo n = record {
  keeps =
      λ {qc} {f} S u w h j L K a s. let A = pending-agrees w h K.full j a in let i = pending-is w h K.full j a in
      subst (λ (o : Sent). Keeps S u o.world (emit (open_ended h j) f o.routes))
      (sym (revoked-by-id w j (pending-there w h K.full j ∙ a) n))
      (two-tells (error_to_requester n (pending_in w j)) (close_to_endpoint n (pending_in w j))
      (end_pending w (pending_at j) j) (open_ended h j) (end_pending_lem w h j a K) (quiet-error L n _ j a A i refl)
      (quiet_close L n _ j a A i s));
  about = λ {qc} {f} w h j L F a s. let A = pending-agrees w h F j a in let i = pending-is w h F j a in
      subst (λ (o : Sent). count (non (on_circuit j)) (map f o.routes) ≡ 0)
      (sym (revoked-by-id w j (pending-there w h F j ∙ a) n))
      (two-on (error_to_requester n (pending_in w j)) (close_to_endpoint n (pending_in w j))
      (end_pending w (pending_at j) j) j (quiet-error L n _ j a A i refl) (quiet_close L n _ j a A i s)
      (error-id n w h F j a) (close_id_lem n w h F j a));
  table = λ w h j F a. ap (λ (o : Sent). o.world.pending) (revoked-by-id w j (pending-there w h F j ∙ a) n)
      ∙ (two-tables (error_to_requester n (pending_in w j)) (close_to_endpoint n (pending_in w j))
      (end_pending w (pending_at j) j)).pending
      ∙ ended-pendings w j;
}

pub disconnecting : (peer : HnsrPeerId) → EndsOne (asked_side peer) (λ opcode k. true) (disconnect_pending peer)
disconnecting peer = record {
  keeps = λ {qc} {f} S u w h j L K a s.
      subst (λ (o : Sent). Keeps S u o.world (emit (open_ended h j) f o.routes))
      (sym (disconnected-by-id w j (pending-there w h K.full j ∙ a) peer))
      (tell-keeps (close_to_other peer (pending_in w j)) (end_pending w (pending_at j) j) (open_ended h j)
      (end_pending_lem w h j a K)
      (quiet-other peer L _ j a s (pending-agrees w h K.full j a) (pending-is w h K.full j a)));
  about = λ {qc} {f} w h j L F a s.
      subst (λ (o : Sent). count (non (on_circuit j)) (map f o.routes) ≡ 0)
      (sym (disconnected-by-id w j (pending-there w h F j ∙ a) peer))
      (tell-on (close_to_other peer (pending_in w j)) (end_pending w (pending_at j) j) j
      (quiet-other peer L _ j a s (pending-agrees w h F j a) (pending-is w h F j a)) (other-id peer w h F j a));
  table = λ w h j F a. ap (λ (o : Sent). o.world.pending) (disconnected-by-id w j (pending-there w h F j ∙ a) peer)
      ∙ (tell-tables (close_to_other peer (pending_in w j)) (end_pending w (pending_at j) j)).pending
      ∙ ended-pendings w j;
}

pub revoke-circuit : {f : Route → Action} {S : ℕ → Bool} {u : World} (n : Notice) (w : World) (h : Past) (j : ℕ)
    (S' : ℕ → Bool)
    → ((i : ℕ) → S' i ≡ false → eqb j i ≡ false → S i ≡ false)
    → ((side : RelaySide) → Quiet f (close_to n (peer_at side (circuit_in w j)) j)) → Keeps S u w h → h.active j ≡ true
    → Keeps S' u (revoke_circuit n w j).world (emit (circuit_ended h j) f (revoke_circuit n w j).routes)
unfolding revoke_circuit
revoke-circuit {f} {S} {u} n w h j S' sw L K a = when-cases
    (λ (s : Sent). Keeps S' u s.world (emit (circuit_ended h j) f s.routes)) (any (circuit_at j) w.circuits) _ w
    (λ e. subst (λ (s : Sent). Keeps S' u s.world (emit (circuit_ended h j) f s.routes))
    (sym (circuit-by-id w j e n))
    (two-tells (close_to n (circuit_in w j).requester j) (close_to n (circuit_in w j).endpoint j) (end_circuit w j)
    (circuit_ended h j) (end_circuit_lem w h j S' sw K) (L Requester) (L Endpoint)))
    (λ e. clash (circuit-there w h K.full j ∙ a) e)

pub circuit-about : {f : Route → Action} (n : Notice) (w : World) (j : ℕ)
    → ((side : RelaySide) → Quiet f (close_to n (peer_at side (circuit_in w j)) j))
    → count (non (on_circuit j)) (map f (revoke_circuit n w j).routes) ≡ 0
unfolding revoke_circuit close_to
circuit-about {f} n w j L =
    when-cases (λ (s : Sent). count (non (on_circuit j)) (map f s.routes) ≡ 0) (any (circuit_at j) w.circuits) _ w
    (λ e. subst (λ (s : Sent). count (non (on_circuit j)) (map f s.routes) ≡ 0) (sym (circuit-by-id w j e n))
    (two-on (close_to n (circuit_in w j).requester j) (close_to n (circuit_in w j).endpoint j) (end_circuit w j) j
    (L Requester) (L Endpoint) (eq-eqb j j refl) (eq-eqb j j refl)))
    (λ e. refl)

ended-circuits : (w : World) (j : ℕ) → (end_circuit w j).circuits ≡ edit (circuit_at j) clear_circuit w.circuits
unfolding end_circuit without_actions
ended-circuits w j = refl

pub circuit-ended : {S : ℕ → Bool} (n : Notice) (w : World) (h : Past) (j : ℕ) → Full S w h → h.active j ≡ true
    → (revoke_circuit n w j).world.circuits ≡ edit (circuit_at j) clear_circuit w.circuits
unfolding revoke_circuit
circuit-ended n w h j F a =
    when-cases (λ (s : Sent). s.world.circuits ≡ edit (circuit_at j) clear_circuit w.circuits)
    (any (circuit_at j) w.circuits) _ w
    (λ e. ap (λ (s : Sent). s.world.circuits) (circuit-by-id w j e n)
    ∙ (two-tables (close_to n (circuit_in w j).requester j) (close_to n (circuit_in w j).endpoint j)
    (end_circuit w j)).circuits
    ∙ ended-circuits w j)
    (λ e. clash (circuit-there w h F j ∙ a) e)
