-- What the code does with an acknowledged action is the definition's: removed, its queue lowered, and, undelivered,
-- what it was for ended.
use Rattle.std.specs.Prelude.{ℕ, ◌≡◌, ◌⊎◌, Bool, cond, None, Some, List, [], get_or, Ok, Err}
use Rattle.std.specs.Option.{ok_or}
use Rattle.std.specs.Result.{result_and}
use Rattle.std.proofs.Math.Path.{refl, sym, ap}
use Rattle.std.proofs.Math.Logic.{inl, inr}
use Rattle.std.proofs.Common.{◌∙◌}
use Rattle.std.proofs.Math.Bool.{true, false}
use Rattle.std.proofs.Math.ListN.{set}
use Rattle.hnsr_body.specs.declared.messages.Notice.TheVariants.{EndpointWriteFailed, OuterWriteFailed}
use Rattle.hnsr_body.specs.Messages.{notice_body}
use Rattle.hns_encoding.specs.Laws.Tests.{on-true}
use Rattle.hnsr_circuit.specs.declared.records.RelayPending.{RelayPending}
use Rattle.hnsr_circuit.specs.declared.records.RelayCircuit.{RelayCircuit}
use Rattle.hnsr_circuit.specs.declared.records.ReservationUsage.{ReservationUsage}
use Rattle.hnsr_circuit.specs.declared.records.InflightAction.{InflightAction}
use Rattle.hnsr_circuit.specs.declared.records.InflightKind.{InflightKind}
use Rattle.hnsr_circuit.specs.declared.records.InflightKind.TheVariants.{Opened, Data, Control}
use Rattle.hnsr_circuit.specs.declared.output.queue.Outgoing.{Outgoing}
use Rattle.hnsr_circuit.specs.declared.runtime.OpaqueRelayRuntime.{OpaqueRelayRuntime}
use Rattle.hnsr_circuit.specs.declared.tables.lookup.Found.{Found}
use Rattle.hnsr_circuit.specs.declared.answer.HnsrRuntimeError.{HnsrRuntimeError}
use Rattle.hnsr_circuit.specs.declared.answer.HnsrRuntimeError.TheVariants.{UnknownAction}
use Rattle.hnsr_circuit.specs.Answers.{HnsrAnswer, ◌then◌}
use Rattle.hnsr_circuit.specs.Runtime.{with_counters, count_revoked}
use Rattle.hnsr_circuit.specs.Table.{any, pick, place_of, edit}
use Rattle.hnsr_circuit.specs.Pending.{no_pending, pending_at, clear_pending}
use Rattle.hnsr_circuit.specs.Inflight.{no_action, action_at, clear_action, kind_of}
use Rattle.hnsr_circuit.specs.World.{World, done, world_of}
use Rattle.hnsr_circuit.specs.Queue.{finished, send}
use Rattle.hnsr_circuit.specs.Code.Progress.{message_of}
use Rattle.hnsr_circuit.specs.Code.Lookup.{pending_found, action_found}
use Rattle.hnsr_circuit.specs.Revocation.{without_pending, error_to_requester, revoke_circuit}
use Rattle.hnsr_circuit.specs.Acknowledge.{action_answer, lower_for, released, fail_pending, fail_incoming}
use Rattle.hnsr_circuit.specs.Acknowledge.{undelivered, settled, acknowledge_action}
use Rattle.hnsr_circuit.specs.Code.Revoking.{error_out}
use Rattle.hnsr_circuit.specs.Laws.Lookups.{found_is, pick_at}
use Rattle.hnsr_circuit.specs.Laws.Edits.{edit-set}

-- ---- the rows, with the action that its number finds
numbered : (a b : HnsrAnswer) (has : Bool) (g f : Found InflightAction)
    → result_and a (result_and b (ok_or (cond has (Some g) None) UnknownAction)) ≡ Ok f
    → ((a then b then action_answer has) ≡ Ok tt) × (cond has (Some g) None ≡ Some f)
unfolding action_answer
numbered (Ok _) (Ok _) true g f h = (refl, cc)
numbered (Ok _) (Ok _) false g f h = cc
numbered (Ok _) (Err e) has g f h = cc
numbered (Err e) b has g f h = cc

unnumbered : (a b : HnsrAnswer) (has : Bool) (g : Found InflightAction) (e : HnsrRuntimeError)
    → result_and a (result_and b (ok_or (cond has (Some g) None) UnknownAction)) ≡ Err e
    → (a then b then action_answer has) ≡ Err e
unfolding action_answer
unnumbered (Ok _) (Ok _) true g e h = cc
unnumbered (Ok _) (Ok _) false g e h = cc
unnumbered (Ok _) (Err d) has g e h = cc
unnumbered (Err d) b has g e h = cc

module _ (a b : HnsrAnswer) (p : InflightAction → Bool) (t : List InflightAction) where
  pub action-numbered : (f : Found InflightAction)
      → result_and a (result_and b (ok_or (action_found p t) UnknownAction)) ≡ Ok f
      → ((a then b then action_answer (any p t)) ≡ Ok tt) × (action_found p t ≡ Some f)
  action-numbered f h = numbered a b (any p t) _ f h

  pub action_missing : (e : HnsrRuntimeError)
      → result_and a (result_and b (ok_or (action_found p t) UnknownAction)) ≡ Err e
      → (a then b then action_answer (any p t)) ≡ Err e
  action_missing e h = unnumbered a b (any p t) _ e h

-- ---- an Incoming that was not delivered
module _ (h : OpaqueRelayRuntime) (p : List RelayPending) (c : List RelayCircuit) (l : List ReservationUsage)
    (i : List InflightAction) (id : ℕ) where
  pub incoming_failed : (f : Found RelayPending) (h' : OpaqueRelayRuntime) (p' : List RelayPending) (m : Outgoing)
      → pending_found (pending_at id) p ≡ Some f
      → h' ≡ with_counters h (count_revoked h.counters)
      → p' ≡ set p f.place (clear_pending (get_or p f.place no_pending))
      → m ≡ error_out f.row
      → send (world_of h' p' c l i) (message_of m (notice_body EndpointWriteFailed))
      ≡ fail_incoming (world_of h p c l i) id
  unfolding fail_incoming fail_pending without_pending error_to_requester
  incoming_failed f h' p' m ef eh ep em =
      let k = found_is (pending_at id) no_pending p f ef in
      let gone : p' ≡ edit (pending_at id) clear_pending p =
      ep ∙ ap (λ (n : ℕ). set p n (clear_pending (get_or p n no_pending))) k.1
      ∙ sym (edit-set (pending_at id) clear_pending no_pending p) in
      let message = em ∙ ap error_out k.2 in
      (λ x. send (world_of (eh x) (gone x) c l i) (message_of (message x) (notice_body EndpointWriteFailed)))
      ∙ sym (on-true _ (fail_pending (world_of h p c l i) id (pick (pending_at id) no_pending p))
      (done (world_of h p c l i) []) k.0)

  pub none_failed : any (pending_at id) p ≡ false → done (world_of h p c l i) [] ≡ fail_incoming (world_of h p c l i) id
  unfolding fail_incoming
  none_failed f = rw f

-- ---- by kind
module _ (w : World) (a : InflightAction) (d : Bool) where
  pub settled-delivered : d ≡ true → done w [] ≡ settled w a d
  unfolding settled
  settled-delivered t = rw t

  pub settled-by : (k : InflightKind) → kind_of a.kind ≡ k → d ≡ false → undelivered k w a.circuit_id ≡ settled w a d
  unfolding settled
  settled-by k e f = rw (f, e)

  pub settled-revoked : (k : InflightKind) → kind_of a.kind ≡ k → (k ≡ Opened) ⊎ (k ≡ Data) ⊎ (k ≡ Control)
      → d ≡ false → finished (revoke_circuit OuterWriteFailed w a.circuit_id) ≡ settled w a d
  unfolding undelivered
  settled-revoked k e (inl h) f = settled-by Opened (e ∙ h) f
  settled-revoked k e (inr (inl h)) f = settled-by Data (e ∙ h) f
  settled-revoked k e (inr (inr h)) f = settled-by Control (e ∙ h) f

-- ---- the action removed, its queue lowered
pub action-settled : (h : OpaqueRelayRuntime) (p : List RelayPending) (c : List RelayCircuit)
    (l : List ReservationUsage) (i : List InflightAction) (generation sequence : ℕ) (d : Bool) (c' : List RelayCircuit)
    (i' : List InflightAction) (f : Found InflightAction) → action_found (action_at generation sequence) i ≡ Some f
    → i' ≡ set i f.place (clear_action (get_or i f.place no_action))
    → c' ≡ lower_for (kind_of f.row.kind) f.row c
    → settled (world_of h p c' l i') f.row d ≡ acknowledge_action (world_of h p c l i) generation sequence d f.row
unfolding acknowledge_action released
action-settled h p c l i generation sequence d c' i' f ef ei ec =
    let q = action_at generation sequence in
    let gone = ei
    ∙ ap (λ (n : ℕ). set i n (clear_action (get_or i n no_action))) (found_is q no_action i f ef).1
    ∙ sym (edit-set q clear_action no_action i) in
    λ x. settled (world_of h p (ec x) l (gone x)) f.row d

-- the same of what a lookup gives, an action or none
pub action-settled-any : (h : OpaqueRelayRuntime) (p : List RelayPending) (c : List RelayCircuit)
    (l : List ReservationUsage) (i : List InflightAction) (generation sequence : ℕ) (d : Bool) (c' : List RelayCircuit)
    (i' : List InflightAction) (a : InflightAction) → a ≡ pick (action_at generation sequence) no_action i
    → i' ≡ set i (place_of (action_at generation sequence) i) (clear_action a)
    → c' ≡ lower_for (kind_of a.kind) a c
    → settled (world_of h p c' l i') a d ≡ acknowledge_action (world_of h p c l i) generation sequence d a
unfolding acknowledge_action released
action-settled-any h p c l i generation sequence d c' i' a ea ei ec =
    let q = action_at generation sequence in
    let gone = ei
    ∙ ap (λ (x : InflightAction). set i (place_of q i) (clear_action x)) (ea ∙ sym (pick_at q no_action i))
    ∙ sym (edit-set q clear_action no_action i) in
    λ x. settled (world_of h p (ec x) l (gone x)) a d
