-- The action sequence, as the events tell it: 1 after a switch, else as it was, and one more for each route.
use Rattle.std.specs.Prelude.{ℕ, ◌+◌, ◌≡◌, refl, cond, List, leb, eqb, length}
use Rattle.std.proofs.Common.{arith, sym, ap, eq-eqb, ne_eqb}
use Rattle.std.specs.Bool.{beq}
use Rattle.hns_encoding.specs.Laws.Tests.{choose}
use Rattle.hnsr_circuit.specs.declared.config.OpaqueRelayConfig.{OpaqueRelayConfig}
use Rattle.hnsr_circuit.specs.Answers.{HnsrAnswer, number}
use Rattle.hnsr_circuit.specs.Table.{pick}
use Rattle.hnsr_circuit.specs.declared.records.InflightKind.TheVariants.{Incoming, Close}
use Rattle.hnsr_circuit.specs.Inflight.{kind_number}
use Rattle.hnsr_circuit.specs.Route.{Route}
use Rattle.hnsr_circuit.specs.Packet.{Packet, sender}
use Rattle.hnsr_circuit.specs.Handle.{Handling, OPEN, ACCEPT, DATA, WINDOW, CLOSE, ERROR, other, handling_of}
use Rattle.hnsr_circuit.specs.Call.{Call, call_status, call_next_due, call_observe_time}
use Rattle.hnsr_circuit.specs.Call.{call_replace_enabled, call_handle}
use Rattle.hnsr_circuit.specs.Call.{call_acknowledge, call_disconnect, call_revoke_reservation, call_expire}
use Rattle.hnsr_run.specs.Past.{Action, Past, numbered, nothing, without, moved_to}
use Rattle.hnsr_run.specs.History.{Event, taken, ends, written, entered, handled_as}
use Rattle.hnsr_run.specs.History.{by_context, by_id, failed_in, end_in, after, after_event}

-- ---- no call changes configuration, generation or sequence, but a switch
module _ (P : OpaqueRelayConfig → (generation next : ℕ) → Type 0) where
  abbrev Of : Past → Type 0
  Of h = P h.head.config h.head.generation h.head.next

  of_end : (h : Past) (x : ℕ) (q : Packet) → Of h → Of (end_in (sender q) x h)
  of_end h x q e = choose Of (by_context h (sender q) x) _ _ (λ a. e)
      (λ a. choose Of (by_id h (sender q) x) _ _ (λ b. e) (λ b. e))

  of_failed : (h : Past) (x : Action) → Of h → Of (failed_in x h)
  of_failed h x e = choose Of (eqb x.kind (kind_number Incoming)) _ _
      (λ a. choose Of (h.opens.standing x.circuit) _ h (λ b. e) (λ b. e))
      (λ a. choose Of (leb (kind_number Close) x.kind) h _ (λ b. e)
      (λ b. choose Of (h.active x.circuit) _ h (λ d. e) (λ d. e)))

  of-handled : (k : Handling) (q : Packet) (a : HnsrAnswer) (rs : List Route) (h : Past) → Of h
      → Of (handled_as k q a rs h)
  of-handled OPEN q a rs h e = choose Of (taken a) _ _ (λ x. e)
      (λ x. choose Of (eqb (number a) 18) _ h (λ y. e) (λ y. e))
  of-handled ACCEPT q a rs h e = choose Of (written a) _ h (λ x. e) (λ x. e)
  of-handled DATA q a rs h e = choose Of (taken a) _ h (λ x. e) (λ x. e)
  of-handled WINDOW q a rs h e = choose Of (taken a) _ h (λ x. e) (λ x. e)
  of-handled CLOSE q a rs h e = choose Of (ends a) _ h (λ x. of_end h q.context q e) (λ x. e)
  of-handled ERROR q a rs h e = choose Of (ends a) _ h (λ x. of_end h q.context q e) (λ x. e)
  of-handled other q a rs h e = e

  of-after : (h : Past) (c : Call) (a : HnsrAnswer) (rs : List Route) → Of h
      → P h.head.config (h.head.generation + 1) 1 → Of (after h c a rs)
  of-after h (call_status peer circuit) a rs e s = e
  of-after h call_next_due a rs e s = e
  of-after h (call_observe_time now) a rs e s = choose Of (taken a) _ h (λ x. e) (λ x. e)
  of-after h (call_replace_enabled expected on room) a rs e s = choose Of (taken a) _ h
      (λ x. choose Of (beq h.head.enabled on) h _ (λ y. e) (λ y. choose Of on _ _ (λ z. s) (λ z. s))) (λ x. e)
  of-after h (call_handle q room) a rs e s = choose Of (taken (entered h q room)) _ h
      (λ x. choose Of h.head.enabled _ _
      (λ y. of-handled (handling_of q.opcode) q a rs (moved_to h q.now) e) (λ y. e)) (λ x. e)
  of-after h (call_acknowledge g s delivered room) a rs e t = choose Of (ends a) _ h
      (λ x. choose Of delivered _ _ (λ y. e)
      (λ y. of_failed (without h (numbered g s)) (pick (numbered g s) nothing h.out) e)) (λ x. e)
  of-after h (call_disconnect peer room) a rs e s = choose Of (taken a) _ h (λ x. e) (λ x. e)
  of-after h (call_revoke_reservation id room) a rs e s = choose Of (taken a) _ h (λ x. e) (λ x. e)
  of-after h (call_expire now room) a rs e s = choose Of (taken a) _ h (λ x. e) (λ x. e)

pub same-config : (h : Past) (e : Event) → (after_event h e).head.config ≡ h.head.config
same-config h e = of-after (λ c g n. c ≡ h.head.config) h e.call e.answer e.routes refl refl

-- a switch shows in the generation
pub next-after : (h : Past) (e : Event)
    → (after_event h e).head.next
    ≡ cond (eqb (after_event h e).head.generation h.head.generation) h.head.next 1 + length e.routes
next-after h e =
    let g = h.head.generation in
    let n = h.head.next in
    ap (λ m. m + length e.routes) (of-after (λ c k m. m ≡ cond (eqb k g) n 1) h e.call e.answer e.routes
    (sym (ap (λ b. cond b n 1) (eq-eqb g g refl)))
    (sym (ap (λ b. cond b n 1) (ne_eqb (g + 1) g (λ q. omega arith)))))
