-- A message queued by the code is the definition's: the action put where `put` puts it, the route written, the sequence
-- moved on; and what refuses it leaves everything as it was.
use Rattle.std.specs.Prelude.{ℕ, ◌+◌, ◌≤◌, ◌<◌, ◌≡◌, Bool, cond, List, [], ◌∷◌, eqb, length, set, Result, Ok}
use Rattle.std.specs.Prelude.{Err, Option, None, Some}
use Rattle.std.specs.Option.{option_or, unwrap_or, IfSome}
use Rattle.std.specs.Result.{result_and}
use Rattle.std.proofs.Math.Path.{refl, ap}
use Rattle.std.proofs.Common.{arith, sym, subst, ◌∙◌}
use Rattle.hns_encoding.specs.Laws.Tests.{split}
use Rattle.hns_encoding.specs.Sums.{non}
use Rattle.std.proofs.Math.Bool.{true, false}
use Rattle.std.proofs.lemmas.Bool.{false≢true}
use Rattle.hns_encoding.specs.Numbers.{top, saturating_add}
use Rattle.hnsr_body.specs.declared.error.HnsrInvalid.TheVariants.{ContextZero}
use Rattle.hnsr_body.specs.declared.error.HnsrProtocolError.TheVariants.{Invalid}
use Rattle.hns_encoding.specs.Words.{word_count}
use Rattle.hns_encoding.specs.Cursor.{written}
use Rattle.hnsr_circuit.specs.declared.records.RelayPending.{RelayPending}
use Rattle.hnsr_circuit.specs.declared.records.RelayCircuit.{RelayCircuit}
use Rattle.hnsr_circuit.specs.declared.records.ReservationUsage.{ReservationUsage}
use Rattle.hnsr_circuit.specs.declared.records.InflightAction.{InflightAction}
use Rattle.hnsr_circuit.specs.declared.tables.scan.ActionScan.{ActionScan}
use Rattle.hnsr_circuit.specs.declared.output.queue.Outgoing.{Outgoing}
use Rattle.hnsr_circuit.specs.declared.output.queue.Queued.{Queued}
use Rattle.hnsr_circuit.specs.declared.runtime.OpaqueRelayRuntime.{OpaqueRelayRuntime}
use Rattle.hnsr_circuit.specs.declared.runtime.RelayState.{RelayState}
use Rattle.hnsr_circuit.specs.declared.runtime.Relayed.{Relayed}
use Rattle.hnsr_circuit.specs.declared.runtime.Sending.{Sending}
use Rattle.hnsr_circuit.specs.declared.answer.HnsrRuntimeError.{HnsrRuntimeError}
use Rattle.hnsr_circuit.specs.declared.answer.HnsrRuntimeError.TheVariants.{Protocol, GenerationExhausted}
use Rattle.hnsr_circuit.specs.declared.config.OpaqueRelayConfig.{OpaqueRelayConfig}
use Rattle.hnsr_circuit.specs.declared.tables.scan.InflightTally.{InflightTally}
use Rattle.hnsr_circuit.specs.Pending.{clear_pending}
use Rattle.hnsr_circuit.specs.Circuits.{clear_circuit}
use Rattle.hnsr_circuit.specs.Ledger.{clear_usage}
use Rattle.hnsr_circuit.specs.Inflight.{is_action, clear_action, capacity_answer}
use Rattle.hnsr_circuit.specs.Table.{any, place_of, place_in}
use Rattle.hnsr_circuit.specs.Answers.{HnsrAnswer, check, taken, ◌then◌}
use Rattle.hnsr_circuit.specs.Runtime.{with_sequence}
use Rattle.hnsr_circuit.specs.Route.{route_words, head_words}
use Rattle.hnsr_circuit.specs.World.{World, Outcome, proceed, done, world_of}
use Rattle.hnsr_circuit.specs.Queue.{Message, queue_answer, action_for, routed, can_queue}
use Rattle.hnsr_circuit.specs.Queue.{queued, send, tell_if, tell}
use Rattle.hnsr_circuit.specs.Code.Turns.{actions_scanned, numbered}
use Rattle.hnsr_circuit.specs.Code.Progress.{message_of, asking, filled_to, placed, progress}
use Rattle.hnsr_circuit.specs.Code.Progress.{advance, result, ending}
use Rattle.hnsr_circuit.specs.Code.Held.{held, held_actions, state_seen, underway_seen, handed_seen}
use Rattle.hnsr_circuit.specs.Code.Queueing.{queueing, Written}
use Rattle.hnsr_circuit.specs.Laws.Answers.{check-taken, then_taken}
use Rattle.hnsr_circuit.specs.Laws.Lookups.{place_none}
use Rattle.hnsr_circuit.specs.Laws.Held.{length-held}
use Rattle.hnsr_circuit.specs.Laws.HeldTables.{scan_upto}
use Rattle.hnsr_circuit.specs.Laws.Route.{route-words, length-words}

pub taken_is : (a : HnsrAnswer) → taken a ≡ true → a ≡ Ok tt
taken_is (Ok _) h = refl
taken_is (Err e) h = absurd (false≢true h)

-- rows that are taken go on, and a refusal stays
pub and-ok : {X : Type 0} (a : HnsrAnswer) (s : Result X HnsrRuntimeError) (x : X) → result_and a s ≡ Ok x
    → (a ≡ Ok tt) × (s ≡ Ok x)
and-ok (Ok _) s x h = (refl, h)
and-ok (Err e) s x h = cc

pub and-err : {X : Type 0} (a : HnsrAnswer) (x : X) (e : HnsrRuntimeError) → result_and {U = X} a (Ok x) ≡ Err e
    → a ≡ Err e
and-err (Ok _) x e h = cc
and-err (Err d) x e h = cc

pub ok-same : {X : Type 0} (x y : X) → ◌≡◌ {A = Result X HnsrRuntimeError} (Ok x) (Ok y) → x ≡ y
ok-same x y h = cc

-- a queued message found a sequence number
pub queue-sequence : (before : HnsrAnswer) (c : OpaqueRelayConfig) (t : InflightTally) (sequence context : ℕ)
    → taken (before then queue_answer c t sequence context) ≡ true → eqb sequence (top 64) ≡ false
unfolding queue_answer
queue-sequence before c t sequence context h =
    let last = check (eqb sequence (top 64)) GenerationExhausted in
    let rest = capacity_answer c t then last in
    let all = check (eqb context 0) (Protocol (Invalid ContextZero)) then rest in
    let a = (then_taken before all (taken_is (before then all) h)).1 in
    let b = (then_taken (check (eqb context 0) (Protocol (Invalid ContextZero))) rest a).1 in
    check-taken (eqb sequence (top 64)) GenerationExhausted (then_taken (capacity_answer c t) last b).1

-- where the code puts an action is where `put` does: at the place that a lookup finds, else at the first unused one,
-- and past the end where there is none
pub put-place : {A : Type 0} (p u : A → Bool) (t : List A)
    → unwrap_or (option_or (place_in p t) (place_in u t)) (length t) ≡ cond (any p t) (place_of p t) (place_of u t)
put-place p u t = split (any p t)
    (λ e. rw e)
    (λ e. rw e (split (any u t) (λ f. rw f) (λ f. rw f (sym (place_none u t f)))))

abbrev queued_of : OpaqueRelayRuntime → Outgoing → ActionScan → Queued
queued_of h m scan = record {
  runtime = with_sequence h (h.next_action_sequence + 1);
  place = option_or scan.found scan.spare;
  action = action_for (message_of m []) h.generation h.next_action_sequence;
}

queued-ok : (h : OpaqueRelayRuntime) (m : Outgoing) (scan : ActionScan) (q : Queued) → queueing h m scan ≡ Ok q
    → queued_of h m scan ≡ q
queued-ok h m scan q eq = ok-same _ q (and-ok _ _ q eq).1

-- the place of what is queued is at the number at most
pub queued_upto : (s : RelayState) (i : List InflightAction) (m : Outgoing) (scan : ActionScan) (q : Queued)
    → scan ≡ actions_scanned (asking s.runtime m) (held_actions s.places i) → queueing s.runtime m scan ≡ Ok q
    → unwrap_or q.place (length i) < length i → unwrap_or q.place (length i) ≤ s.places.actions
queued_upto s i m scan q es eq l =
    upto q.place
    (subst (λ (x : Queued). IfSome x.place (λ place. place ≤ s.places.actions)) (queued-ok s.runtime m scan q eq)
    (scan_upto (asking s.runtime m) s.places i scan es)) l
  where
    upto : (o : Option ℕ) → IfSome o (λ place. place ≤ s.places.actions) → unwrap_or o (length i) < length i
        → unwrap_or o (length i) ≤ s.places.actions
    upto None h l = absurd (omega arith)
    upto (Some k) h l = h

module _ (s : RelayState) (p : List RelayPending) (c : List RelayCircuit) (l : List ReservationUsage)
    (i : List InflightAction) (m : Outgoing) (body : List ℕ) (scan : ActionScan)
    (es : scan ≡ actions_scanned (asking s.runtime m) (held_actions s.places i)) where
  abbrev now : World
  now = state_seen s p c l i

  abbrev sent : Message
  sent = message_of m body

  -- what the code decided is what the definition answers
  decided : queue_answer s.runtime.config scan.tally s.runtime.next_action_sequence m.context_id ≡ can_queue sent now
  unfolding can_queue actions_scanned
  decided =
      ap (λ (x : ActionScan). queue_answer s.runtime.config x.tally s.runtime.next_action_sequence m.context_id) es

  refuses : (e : HnsrRuntimeError) → queueing s.runtime m scan ≡ Err e → can_queue sent now ≡ Err e
  refuses e h = sym decided ∙ and-err _ _ e h

  -- ---- a message that is refused
  ends-refused : (k : HnsrAnswer) (e : HnsrRuntimeError) (out : List ℕ) → k ≡ Err e → (o : Outcome)
      → result now (Err e) 0 out ≡ ending out (proceed now k o)
  unfolding proceed filled_to placed
  ends-refused (Err d) e out f o = ap (λ (a : HnsrAnswer). result now a 0 out) (sym f)
  ends-refused (Ok _) e out f o = cc

  pub send_refused : (r : Relayed) (e : HnsrRuntimeError) (out : List ℕ) → queueing s.runtime m scan ≡ Err e
      → (r.state ≡ s) × (r.answer ≡ Err e) × (r.words ≡ 0)
      → handed_seen r p c l i out ≡ ending out (send now sent)
  unfolding send
  send_refused r e out h er =
      (λ x. result (state_seen (er.0 x) p c l i) (er.1 x) (er.2 x) out)
      ∙ ends-refused (can_queue sent now) e out (refuses e h) _

  pub tell_refused : (e : HnsrRuntimeError) (at : ℕ) (out : List ℕ) → queueing s.runtime m scan ≡ Err e
      → progress now at out ≡ advance (tell sent) (progress now at out)
  unfolding tell tell_if filled_to placed
  tell_refused e at out h = rw (refuses e h)

  -- ---- a message that is queued
  module _ (q : Queued) (eq : queueing s.runtime m scan ≡ Ok q) where
    takes : can_queue sent now ≡ Ok tt
    takes = sym decided ∙ (and-ok _ _ q eq).0

    queued_is : queued_of s.runtime m scan ≡ q
    queued_is = queued-ok s.runtime m scan q eq

    -- the action stands where `put` puts it
    stands : set (held_actions s.places i) (unwrap_or q.place (length i)) q.action ≡ (queued sent now).inflight
    unfolding queued actions_scanned
    stands =
        let t = held_actions s.places i in
        rw (← queued_is, es, ← (length-held clear_action s.places.actions i))
        (ap (λ (k : ℕ). set t k (action_for sent s.runtime.generation s.runtime.next_action_sequence))
        (put-place (numbered (asking s.runtime m)) (non is_action) t))

    moved : q.runtime ≡ (queued sent now).runtime
    unfolding queued
    moved = sym (ap (λ (x : Queued). x.runtime) queued_is)

    -- how long its route is
    long : head_words + word_count (length body) ≡ length (route_words (routed sent now))
    long =
        ap (λ (n : ℕ). head_words + n) (sym (length-words body))
        ∙ sym (route-words (routed sent now))

    -- what the code leaves
    module _ (at : ℕ) (out : List ℕ) (r : Sending) (i' : List InflightAction) (out' : List ℕ)
        (w : Written m body q s at i out r i' out') where
      left : state_seen r.state p c l i' ≡ queued sent now
      unfolding queued
      left =
          λ x. world_of ((w.runtime ∙ moved) x) (held clear_pending (w.pending x) p)
          (held clear_circuit (w.circuits x) c) (held clear_usage (w.ledger x) l) ((w.actions ∙ stands) x)

      position : r.position ≡ saturating_add 64 at (length (route_words (routed sent now)))
      position = w.position ∙ ap (λ (n : ℕ). saturating_add 64 at n) long

      pub told : underway_seen r p c l i' out' ≡ advance (tell sent) (progress now at out)
      unfolding tell tell_if filled_to placed
      told = rw takes (λ x. progress (left x) (position x) (w.output x))

      ends-queued : (k : HnsrAnswer) → k ≡ Ok tt → at ≡ 0
          → result (queued sent now) (Ok tt) (saturating_add 64 at (length (route_words (routed sent now))))
          (written out at (route_words (routed sent now)))
          ≡ ending out (proceed now k (done (queued sent now) (routed sent now ∷ [])))
      unfolding proceed filled_to placed
      ends-queued (Err d) f z = cc
      ends-queued (Ok _) f z = rw z

      pub ended : (k : Relayed) → (k.state ≡ r.state) × (k.answer ≡ Ok tt) × (k.words ≡ r.position) → at ≡ 0
          → handed_seen k p c l i' out' ≡ ending out (send now sent)
      unfolding send
      ended k e z =
          (λ x. result (state_seen (e.0 x) p c l i') (e.1 x) (e.2 x) out')
          ∙ (λ x. result (left x) (Ok tt) (position x) (w.output x))
          ∙ ends-queued (can_queue sent now) takes z
