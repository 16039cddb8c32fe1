-- What a handler of DATA, WINDOW, CLOSE or ERROR leaves is the definition's: where its rows pass the changed parts, and
-- where one refuses the world as it was.
use Rattle.std.specs.Prelude.{ℕ, ◌+◌, ◌≤◌, ◌<◌, ◌≡◌, refl, Bool, true, false, cond, not, None, Some}
use Rattle.std.specs.Prelude.{List, leb, ltb, length, get_or, set, Result, Ok, Err}
use Rattle.std.specs.Result.{result_and}
use Rattle.std.proofs.Common.{arith, sym, ap, ◌∙◌, le-leb, ltb-false}
use Rattle.std.proofs.lemmas.Option.{none-some, cond_some}
use Rattle.hns_encoding.specs.Laws.Tests.{split}
use Rattle.hns_encoding.specs.Sums.{count}
use Rattle.hnsr_body.specs.Data.{decode_window, data_checked}
use Rattle.hnsr_body.specs.Detail.{decode_detail}
use Rattle.hnsr_body.specs.Values.{most_window}
use Rattle.hnsr_circuit.specs.declared.peer.HnsrPeerId.{HnsrPeerId}
use Rattle.hnsr_circuit.specs.declared.records.RelayPending.{RelayPending}
use Rattle.hnsr_circuit.specs.declared.records.RelayCircuit.{RelayCircuit}
use Rattle.hnsr_circuit.specs.declared.records.ReservationUsage.{ReservationUsage}
use Rattle.hnsr_circuit.specs.declared.records.InflightAction.{InflightAction}
use Rattle.hnsr_circuit.specs.declared.records.RelaySide.{RelaySide}
use Rattle.hnsr_circuit.specs.declared.records.InflightKind.TheVariants.{Control, Close}
use Rattle.hnsr_circuit.specs.declared.tables.lookup.Found.{Found}
use Rattle.hnsr_circuit.specs.declared.output.queue.Outgoing.{Outgoing}
use Rattle.hnsr_circuit.specs.declared.runtime.RelayPacket.{RelayPacket}
use Rattle.hnsr_circuit.specs.declared.runtime.OpaqueRelayRuntime.{OpaqueRelayRuntime}
use Rattle.hnsr_circuit.specs.declared.runtime.RuntimeCounters.{RuntimeCounters}
use Rattle.hnsr_circuit.specs.declared.tables.places.Places.{Places}
use Rattle.hnsr_circuit.specs.declared.runtime.RelayState.{RelayState}
use Rattle.hnsr_circuit.specs.declared.runtime.Request.{Request}
use Rattle.hnsr_circuit.specs.declared.runtime.Relayed.{Relayed}
use Rattle.hnsr_circuit.specs.Code.Held.{held_pending, held_circuits, held_ledger, held_actions}
use Rattle.hnsr_circuit.specs.Code.Held.{world_seen, state_seen, world_given, handed_seen}
use Rattle.hnsr_circuit.specs.declared.messages.data.DataPlan.{DataPlan}
use Rattle.hnsr_circuit.specs.declared.messages.window.WindowPlan.{WindowPlan}
use Rattle.hnsr_circuit.specs.declared.answer.HnsrRuntimeError.{HnsrRuntimeError}
use Rattle.hnsr_circuit.specs.declared.answer.HnsrRuntimeError.TheVariants.{InvalidAdmission, WrongPeer, FlowControl}
use Rattle.hnsr_circuit.specs.Table.{place_of, any, pick}
use Rattle.hnsr_circuit.specs.Answers.{HnsrAnswer, check, body_answer, taken, ◌then◌}
use Rattle.hnsr_circuit.specs.Peer.{same_peer, peer_of}
use Rattle.hnsr_circuit.specs.Pending.{no_pending, named_by, clear_pending}
use Rattle.hnsr_circuit.specs.Circuits.{no_circuit, circuit_at, is_side, side_of, other_side}
use Rattle.hnsr_circuit.specs.Circuits.{credit_of, charged, raised, clear_circuit}
use Rattle.hnsr_circuit.specs.Ledger.{no_usage, usage_at, spent}
use Rattle.hnsr_circuit.specs.Inflight.{action_under, dropped, capacity_answer}
use Rattle.hnsr_circuit.specs.Runtime.{with_counters, count_bytes, count_revoked}
use Rattle.hnsr_circuit.specs.World.{Outcome, refuse, world_of}
use Rattle.hnsr_circuit.specs.Queue.{send}
use Rattle.hnsr_circuit.specs.Packet.{sender, circuit_answer}
use Rattle.hnsr_circuit.specs.Data.{bytes_answer, flow_answer, with_data}
use Rattle.hnsr_circuit.specs.Data.{data_message, data_taken, data_with, handle_data}
use Rattle.hnsr_circuit.specs.Window.{credit_answer, with_window, window_taken, window_with, handle_window}
use Rattle.hnsr_circuit.specs.Revocation.{without_actions, without_pending, end_pending, end_circuit}
use Rattle.hnsr_circuit.specs.Close.{detail_answer, close_answer, translated, close_taken}
use Rattle.hnsr_circuit.specs.Close.{close_pending, close_circuit, handle_close}
use Rattle.hnsr_circuit.specs.Code.Lookup.{looked_up, pending_found, circuit_found}
use Rattle.hnsr_circuit.specs.Code.Turns.{actions_scanned}
use Rattle.hnsr_circuit.specs.Code.Progress.{message_of, packet_of, asking, handed_back, ending}
use Rattle.hnsr_circuit.specs.Code.Message.{own_circuit, passed_on, data_on, translated_on}
use Rattle.hnsr_circuit.specs.Code.Plans.{found_then, booked_for, data_planned_on, data_planned}
use Rattle.hnsr_circuit.specs.Code.Plans.{window_planned_on, window_planned, closing_message, close_planned}
use Rattle.hnsr_circuit.specs.Code.Plans.{pending_closed, circuits_closed}
use Rattle.hnsr_circuit.specs.Laws.Answers.{check-taken, then_taken, stop, stop-two}
use Rattle.hnsr_circuit.specs.Laws.Calls.{turned_away}
use Rattle.hnsr_circuit.specs.Laws.Lookups.{pick_at, any-count, none-count}
use Rattle.hnsr_circuit.specs.Laws.Edits.{edit-set, edit-none}
use Rattle.hnsr_circuit.specs.Laws.Queueing.{and-ok, and-err, ok-same}
use Rattle.hnsr_circuit.specs.Laws.Seen.{passed, turned, refused-seen}

-- ---- rows in order
rows-two : {A : Type 0} (a b : HnsrAnswer) (s : Result A HnsrRuntimeError)
    → result_and a (result_and b s) ≡ result_and (a then b) s
rows-two (Ok _) b s = refl
rows-two (Err e) b s = refl

rows-four : {A : Type 0} (a b c d : HnsrAnswer) (s : Result A HnsrRuntimeError)
    → result_and a (result_and b (result_and c (result_and d s))) ≡ result_and (a then b then c then d) s
rows-four (Ok _) (Ok _) c d s = rows-two c d s
rows-four (Ok _) (Err e) c d s = refl
rows-four (Err e) b c d s = refl

rows-five : {A : Type 0} (a b c d f : HnsrAnswer) (s : Result A HnsrRuntimeError)
    → result_and a (result_and b (result_and c (result_and d (result_and f s))))
    ≡ result_and (a then b then c then d then f) s
rows-five (Ok _) b c d f s = rows-four b c d f s
rows-five (Err e) b c d f s = refl

-- the last of four that are taken
last-taken : (a b c d : HnsrAnswer) → (a then b then c then d) ≡ Ok tt → d ≡ Ok tt
last-taken (Ok _) (Ok _) c d h = (then_taken c d h).1
last-taken (Ok _) (Err e) c d h = cc
last-taken (Err e) b c d h = cc

-- two rows that refuse are the answer, whatever is behind them
rows-stop : (a b z : HnsrAnswer) (e : HnsrRuntimeError) → (a then b) ≡ Err e → (a then b then z) ≡ Err e
rows-stop (Ok _) (Ok _) z e h = cc
rows-stop (Ok _) (Err d) z e h = h
rows-stop (Err d) b z e h = h

-- ---- rows that find something
kept : {A B : Type 0} (a : HnsrAnswer) (x : A) (k : A → Result B HnsrRuntimeError)
    → found_then (result_and a (Ok x)) k ≡ result_and a (k x)
kept (Ok _) x k = refl
kept (Err e) x k = refl

pub own-at : {B : Type 0} (b : Bool) (f : Found RelayCircuit) (peer : HnsrPeerId)
    (k : Found RelayCircuit → Result B HnsrRuntimeError)
    → found_then (own_circuit (cond b (Some f) None) peer) k ≡ result_and (circuit_answer b f.row peer) (k f)
unfolding circuit_answer
own-at true f peer k = kept (check (not (is_side peer f.row)) WrongPeer) f k
own-at false f peer k = refl

pub booked-at : {B : Type 0} (b : Bool) (f : Found ReservationUsage) (c : RelayCircuit) (n : ℕ)
    (k : Found ReservationUsage → Result B HnsrRuntimeError)
    → found_then (booked_for (cond b (Some f) None) c n) k ≡ result_and (bytes_answer b f.row c n) (k f)
unfolding bytes_answer
booked-at true f c n k = kept (bytes_answer true f.row c n) f k
booked-at false f c n k = refl

-- the code's row of the circuit, behind another one, refuses as the definition's does
own-stops : (a : HnsrAnswer) (b : Bool) (f : Found RelayCircuit) (peer : HnsrPeerId) (x : HnsrRuntimeError)
    → result_and a (own_circuit (cond b (Some f) None) peer) ≡ Err x → (a then circuit_answer b f.row peer) ≡ Err x
unfolding circuit_answer
own-stops (Ok _) true f peer x h = and-err (check (not (is_side peer f.row)) WrongPeer) f x h
own-stops (Ok _) false f peer x h = cc
own-stops (Err e) b f peer x h = cc

pub own_refused : (id : ℕ) (c : List RelayCircuit) (peer : HnsrPeerId) (a : HnsrAnswer) (x : HnsrRuntimeError)
    → result_and a (own_circuit (circuit_found (circuit_at id) c) peer) ≡ Err x
    → (a then circuit_answer (any (circuit_at id) c) (pick (circuit_at id) no_circuit c) peer) ≡ Err x
own_refused id c peer a x h =
    let at = circuit_at id in
    own-stops a (any at c) (record { place = place_of at c; row = pick at no_circuit c }) peer x h

-- ---- DATA
module _ (h : OpaqueRelayRuntime) (c : List RelayCircuit) (l : List ReservationUsage) (i : List InflightAction)
    (q : RelayPacket) (peer : HnsrPeerId) (n : ℕ) where
  -- the circuit that the packet names, the side that sent it, and the ledger record
  abbrev data_circuit : RelayCircuit
  data_circuit = pick (circuit_at q.context_id) no_circuit c

  abbrev data_usage : Found ReservationUsage
  data_usage = record {
    place = place_of (usage_at data_circuit.reservation_id) l;
    row = pick (usage_at data_circuit.reservation_id) no_usage l;
  }

  abbrev data_side : RelaySide
  data_side = side_of peer data_circuit

  abbrev data_message_on : Outgoing
  data_message_on = data_on q data_circuit peer n

  abbrev data_does : DataPlan
  data_does = record {
    place = place_of (circuit_at q.context_id) c;
    side = data_side;
    usage_place = data_usage.place;
    message = data_message_on;
    scan = actions_scanned (asking h data_message_on) i;
  }

  abbrev data_rows : HnsrAnswer
  data_rows =
      body_answer (data_checked n)
      then circuit_answer (any (circuit_at q.context_id) c) data_circuit peer
      then capacity_answer h.config (actions_scanned (asking h data_message_on) i).tally
      then bytes_answer (any (usage_at data_circuit.reservation_id) l) data_usage.row data_circuit n
      then flow_answer h.config data_circuit data_side n

  pub data_planned-is : data_planned h c l i q peer n ≡ result_and data_rows (Ok data_does)
  unfolding data_planned
  data_planned-is =
      let at = circuit_at q.context_id in
      let sized = body_answer (data_checked n) in
      let own = circuit_answer (any at c) data_circuit peer in
      let room = capacity_answer h.config (actions_scanned (asking h data_message_on) i).tally in
      let reserved = any (usage_at data_circuit.reservation_id) l in
      ap (result_and sized)
      (own-at (any at c) (record { place = place_of at c; row = data_circuit }) peer (data_planned_on h l i q peer n))
      ∙ ap (λ (r : Result DataPlan HnsrRuntimeError). result_and sized (result_and own (result_and room r)))
      (booked-at reserved data_usage data_circuit n _)
      ∙ rows-five sized own room (bytes_answer reserved data_usage.row data_circuit n)
      (flow_answer h.config data_circuit data_side n) (Ok data_does)

  -- refused by the body or the circuit: ledger and actions are not read, whatever they hold
  pub data_unread : (x : HnsrRuntimeError)
      → (body_answer (data_checked n) then circuit_answer (any (circuit_at q.context_id) c)
      (pick (circuit_at q.context_id) no_circuit c) peer) ≡ Err x
      → data_planned h c l i q peer n ≡ Err x
  data_unread x t =
      let own = circuit_answer (any (circuit_at q.context_id) c) data_circuit peer in
      let stopped : data_rows ≡ Err x = rows-stop (body_answer (data_checked n)) own _ x t in
      data_planned-is ∙ ap (λ (a : HnsrAnswer). result_and a (Ok data_does)) stopped

  module _ (plan : DataPlan) (ep : data_planned h c l i q peer n ≡ Ok plan) where
    data_rows-taken : data_rows ≡ Ok tt
    data_rows-taken = (and-ok _ _ plan (sym data_planned-is ∙ ep)).0

    data_plan-is : data_does ≡ plan
    data_plan-is = ok-same _ plan (and-ok _ _ plan (sym data_planned-is ∙ ep)).1

    -- the actions were asked what the message asks, whatever was counted
    pub data_scanned : (k : RuntimeCounters) → plan.scan ≡ actions_scanned (asking (with_counters h k) plan.message) i
    data_scanned k = rw (← data_plan-is)

module _ (h : OpaqueRelayRuntime) (p : List RelayPending) (c : List RelayCircuit) (l : List ReservationUsage)
    (i : List InflightAction) (q : RelayPacket) (source body e rs : List ℕ) where
  -- the rows of the code are the definition's
  pub data_rows-are : (let k = data_circuit h c l i q (peer_of source) (length body) in
      data_rows h c l i q (peer_of source) (length body)
      ≡ data_taken (world_of h p c l i) (packet_of q source body e rs) k (side_of (peer_of source) k) (length body))
  unfolding data_taken sender actions_scanned
  data_rows-are = refl

  pub data_turned : (x : HnsrRuntimeError) → data_planned h c l i q (peer_of source) (length body) ≡ Err x
      → refuse (world_of h p c l i) x ≡ handle_data (world_of h p c l i) (packet_of q source body e rs)
  unfolding handle_data data_with sender
  data_turned x ep =
      turned _ _ _ x
      (sym data_rows-are ∙ and-err _ _ x (sym (data_planned-is h c l i q (peer_of source) (length body)) ∙ ep))

  pub data_handled : (plan : DataPlan) → data_planned h c l i q (peer_of source) (length body) ≡ Ok plan
      → send (world_of (with_counters h (count_bytes (length body) h.counters)) p
      (set c plan.place (charged plan.side (length body) (get_or c plan.place no_circuit)))
      (set l plan.usage_place (spent (length body) (get_or l plan.usage_place no_usage))) i)
      (message_of plan.message body)
      ≡ handle_data (world_of h p c l i) (packet_of q source body e rs)
  unfolding handle_data data_with with_data data_message sender
  data_handled plan ep =
      let n = length body in
      let k = data_circuit h c l i q (peer_of source) n in
      let side = side_of (peer_of source) k in
      rw (
        ← (data_plan-is h c l i q (peer_of source) n plan ep),
        ← (edit-set (circuit_at q.context_id) (charged side n) no_circuit c),
        ← (edit-set (usage_at k.reservation_id) (spent n) no_usage l),
      )
      (passed _ _ _ (sym data_rows-are ∙ data_rows-taken h c l i q (peer_of source) n plan ep))

  -- what a plan leaves, or its refusal
  abbrev pub data_left : Result DataPlan HnsrRuntimeError → Outcome
  data_left (Ok plan) =
      send (world_of (with_counters h (count_bytes (length body) h.counters)) p
      (set c plan.place (charged plan.side (length body) (get_or c plan.place no_circuit)))
      (set l plan.usage_place (spent (length body) (get_or l plan.usage_place no_usage))) i)
      (message_of plan.message body)
  data_left (Err x) = refuse (world_of h p c l i) x

  pub data_ends : (planned : Result DataPlan HnsrRuntimeError)
      → data_planned h c l i q (peer_of source) (length body) ≡ planned
      → data_left planned ≡ handle_data (world_of h p c l i) (packet_of q source body e rs)
  data_ends (Ok plan) ep = data_handled plan ep
  data_ends (Err x) ep = data_turned x ep

  -- refused by its body or its circuit, whatever ledger and actions hold: all is as it was
  pub data_unread_refused : (out : List ℕ) (a : HnsrAnswer) (r : Relayed)
      → a ≡ (body_answer (data_checked (length body)) then circuit_answer (any (circuit_at q.context_id) c)
      (pick (circuit_at q.context_id) no_circuit c) (peer_of source))
      → taken a ≡ false → (r.state.runtime ≡ h) × (r.answer ≡ a) × (r.words ≡ 0)
      → handed_back r p c l i out ≡ ending out (handle_data (world_of h p c l i) (packet_of q source body e rs))
  unfolding handle_data data_with data_taken sender
  data_unread_refused out a r ea t k =
      let x = body_answer (data_checked (length body)) in
      let y = circuit_answer (any (circuit_at q.context_id) c) (pick (circuit_at q.context_id) no_circuit c)
      (peer_of source) in
      turned_away h p c l i out r a _ _ k t (ea ∙ stop-two x y _ (ap taken (sym ea) ∙ t))

-- the same of what the code's steps left
module _ (a : Request) (c : List RelayCircuit) (l : List ReservationUsage) (i : List InflightAction) (n : ℕ)
    (planned : Result DataPlan HnsrRuntimeError)
    (rows : planned ≡ data_planned a.state.runtime (held_circuits a.state.places c) (held_ledger a.state.places l)
    (held_actions a.state.places i) a.packet a.peer n) where
  pub data_refused : (p : List RelayPending) (source body e rs out : List ℕ) (r : Relayed) (x : HnsrRuntimeError)
      → a.peer ≡ peer_of source → n ≡ length body → planned ≡ Err x
      → (r.state ≡ a.state) × (r.answer ≡ Err x) × (r.words ≡ 0)
      → handed_seen r p c l i out
      ≡ ending out (handle_data (world_given a p c l i) (packet_of a.packet source body e rs))
  data_refused p source body e rs out r x sent size refused k =
      let s = a.state in
      let cs = held_circuits s.places c in
      let ls = held_ledger s.places l in
      let is = held_actions s.places i in
      refused-seen s p c l i out r x k
      ∙ ap (ending out)
      (data_turned s.runtime (held_pending s.places p) cs ls is a.packet source body e rs x
      (sym (rows ∙ (λ j. data_planned s.runtime cs ls is a.packet (sent j) (size j))) ∙ refused))

  module _ (plan : DataPlan) (h : OpaqueRelayRuntime) (t : RelayState) (k : ℕ) (taken : planned ≡ Ok plan)
      (bytes : h ≡ with_counters a.state.runtime (count_bytes k a.state.runtime.counters))
      (counted : (t.runtime ≡ h) × (t.places ≡ a.state.places)) where
    pub data_asked : plan.scan ≡ actions_scanned (asking t.runtime plan.message) (held_actions t.places i)
    data_asked =
        let s = a.state in
        data_scanned s.runtime (held_circuits s.places c) (held_ledger s.places l) (held_actions s.places i) a.packet
        a.peer n plan (sym rows ∙ taken) (count_bytes k s.runtime.counters)
        ∙ (λ j. actions_scanned (asking (sym (counted.0 ∙ bytes) j) plan.message)
        (held_actions (sym counted.1 j) i))

    pub data_sent : (p : List RelayPending) (c' : List RelayCircuit) (l' : List ReservationUsage)
        (i' : List InflightAction) (source body e rs out out' : List ℕ) (r : Relayed) (m : ℕ)
        → a.peer ≡ peer_of source → n ≡ length body → m ≡ n → k ≡ n
        → ((places : Places) → held_circuits places c' ≡ set (held_circuits places c) plan.place
        (charged plan.side m (get_or (held_circuits places c) plan.place no_circuit)))
        → ((places : Places) → held_ledger places l' ≡ set (held_ledger places l) plan.usage_place
        (spent k (get_or (held_ledger places l) plan.usage_place no_usage)))
        → ((p : List RelayPending) (c : List RelayCircuit) (l : List ReservationUsage)
        → handed_seen r p c l i' out' ≡ ending out (send (state_seen t p c l i) (message_of plan.message body)))
        → handed_seen r p c' l' i' out'
        ≡ ending out (handle_data (world_given a p c l i) (packet_of a.packet source body e rs))
    data_sent p c' l' i' source body e rs out out' r m sent size charge spend circuits ledger over =
        let s = a.state in
        let cs = held_circuits s.places c in
        let ls = held_ledger s.places l in
        let is = held_actions s.places i in
        let charged_by = charge ∙ size in
        let spent_by = spend ∙ size in
        over p c' l'
        ∙ (λ j. ending out (send (world_seen ((counted.0 ∙ bytes) j) (counted.1 j) p c' l' i)
        (message_of plan.message body)))
        ∙ (λ j. ending out (send (world_of (with_counters s.runtime (count_bytes (spent_by j) s.runtime.counters))
        (held_pending s.places p) (circuits s.places j) (ledger s.places j) is) (message_of plan.message body)))
        ∙ (λ j. ending out (send (world_of (with_counters s.runtime (count_bytes (length body) s.runtime.counters))
        (held_pending s.places p)
        (set cs plan.place (charged plan.side (charged_by j) (get_or cs plan.place no_circuit)))
        (set ls plan.usage_place (spent (spent_by j) (get_or ls plan.usage_place no_usage))) is)
        (message_of plan.message body)))
        ∙ ap (ending out)
        (data_handled s.runtime (held_pending s.places p) cs ls is a.packet source body e rs plan
        (sym (rows ∙ (λ j. data_planned s.runtime cs ls is a.packet (sent j) (size j))) ∙ taken))

-- ---- WINDOW
module _ (h : OpaqueRelayRuntime) (c : List RelayCircuit) (i : List InflightAction) (q : RelayPacket)
    (peer : HnsrPeerId) (body : List ℕ) where
  abbrev window_circuit : RelayCircuit
  window_circuit = pick (circuit_at q.context_id) no_circuit c

  abbrev window_side : RelaySide
  window_side = side_of peer window_circuit

  abbrev window_delta : ℕ
  window_delta = (decode_window body).body.credit_delta

  abbrev window_message_on : Outgoing
  window_message_on = passed_on q window_circuit peer Control

  abbrev window_does : WindowPlan
  window_does = record {
    place = place_of (circuit_at q.context_id) c;
    side = window_side;
    delta = window_delta;
    message = window_message_on;
    scan = actions_scanned (asking h window_message_on) i;
  }

  abbrev window_rows : HnsrAnswer
  window_rows =
      body_answer (decode_window body).result
      then circuit_answer (any (circuit_at q.context_id) c) window_circuit peer
      then capacity_answer h.config (actions_scanned (asking h window_message_on) i).tally
      then credit_answer window_circuit window_side window_delta

  pub window_planned-is : window_planned h c i q peer body ≡ result_and window_rows (Ok window_does)
  unfolding window_planned
  window_planned-is =
      let at = circuit_at q.context_id in
      let sized = body_answer (decode_window body).result in
      ap (result_and sized)
      (own-at (any at c) (record { place = place_of at c; row = window_circuit }) peer
      (window_planned_on h i q peer window_delta))
      ∙ rows-four sized (circuit_answer (any at c) window_circuit peer)
      (capacity_answer h.config (actions_scanned (asking h window_message_on) i).tally)
      (credit_answer window_circuit window_side window_delta) (Ok window_does)

  -- refused by the body or the circuit: the actions are not read, whatever they hold
  pub window_unread : (x : HnsrRuntimeError)
      → (body_answer (decode_window body).result then circuit_answer (any (circuit_at q.context_id) c)
      (pick (circuit_at q.context_id) no_circuit c) peer) ≡ Err x
      → window_planned h c i q peer body ≡ Err x
  window_unread x t =
      let own = circuit_answer (any (circuit_at q.context_id) c) window_circuit peer in
      let stopped : window_rows ≡ Err x = rows-stop (body_answer (decode_window body).result) own _ x t in
      window_planned-is ∙ ap (λ (a : HnsrAnswer). result_and a (Ok window_does)) stopped

  -- where the rows pass, the credit stays within the most
  rows-credit : window_rows ≡ Ok tt → credit_of (other_side window_side) window_circuit + window_delta ≤ most_window
  unfolding credit_answer
  rows-credit g =
      let after = credit_of (other_side window_side) window_circuit + window_delta in
      ltb-false most_window after
      (check-taken (ltb most_window after) FlowControl
      (last-taken (body_answer (decode_window body).result)
      (circuit_answer (any (circuit_at q.context_id) c) window_circuit peer)
      (capacity_answer h.config (actions_scanned (asking h window_message_on) i).tally)
      (credit_answer window_circuit window_side window_delta) g))

  module _ (plan : WindowPlan) (ep : window_planned h c i q peer body ≡ Ok plan) where
    window_rows-taken : window_rows ≡ Ok tt
    window_rows-taken = (and-ok _ _ plan (sym window_planned-is ∙ ep)).0

    window_plan-is : window_does ≡ plan
    window_plan-is = ok-same _ plan (and-ok _ _ plan (sym window_planned-is ∙ ep)).1

    -- the actions were asked what the message asks
    pub window_scanned : plan.scan ≡ actions_scanned (asking h plan.message) i
    window_scanned = rw (← window_plan-is)

    pub window_fits : credit_of (other_side plan.side) (get_or c plan.place no_circuit) + plan.delta < 4294967296
    window_fits =
        let there = rows-credit window_rows-taken in
        rw (← window_plan-is, pick_at (circuit_at q.context_id) no_circuit c) (omega (arith, there))

module _ (h : OpaqueRelayRuntime) (p : List RelayPending) (c : List RelayCircuit) (l : List ReservationUsage)
    (i : List InflightAction) (q : RelayPacket) (source body e rs : List ℕ) where
  -- the rows of the code are the definition's
  pub window_rows-are : (let k = window_circuit h c i q (peer_of source) body in
      window_rows h c i q (peer_of source) body
      ≡ window_taken (world_of h p c l i) (packet_of q source body e rs) k (side_of (peer_of source) k)
      (decode_window body).body.credit_delta)
  unfolding window_taken sender actions_scanned
  window_rows-are = refl

  pub window_turned : (x : HnsrRuntimeError) → window_planned h c i q (peer_of source) body ≡ Err x
      → refuse (world_of h p c l i) x ≡ handle_window (world_of h p c l i) (packet_of q source body e rs)
  unfolding handle_window window_with sender decode_window
  window_turned x ep =
      turned _ _ _ x
      (sym window_rows-are ∙ and-err _ _ x (sym (window_planned-is h c i q (peer_of source) body) ∙ ep))

  pub window_handled : (plan : WindowPlan) → window_planned h c i q (peer_of source) body ≡ Ok plan
      → send (world_of h p (set c plan.place (raised plan.side plan.delta (get_or c plan.place no_circuit))) l i)
      (message_of plan.message body)
      ≡ handle_window (world_of h p c l i) (packet_of q source body e rs)
  unfolding handle_window window_with with_window sender decode_window
  window_handled plan ep =
      let k = window_circuit h c i q (peer_of source) body in
      let side = side_of (peer_of source) k in
      let delta = (decode_window body).body.credit_delta in
      rw (
        ← (window_plan-is h c i q (peer_of source) body plan ep),
        ← (edit-set (circuit_at q.context_id) (raised side delta) no_circuit c),
      )
      (passed _ _ _ (sym window_rows-are ∙ window_rows-taken h c i q (peer_of source) body plan ep))

  -- what a plan leaves, or its refusal
  abbrev pub window_left : Result WindowPlan HnsrRuntimeError → Outcome
  window_left (Ok plan) =
      send (world_of h p (set c plan.place (raised plan.side plan.delta (get_or c plan.place no_circuit))) l i)
      (message_of plan.message body)
  window_left (Err x) = refuse (world_of h p c l i) x

  pub window_ends : (planned : Result WindowPlan HnsrRuntimeError)
      → window_planned h c i q (peer_of source) body ≡ planned
      → window_left planned ≡ handle_window (world_of h p c l i) (packet_of q source body e rs)
  window_ends (Ok plan) ep = window_handled plan ep
  window_ends (Err x) ep = window_turned x ep

  -- refused by its body or its circuit, whatever the actions hold: all is as it was
  pub window_unread_refused : (out : List ℕ) (a : HnsrAnswer) (r : Relayed)
      → a ≡ (body_answer (decode_window body).result then circuit_answer (any (circuit_at q.context_id) c)
      (pick (circuit_at q.context_id) no_circuit c) (peer_of source))
      → taken a ≡ false → (r.state.runtime ≡ h) × (r.answer ≡ a) × (r.words ≡ 0)
      → handed_back r p c l i out ≡ ending out (handle_window (world_of h p c l i) (packet_of q source body e rs))
  unfolding handle_window window_with window_taken sender
  window_unread_refused out a r ea t k =
      let x = body_answer (decode_window body).result in
      let y = circuit_answer (any (circuit_at q.context_id) c) (pick (circuit_at q.context_id) no_circuit c)
      (peer_of source) in
      turned_away h p c l i out r a _ _ k t (ea ∙ stop-two x y _ (ap taken (sym ea) ∙ t))

-- the same of what the code's steps left
module _ (a : Request) (c : List RelayCircuit) (i : List InflightAction) (body : List ℕ)
    (planned : Result WindowPlan HnsrRuntimeError)
    (rows : planned ≡ window_planned a.state.runtime (held_circuits a.state.places c) (held_actions a.state.places i)
    a.packet a.peer body) where
  pub window_refused : (p : List RelayPending) (l : List ReservationUsage) (source e rs out : List ℕ) (r : Relayed)
      (x : HnsrRuntimeError) → a.peer ≡ peer_of source → planned ≡ Err x
      → (r.state ≡ a.state) × (r.answer ≡ Err x) × (r.words ≡ 0)
      → handed_seen r p c l i out
      ≡ ending out (handle_window (world_given a p c l i) (packet_of a.packet source body e rs))
  window_refused p l source e rs out r x sent refused k =
      let s = a.state in
      let cs = held_circuits s.places c in
      let is = held_actions s.places i in
      refused-seen s p c l i out r x k
      ∙ ap (ending out)
      (window_turned s.runtime (held_pending s.places p) cs (held_ledger s.places l) is a.packet source body e rs x
      (sym (rows ∙ (λ j. window_planned s.runtime cs is a.packet (sent j) body)) ∙ refused))

  module _ (plan : WindowPlan) (taken : planned ≡ Ok plan) where
    pub window_asked : plan.scan ≡ actions_scanned (asking a.state.runtime plan.message) (held_actions a.state.places i)
    window_asked =
        window_scanned a.state.runtime (held_circuits a.state.places c) (held_actions a.state.places i) a.packet a.peer
        body plan (sym rows ∙ taken)

    pub window_sent : (p : List RelayPending) (l : List ReservationUsage) (c' : List RelayCircuit)
        (i' : List InflightAction) (source e rs out out' : List ℕ) (r : Relayed) → a.peer ≡ peer_of source
        → ((places : Places)
        → credit_of (other_side plan.side) (get_or (held_circuits places c) plan.place no_circuit) + plan.delta
        < 4294967296
        → held_circuits places c' ≡ set (held_circuits places c) plan.place
        (raised plan.side plan.delta (get_or (held_circuits places c) plan.place no_circuit)))
        → ((p : List RelayPending) (c : List RelayCircuit) (l : List ReservationUsage)
        → handed_seen r p c l i' out' ≡ ending out (send (state_seen a.state p c l i) (message_of plan.message body)))
        → handed_seen r p c' l i' out'
        ≡ ending out (handle_window (world_given a p c l i) (packet_of a.packet source body e rs))
    window_sent p l c' i' source e rs out out' r sent circuits over =
        let s = a.state in
        let cs = held_circuits s.places c in
        let is = held_actions s.places i in
        let fits = window_fits s.runtime cs is a.packet a.peer body plan (sym rows ∙ taken) in
        over p c' l
        ∙ (λ j. ending out (send (world_of s.runtime (held_pending s.places p) (circuits s.places fits j)
        (held_ledger s.places l) is) (message_of plan.message body)))
        ∙ ap (ending out)
        (window_handled s.runtime (held_pending s.places p) cs (held_ledger s.places l) is a.packet source body e rs
        plan (sym (rows ∙ (λ j. window_planned s.runtime cs is a.packet (sent j) body)) ∙ taken))

-- ---- CLOSE and ERROR
-- where a lookup finds a record, or none, and whose circuit it is
found-is : {A : Type 0} (none : A) (p : A → Bool) (t : List A) (f : Found A) → looked_up none p t ≡ Some f
    → (any p t ≡ true) × (place_of p t ≡ f.place)
found-is none p t f e =
    let k = cond_some (any p t) (record { place = place_of p t; row = pick p none t }) f e in
    (k.0, ap (λ (x : Found _). x.place) k.1)

none-is : {A : Type 0} (b : Bool) (x : A) → cond b (Some x) None ≡ None → b ≡ false
none-is true x e = absurd (none-some x (sym e))
none-is false x e = refl

own-place : (b : Bool) (x f : Found RelayCircuit) (peer : HnsrPeerId) → own_circuit (cond b (Some x) None) peer ≡ Ok f
    → x.place ≡ f.place
own-place true x f peer e = ap (λ (y : Found RelayCircuit). y.place) (ok-same x f (and-ok _ _ f e).1)
own-place false x f peer e = cc

-- what `close` leaves
module _ (p : List RelayPending) (c : List RelayCircuit) (q : RelayPacket) (peer : HnsrPeerId) (body : List ℕ)
    (detail : (decode_detail body).result ≡ Ok tt)
    (few : check (leb 2 (count (named_by peer q.context_id) p)) InvalidAdmission ≡ Ok tt) where
  abbrev Closed : Outgoing → List RelayPending → List RelayCircuit → Type 0
  Closed m p' c' =
      (Ok m ≡ close_planned p c q peer body)
      × (p' ≡ pending_closed (Ok m) q peer p)
      × (c' ≡ circuits_closed (Ok m) q peer p c)

  pub pending_ended : (f : Found RelayPending) → pending_found (named_by peer q.context_id) p ≡ Some f
      → Closed (translated_on q.opcode f.row peer)
      (set p f.place (clear_pending (get_or p f.place no_pending))) c
  unfolding close_planned
  pending_ended f e =
      let naming = named_by peer q.context_id in
      let is = found-is no_pending naming p f e in (
        rw (detail, few, e),
        rw (← is.1) (sym (edit-set naming clear_pending no_pending p)),
        rw is.0,
      )

  pub circuit_ended : (f : Found RelayCircuit) → pending_found (named_by peer q.context_id) p ≡ None
      → own_circuit (circuit_found (circuit_at q.context_id) c) peer ≡ Ok f
      → Closed (passed_on q f.row peer Close) p (set c f.place (clear_circuit (get_or c f.place no_circuit)))
  unfolding close_planned
  circuit_ended f e k =
      let naming = named_by peer q.context_id in
      let at = circuit_at q.context_id in
      let none = none-is (any naming p) (record { place = place_of naming p; row = pick naming no_pending p }) e in
      let place = own-place (any at c) (record { place = place_of at c; row = pick at no_circuit c }) f peer k in (
        rw (detail, few, e, k),
        sym (edit-none naming clear_pending p none),
        rw (none, ← place) (sym (edit-set at clear_circuit no_circuit c)),
      )

module _ (p : List RelayPending) (c : List RelayCircuit) (q : RelayPacket) (source body : List ℕ) where
  abbrev naming : RelayPending → Bool
  naming = named_by (peer_of source) q.context_id

  abbrev pending_message : Outgoing
  pending_message = translated_on q.opcode (pick naming no_pending p) (peer_of source)

  abbrev circuit_message : Outgoing
  circuit_message = passed_on q (pick (circuit_at q.context_id) no_circuit c) (peer_of source) Close

  -- the rows of the code are the definition's
  pub close_rows-are : result_and (check (leb 2 (count naming p)) InvalidAdmission)
      (closing_message q (peer_of source) (pending_found naming p) (circuit_found (circuit_at q.context_id) c))
      ≡ result_and (close_answer (count naming p) (circuit_answer (any (circuit_at q.context_id) c)
      (pick (circuit_at q.context_id) no_circuit c) (peer_of source)))
      (Ok (cond (any naming p) pending_message circuit_message))
  unfolding close_answer
  close_rows-are =
      let at = circuit_at q.context_id in
      let many = check (leb 2 (count naming p)) InvalidAdmission in
      split (any naming p)
      (λ e. let some = le-leb 1 (count naming p) (any-count naming p e) in
      rw (e, some) (rows-two many (Ok tt) (Ok pending_message)))
      (λ e. let none = none-count naming p e in
      rw (e, none)
      (own-at (any at c) (record { place = place_of at c; row = pick at no_circuit c }) (peer_of source)
      (λ f. Ok (passed_on q f.row (peer_of source) Close))))

  pub close_planned-is : (h : OpaqueRelayRuntime) (l : List ReservationUsage) (i : List InflightAction) (e rs : List ℕ)
      → close_planned p c q (peer_of source) body
      ≡ result_and (close_taken (world_of h p c l i) (packet_of q source body e rs))
      (Ok (cond (any naming p) pending_message circuit_message))
  unfolding close_planned close_taken detail_answer sender
  close_planned-is h l i e rs =
      ap (result_and (body_answer (decode_detail body).result)) close_rows-are
      ∙ rows-two (body_answer (decode_detail body).result)
      (close_answer (count naming p) (circuit_answer (any (circuit_at q.context_id) c)
      (pick (circuit_at q.context_id) no_circuit c) (peer_of source)))
      (Ok (cond (any naming p) pending_message circuit_message))

  module _ (h : OpaqueRelayRuntime) (l : List ReservationUsage) (i : List InflightAction) (e rs : List ℕ) where
    pub close_turned : (x : HnsrRuntimeError) → close_planned p c q (peer_of source) body ≡ Err x
        → refuse (world_of h p c l i) x ≡ handle_close (world_of h p c l i) (packet_of q source body e rs)
    unfolding handle_close
    close_turned x ep = turned _ _ _ x (and-err _ _ x (sym (close_planned-is h l i e rs) ∙ ep))

    pub close_handled : (m : Outgoing) → close_planned p c q (peer_of source) body ≡ Ok m
        → send (world_of (with_counters h (count_revoked h.counters)) (pending_closed (Ok m) q (peer_of source) p)
        (circuits_closed (Ok m) q (peer_of source) p c) l (dropped (action_under m.circuit_id) i)) (message_of m body)
        ≡ handle_close (world_of h p c l i) (packet_of q source body e rs)
    unfolding handle_close close_pending close_circuit translated end_pending end_circuit without_actions
        without_pending sender
    close_handled m ep =
        let rows = (and-ok _ _ m (sym (close_planned-is h l i e rs) ∙ ep)).0 in
        let is : cond (any naming p) pending_message circuit_message ≡ m =
        ok-same _ m (and-ok _ _ m (sym (close_planned-is h l i e rs) ∙ ep)).1 in
        rw (← is)
        (split (any naming p)
        (λ f. rw f
        (split (same_peer (pick naming no_pending p).requester (peer_of source))
        (λ g. rw g (passed _ _ _ rows))
        (λ g. rw g (passed _ _ _ rows))))
        (λ f. rw (f, edit-none naming clear_pending p f) (passed _ _ _ rows)))

    -- what a message leaves, or its refusal
    abbrev pub close_left : Result Outgoing HnsrRuntimeError → Outcome
    close_left (Ok m) =
        send (world_of (with_counters h (count_revoked h.counters)) (pending_closed (Ok m) q (peer_of source) p)
        (circuits_closed (Ok m) q (peer_of source) p c) l (dropped (action_under m.circuit_id) i)) (message_of m body)
    close_left (Err x) = refuse (world_of h p c l i) x

    pub close_ends : (closed : Result Outgoing HnsrRuntimeError) → close_planned p c q (peer_of source) body ≡ closed
        → close_left closed ≡ handle_close (world_of h p c l i) (packet_of q source body e rs)
    close_ends (Ok m) ep = close_handled m ep
    close_ends (Err x) ep = close_turned x ep

    -- refused by its body, whatever the records: all is as it was
    pub detail_refused : (out : List ℕ) (a : HnsrAnswer) (r : Relayed) → a ≡ body_answer (decode_detail body).result
        → taken a ≡ false → (r.state.runtime ≡ h) × (r.answer ≡ a) × (r.words ≡ 0)
        → handed_back r p c l i out ≡ ending out (handle_close (world_of h p c l i) (packet_of q source body e rs))
    unfolding handle_close close_taken detail_answer
    detail_refused out a r ea t k =
        turned_away h p c l i out r a _ _ k t
        (ea ∙ stop (body_answer (decode_detail body).result) _ (ap taken (sym ea) ∙ t))

-- the same of what the code's steps left
module _ (a : Request) (p p' : List RelayPending) (c c' : List RelayCircuit) (body : List ℕ)
    (closed : Result Outgoing HnsrRuntimeError)
    (left : (closed ≡ close_planned (held_pending a.state.places p) (held_circuits a.state.places c) a.packet
    a.peer body)
    × (held_pending a.state.places p' ≡ pending_closed closed a.packet a.peer (held_pending a.state.places p))
    × (held_circuits a.state.places c'
    ≡ circuits_closed closed a.packet a.peer (held_pending a.state.places p) (held_circuits a.state.places c))) where
  pub close_refused : (l : List ReservationUsage) (i : List InflightAction) (source e rs out : List ℕ) (r : Relayed)
      (x : HnsrRuntimeError) → a.peer ≡ peer_of source → closed ≡ Err x
      → (r.state ≡ a.state) × (r.answer ≡ Err x) × (r.words ≡ 0)
      → handed_seen r p' c' l i out
      ≡ ending out (handle_close (world_given a p c l i) (packet_of a.packet source body e rs))
  close_refused l i source e rs out r x sent refused k =
      let s = a.state in
      let ps = held_pending s.places p in
      let cs = held_circuits s.places c in
      let ls = held_ledger s.places l in
      let is = held_actions s.places i in
      let pending = left.1 ∙ (λ j. pending_closed (refused j) a.packet a.peer ps) in
      let circuits = left.2 ∙ (λ j. circuits_closed (refused j) a.packet a.peer ps cs) in
      refused-seen s p' c' l i out r x k
      ∙ (λ j. ending out (refuse (world_of s.runtime (pending j) (circuits j) ls is) x))
      ∙ ap (ending out)
      (close_turned ps cs a.packet source body s.runtime ls is e rs x
      (sym (left.0 ∙ (λ j. close_planned ps cs a.packet (sent j) body)) ∙ refused))

  pub close_sent : (l : List ReservationUsage) (i i₁ i' : List InflightAction) (source e rs out out' : List ℕ)
      (r : Relayed) (m : Outgoing) (h : OpaqueRelayRuntime) (t : RelayState)
      → a.peer ≡ peer_of source → closed ≡ Ok m
      → h ≡ with_counters a.state.runtime (count_revoked a.state.runtime.counters)
      → (t.runtime ≡ h) × (t.places ≡ a.state.places)
      → held_actions a.state.places i₁ ≡ dropped (action_under m.circuit_id) (held_actions a.state.places i)
      → ((p : List RelayPending) (c : List RelayCircuit) (l : List ReservationUsage)
      → handed_seen r p c l i' out' ≡ ending out (send (state_seen t p c l i₁) (message_of m body)))
      → handed_seen r p' c' l i' out'
      ≡ ending out (handle_close (world_given a p c l i) (packet_of a.packet source body e rs))
  close_sent l i i₁ i' source e rs out out' r m h t sent taken revoked counted actions over =
      let s = a.state in
      let ps = held_pending s.places p in
      let cs = held_circuits s.places c in
      let ls = held_ledger s.places l in
      let is = held_actions s.places i in
      let pending = left.1 ∙ (λ j. pending_closed (taken j) a.packet (sent j) ps) in
      let circuits = left.2 ∙ (λ j. circuits_closed (taken j) a.packet (sent j) ps cs) in
      over p' c' l
      ∙ (λ j. ending out (send (world_seen ((counted.0 ∙ revoked) j) (counted.1 j) p' c' l i₁) (message_of m body)))
      ∙ (λ j. ending out (send (world_of (with_counters s.runtime (count_revoked s.runtime.counters)) (pending j)
      (circuits j) ls (actions j)) (message_of m body)))
      ∙ ap (ending out)
      (close_handled ps cs a.packet source body s.runtime ls is e rs m
      (sym (left.0 ∙ (λ j. close_planned ps cs a.packet (sent j) body)) ∙ taken))
