-- What the code of ACCEPT and OPEN writes where it goes on is the definition's world, while a refusal leaves everything
-- as it was.
use Rattle.std.specs.Prelude.{ℕ, zero, suc, ◌+◌, ◌*◌, ◌-◌, ◌/◌, ◌≤◌, ◌<◌, ◌≡◌, Bool, true, false, cond, Result, Ok, Err}
use Rattle.std.specs.Prelude.{not, ◌&&◌, Option, Some, None, is_none, unwrap_or, ◌≢◌}
use Rattle.std.specs.Option.{ok_or, option_map}
use Rattle.std.specs.Result.{result_and}
use Rattle.std.specs.Prelude.{eqb, ltb, leb, length, take, drop, set, get_or}
use Rattle.std.proofs.Common.{arith, ◌∙◌, true≢false, eqb-true, eq-eqb, ne_eqb, lt-ltb}
use Rattle.std.proofs.Common.{drop_of_length-le, le-ltb, le-leb, ltb-true, ltb-false, leb-true, leb-false}
use Rattle.std.proofs.Math.Path.{refl, sym, ap}
use Rattle.std.proofs.lemmas.Bool.{lt-leb}
use mathlib.Core.List.{List, [], ◌∷◌, map}
use Rattle.std.specs.Simd.{first_chunks}
use Rattle.std.proofs.lemmas.List.{at_drop_more}
use Rattle.std.proofs.Math.ListN.{length-take, length-drop}
use Rattle.hns_encoding.specs.Numbers.{top, saturating_add}
use Rattle.hns_encoding.specs.Bytes.{be, be_from}
use Rattle.std.specs.Int.{w64, from_be_bytes}
use Rattle.hns_encoding.specs.Sums.{non, count}
use Rattle.hns_encoding.specs.Laws.Tests.{split, choose, both, neither}
use Rattle.hnsr_body.specs.declared.accept_body.AcceptBody.{AcceptBody}
use Rattle.hnsr_body.specs.declared.layout.Read.{Read}
use Rattle.hnsr_body.specs.Accept.{decode_accept, accept_fields, opened_bytes}
use Rattle.hnsr_body.specs.Open.{decode_open, open_fields}
use Rattle.hnsr_body.specs.Incoming.{incoming_bytes}
use Rattle.hnsr_circuit.specs.declared.runtime.RelayPacket.{RelayPacket}
use Rattle.hnsr_circuit.specs.declared.runtime.Request.{Request}
use Rattle.hnsr_circuit.specs.declared.runtime.Relayed.{Relayed}
use Rattle.hnsr_circuit.specs.declared.runtime.RelayState.{RelayState}
use Rattle.hnsr_circuit.specs.declared.runtime.OpaqueRelayRuntime.{OpaqueRelayRuntime}
use Rattle.hnsr_circuit.specs.declared.answer.HnsrRuntimeError.{HnsrRuntimeError}
use Rattle.hnsr_circuit.specs.declared.answer.HnsrRuntimeError.TheVariants.{UnknownRequest, Randomness, LedgerFull}
use Rattle.hnsr_circuit.specs.declared.messages.open.OpenGathered.{OpenGathered}
use Rattle.hnsr_circuit.specs.declared.messages.open.OpenPlan.{OpenPlan}
use Rattle.hnsr_circuit.specs.declared.peer.HnsrPeerId.{HnsrPeerId}
use Rattle.hnsr_circuit.specs.declared.records.RelayTicket.{RelayTicket}
use Rattle.hnsr_circuit.specs.declared.records.RelayPending.{RelayPending}
use Rattle.hnsr_circuit.specs.declared.records.RelayCircuit.{RelayCircuit}
use Rattle.hnsr_circuit.specs.declared.records.ReservationUsage.{ReservationUsage}
use Rattle.hnsr_circuit.specs.declared.records.InflightAction.{InflightAction}
use Rattle.hnsr_circuit.specs.declared.output.queue.Outgoing.{Outgoing}
use Rattle.hnsr_circuit.specs.declared.tables.lookup.Found.{Found}
use Rattle.hnsr_circuit.specs.declared.tables.scan.ActionQuestion.{ActionQuestion}
use Rattle.hnsr_circuit.specs.declared.tables.scan.ActionScan.{ActionScan}
use Rattle.hnsr_circuit.specs.declared.tables.scan.LedgerScan.{LedgerScan}
use Rattle.hnsr_circuit.specs.Table.{any, pick, place_of, place_in, put, edit}
use Rattle.hnsr_circuit.specs.Answers.{HnsrAnswer, body_answer, taken, ◌then◌}
use Rattle.hnsr_circuit.specs.Peer.{peer_of, same_peer}
use Rattle.hnsr_circuit.specs.Pending.{no_pending, is_pending, pending_at, clear_pending}
use Rattle.hnsr_circuit.specs.Ledger.{no_usage, is_usage, usage_at, clear_usage, fresh_usage}
use Rattle.hnsr_circuit.specs.Ledger.{has_usage, usage_of, lapsed, booked, ledger_answer, usage_answer}
use Rattle.hnsr_circuit.specs.Circuits.{is_circuit, circuit_at}
use Rattle.hnsr_circuit.specs.Inflight.{action_under, dropped, tallied, capacity_answer}
use Rattle.hnsr_circuit.specs.Runtime.{with_counters, count_open, count_accept}
use Rattle.hnsr_circuit.specs.World.{World, Outcome, refuse, proceed, world_of}
use Rattle.hnsr_circuit.specs.Queue.{send}
use Rattle.hnsr_circuit.specs.Counts.{pending_count, circuit_count, peer_work, reservation_work}
use Rattle.hnsr_circuit.specs.Entry.{peer_answer}
use Rattle.hnsr_circuit.specs.Draw.{draws_from, draws, draw_all, id_taken, drawn, draw_answer}
use Rattle.hnsr_circuit.specs.Packet.{Packet, sender}
use Rattle.hnsr_circuit.specs.Accept.{request_answer, circuit_for, opened_for, with_accept, opened_message}
use Rattle.hnsr_circuit.specs.Accept.{accept_taken, accept_with, handle_accept}
use Rattle.hnsr_circuit.specs.Open.{endpoint_answer, deadline_answer, pending_for}
use Rattle.hnsr_circuit.specs.Open.{incoming_for, incoming_message, with_open, open_admitted}
use Rattle.hnsr_circuit.specs.Open.{open_placed, open_booked, open_granted, open_lapsed, handle_open}
use Rattle.hnsr_circuit.specs.Code.Held.{held, held_pending, held_circuits, held_ledger, held_actions}
use Rattle.hnsr_circuit.specs.Code.Held.{state_seen, world_given, handed_seen}
use Rattle.hnsr_circuit.specs.Code.Lookup.{pending_found}
use Rattle.hnsr_circuit.specs.Code.Opening.{accept_entry, accept_rows, accept_work, opened_out, accept_named}
use Rattle.hnsr_circuit.specs.Code.Opening.{is_taken, first_draw, gathering, open_rows}
use Rattle.hnsr_circuit.specs.Code.Opening.{open_plan, placed_plan, placed_rows}
use Rattle.hnsr_circuit.specs.Code.Opening.{opening_of, incoming_out, booked_in, open_drawn}
use Rattle.hnsr_circuit.specs.Code.Plans.{found_then}
use Rattle.hnsr_circuit.specs.Code.Progress.{message_of, packet_of, asking, handed_back, ending}
use Rattle.hnsr_circuit.specs.Code.Question.{pending_work, circuit_work}
use Rattle.hnsr_circuit.specs.Code.Turns.{actions_scanned, ledger_asked}
use Rattle.hnsr_circuit.specs.Laws.Answers.{check-taken, then_taken}
use Rattle.hnsr_circuit.specs.Laws.Held.{found_below, place_upto}
use Rattle.hnsr_circuit.specs.Laws.Lookups.{found_is, place_none, pick-has, pick-none}
use Rattle.hnsr_circuit.specs.Laws.Marks.{room, put-new-same, put-old-same}
use Rattle.hnsr_circuit.specs.Laws.Keys.{reservation-refl}
use Rattle.hnsr_circuit.specs.Laws.Edits.{edit-set}
use Rattle.hnsr_circuit.specs.Laws.Calls.{turned_away}
use Rattle.hnsr_circuit.specs.Laws.Seen.{passed, turned, refused-back, refused-seen}

-- ---- a sum that stops at its top, against a number of 16 bits
pub ltb_sum : (n a b : ℕ) → n < 65536 → ltb n (saturating_add 64 a b) ≡ ltb n (a + b)
ltb_sum n a b h = split (ltb n (a + b))
    (λ e. lt-ltb n (saturating_add 64 a b) (omega (arith, ltb-true n (a + b) e)) ∙ sym e)
    (λ e. le-ltb n (saturating_add 64 a b) (omega (arith, ltb-false n (a + b) e)) ∙ sym e)

pub leb_sum : (n a b : ℕ) → n < 65536 → leb n (saturating_add 64 a b) ≡ leb n (a + b)
leb_sum n a b h = split (leb n (a + b))
    (λ e. le-leb n (saturating_add 64 a b) (omega (arith, leb-true n (a + b) e)) ∙ sym e)
    (λ e. lt-leb n (saturating_add 64 a b) (omega (arith, leb-false n (a + b) e)) ∙ sym e)

-- a sum over the top, by what is left below it
pub ltb_less : (now n : ℕ) → now < 18446744073709551616 → ltb (top 64 - now) n ≡ ltb (top 64) (now + n)
ltb_less now n h = split (ltb (top 64) (now + n))
    (λ e. lt-ltb (top 64 - now) n (omega (arith, ltb-true (top 64) (now + n) e)) ∙ sym e)
    (λ e. le-ltb (top 64 - now) n (omega (arith, ltb-false (top 64) (now + n) e)) ∙ sym e)

-- ---- rows in front of others
-- two answers that give a value are taken, and a refusal of theirs is that of all behind them
both-passed : {T : Type 0} (a b : HnsrAnswer) (x y : T) → result_and (a then b) (Ok x) ≡ Ok y
    → ((z : HnsrAnswer) → (a then b then z) ≡ z) × (x ≡ y)
both-passed (Ok _) (Ok _) x y h = (λ z. refl, cc)
both-passed (Ok _) (Err e) x y h = cc
both-passed (Err e) b x y h = cc

both-stopped : {T : Type 0} (a b : HnsrAnswer) (x : T) (e : HnsrRuntimeError) → result_and (a then b) (Ok x) ≡ Err e
    → (z : HnsrAnswer) → (a then b then z) ≡ Err e
both-stopped (Ok _) (Ok _) x e h z = cc
both-stopped (Ok _) (Err d) x e h z = cc
both-stopped (Err d) b x e h z = cc

-- ---- ACCEPT
unnamed : (row : RelayPending) (peer : HnsrPeerId) (now : ℕ) (e : HnsrRuntimeError)
    → ◌≡◌ {A = Result (Found RelayPending) HnsrRuntimeError} (Err UnknownRequest) (Err e)
    → (z : HnsrAnswer) → (request_answer false row peer now then z) ≡ Err e
unfolding request_answer
unnamed row peer now e h z = cc

-- the rows that go by the packet and its pending record alone: what is found is accepted, or refused
module _ (h : OpaqueRelayRuntime) (p : List RelayPending) (c : List RelayCircuit) (l : List ReservationUsage)
    (i : List InflightAction) (q : RelayPacket) (source body e rs : List ℕ) where
  abbrev accepting : Result (Found RelayPending) HnsrRuntimeError
  accepting = accept_entry (pending_found (pending_at q.context_id) p) (peer_of source) q.now (decode_accept body)

  abbrev accepted : Outcome
  accepted = handle_accept (world_of h p c l i) (packet_of q source body e rs)

  pub entry-found : (f : Found RelayPending) → accepting ≡ Ok f
      → (pending_found (pending_at q.context_id) p ≡ Some f)
      × (accept_named (world_of h p c l i) q.context_id f.row (decode_accept body).body ≡ accepted)
  unfolding handle_accept accept_with accept_taken accept_named sender decode_accept
  entry-found f k =
      let row = pick (pending_at q.context_id) no_pending p in
      split (any (pending_at q.context_id) p)
      (λ e.
      let j = both-passed (request_answer true row (peer_of source) q.now) (body_answer (decode_accept body).result) _ f
      (rw e at k) in
      (rw e (ap Some j.1), rw (← j.1, e, j.0 _)))
      (λ e. let n = rw e at k in cc)

  pub entry-turned : (x : HnsrRuntimeError) → accepting ≡ Err x → refuse (world_of h p c l i) x ≡ accepted
  unfolding handle_accept accept_with accept_taken sender decode_accept
  entry-turned x k =
      let row = pick (pending_at q.context_id) no_pending p in
      turned (world_of h p c l i) _ _ x
      (split (any (pending_at q.context_id) p)
      (λ e.
      rw e
      (both-stopped (request_answer true row (peer_of source) q.now) (body_answer (decode_accept body).result) _ x
      (rw e at k) _))
      (λ e. rw e (unnamed row (peer_of source) q.now x (rw e at k) _)))

-- the pending record, its mark cleared at the place where it was found
unmarked : (id : ℕ) (p : List RelayPending) (f : Found RelayPending) → pending_found (pending_at id) p ≡ Some f
    → edit (pending_at f.row.circuit_id) clear_pending p
    ≡ set p f.place (clear_pending (get_or p f.place no_pending))
unfolding pending_at
unmarked id p f k =
    let j = found_is (pending_at id) no_pending p f k in
    let own = eqb-true f.row.circuit_id id
    (both f.row.used (eqb f.row.circuit_id id)
    (rw (j.2) (pick-has (pending_at id) no_pending p j.0))).1 in
    rw (own, j.1) (edit-set (pending_at id) clear_pending no_pending p)

module _ (h : OpaqueRelayRuntime) (p : List RelayPending) (c : List RelayCircuit) (l : List ReservationUsage)
    (i : List InflightAction) (id : ℕ) (f : Found RelayPending) (b : AcceptBody) where
  -- the rows over the tables are the definition's
  abbrev accept_left : HnsrAnswer
  accept_left =
      accept_rows h.config f.row b (pending_work (accept_work f.row) p) (circuit_work (accept_work f.row) c)
      (tallied true id f.row.requester i)

  -- what a taken ACCEPT leaves is the definition's world
  pub named-goes : (p' : List RelayPending) (c' : List RelayCircuit) (i' : List InflightAction)
      → pending_found (pending_at id) p ≡ Some f → accept_left ≡ Ok tt
      → p' ≡ set p f.place (clear_pending (get_or p f.place no_pending))
      → c' ≡ put is_circuit (circuit_at f.row.circuit_id) (circuit_for h.config f.row b) c
      → i' ≡ dropped (action_under f.row.circuit_id) i
      → send (world_of (with_counters h (count_accept h.counters)) p' c' l i')
      (message_of (opened_out f.row) (opened_bytes (opened_for f.row b)))
      ≡ accept_named (world_of h p c l i) id f.row b
  unfolding accept_named with_accept opened_message pending_work circuit_work circuit_count reservation_work
  named-goes p' c' i' k t ep ec ei =
      let w = world_of h p c l i in
      let m = opened_message f.row b in
      rw (ec, ei, ep, ← unmarked id p f k) (passed w accept_left (send (with_accept w f.row b) m) t)

  pub named-turned : (e : HnsrRuntimeError) → accept_left ≡ Err e
      → refuse (world_of h p c l i) e ≡ accept_named (world_of h p c l i) id f.row b
  unfolding accept_named pending_work circuit_work circuit_count reservation_work
  named-turned e t = turned _ _ _ e t

-- ---- OPEN: the drawing
-- eight bytes as the library reads them
pub be_eight : (xs : List ℕ) → length xs ≡ 8 → from_be_bytes w64 xs ≡ be xs
unfolding be_from
be_eight [] l = omega arith
be_eight (a ∷ []) l = omega arith
be_eight (a ∷ b ∷ []) l = omega arith
be_eight (a ∷ b ∷ c ∷ []) l = omega arith
be_eight (a ∷ b ∷ c ∷ d ∷ []) l = omega arith
be_eight (a ∷ b ∷ c ∷ d ∷ e ∷ []) l = omega arith
be_eight (a ∷ b ∷ c ∷ d ∷ e ∷ f ∷ []) l = omega arith
be_eight (a ∷ b ∷ c ∷ d ∷ e ∷ f ∷ g ∷ []) l = omega arith
be_eight (a ∷ b ∷ c ∷ d ∷ e ∷ f ∷ g ∷ h ∷ []) l = omega arith
be_eight (a ∷ b ∷ c ∷ d ∷ e ∷ f ∷ g ∷ h ∷ i ∷ js) l = omega arith

-- the draws are the chunks of eight bytes
pub chunks-drawn : (many : ℕ) (xs : List ℕ) → many * 8 ≤ length xs
    → draws_from many xs ≡ map (from_be_bytes w64) (first_chunks 8 many xs)
unfolding draws_from
chunks-drawn zero xs l = refl
chunks-drawn (suc many) xs l =
    let first : length (take 8 xs) ≡ 8 = omega (arith, length-take 8 xs) in
    let rest : many * 8 ≤ length (drop 8 xs) = omega (arith, length-drop 8 xs) in
    λ k. sym (be_eight (take 8 xs) first) k ∷ chunks-drawn many (drop 8 xs) rest k

pub draws_are : (xs : List ℕ) → draws xs ≡ map (from_be_bytes w64) (first_chunks 8 (length xs / 8) xs)
unfolding draws
draws_are xs = chunks-drawn (length xs / 8) xs (omega arith)

pub draws-step : (xs : List ℕ) → 8 ≤ length xs → draws xs ≡ be (take 8 xs) ∷ draws (drop 8 xs)
unfolding draws draws_from
draws-step xs h =
    let k = length-drop 8 xs in
    let e : length xs / 8 ≡ suc (length (drop 8 xs) / 8) = omega arith in
    ap (λ (n : ℕ). draws_from n xs) e

pub draws-short : (xs : List ℕ) → length xs < 8 → draws xs ≡ []
unfolding draws draws_from
draws-short xs h =
    let e : length xs / 8 ≡ 0 = omega arith in
    ap (λ (n : ℕ). draws_from n xs) e

-- what is drawn is no id yet
abbrev DrawFree : (ℕ → Bool) → Option ℕ → Type 0
DrawFree t d = is_none d ≡ false → t (unwrap_or d 0) ≡ false

pub drawn-free : (t : ℕ → Bool) (n m : ℕ) (ids : List ℕ) → DrawFree t (draw_all t n m ids)
unfolding draw_all
drawn-free t n m [] = λ e. absurd (true≢false e)
drawn-free t n m (id ∷ ids) =
    choose (DrawFree t) (eqb id 0) _ _
    (λ z. choose (DrawFree t) (leb 8 (n + 1)) None (draw_all t (n + 1) m ids) (λ l e. absurd (true≢false e))
    (λ l. drawn-free t (n + 1) m ids))
    (λ z. choose (DrawFree t) (t id) _ (Some id)
    (λ y. choose (DrawFree t) (leb 8 (m + 1)) None (draw_all t 0 (m + 1) ids) (λ l e. absurd (true≢false e))
    (λ l. drawn-free t 0 (m + 1) ids))
    (λ y e. y))

-- what is left to draw gives what all draws give
module _ (t : ℕ → Bool) (n m : ℕ) (chunks : List (List ℕ)) (i : ℕ) {r : Option ℕ}
    (h : draw_all t n m (map (from_be_bytes w64) (drop i chunks)) ≡ r) where
  pub draw_over : length chunks ≤ i → None ≡ r
  unfolding draw_all
  draw_over l = rw (drop_of_length-le chunks l) at h

  module _ {id : ℕ} (e : id ≡ from_be_bytes w64 (get_or chunks i [])) (l : i < length chunks) where
    step : draw_all t n m (id ∷ map (from_be_bytes w64) (drop (i + 1) chunks)) ≡ r
    step =
        ap (λ (k : ℕ). draw_all t n m (k ∷ map (from_be_bytes w64) (drop (i + 1) chunks))) e
        ∙ sym (at_drop_more (λ (xs : List (List ℕ)). draw_all t n m (map (from_be_bytes w64) xs)) chunks i [] l)
        ∙ h

    pub zero_ends : id ≡ 0 → 8 ≤ n + 1 → None ≡ r
    unfolding draw_all
    zero_ends z k = rw (eq-eqb id 0 z, le-leb 8 (n + 1) k) at step

    pub zero_passed : id ≡ 0 → n + 1 < 8 → draw_all t (n + 1) m (map (from_be_bytes w64) (drop (i + 1) chunks)) ≡ r
    unfolding draw_all
    zero_passed z k = rw (eq-eqb id 0 z, lt-leb 8 (n + 1) k) at step

    pub taken_ends : id ≢ 0 → t id ≡ true → 8 ≤ m + 1 → None ≡ r
    unfolding draw_all
    taken_ends z y k = rw (ne_eqb id 0 z, y, le-leb 8 (m + 1) k) at step

    pub taken_passed : id ≢ 0 → t id ≡ true → m + 1 < 8
        → draw_all t 0 (m + 1) (map (from_be_bytes w64) (drop (i + 1) chunks)) ≡ r
    unfolding draw_all
    taken_passed z y k = rw (ne_eqb id 0 z, y, lt-leb 8 (m + 1) k) at step

    pub fresh_drawn : id ≢ 0 → t id ≡ false → Some id ≡ r
    unfolding draw_all
    fresh_drawn z y = rw (ne_eqb id 0 z, y) at step

-- what is drawn is no id yet
pub drawn_free : (p : List RelayPending) (c : List RelayCircuit) (ids : List ℕ) (id : ℕ)
    → draw_all (is_taken p c) 0 0 ids ≡ Some id → any (pending_at id) p ≡ false
drawn_free p c ids id e =
    let free = rw e at (drawn-free (is_taken p c) 0 0 ids) in
    (neither (any (pending_at id) p) (any (circuit_at id) c) (free refl)).0

-- ---- OPEN: the ledger record
pick_else : {A : Type 0} (p : A → Bool) (d e : A) (t : List A) → cond (any p t) (pick p e t) d ≡ pick p d t
pick_else p d e [] = refl
pick_else p d e (x ∷ xs) = split (p x) (λ k. rw k) (λ k. rw k (pick_else p d e xs))

fresh_at : (t : RelayTicket) → usage_at t.reservation_id (fresh_usage t) ≡ true
unfolding usage_at
fresh_at t = reservation-refl t.reservation_id

module _ (t : RelayTicket) (l : List ReservationUsage) where
  abbrev booking : Found ReservationUsage
  booking = booked_in (ledger_asked t.reservation_id l) t

  pub booked-is : (booking.place
      ≡ cond (has_usage t.reservation_id l) (place_of (usage_at t.reservation_id) l) (place_of (non is_usage) l))
      × (booking.row ≡ pick (usage_at t.reservation_id) (fresh_usage t) l)
  booked-is = let p = usage_at t.reservation_id in split (any p l)
      (λ e. rw e (refl, rw e at (pick_else p (fresh_usage t) no_usage l)))
      (λ e. rw e (lowest, sym (pick-none p (fresh_usage t) l e)))
    where
      lowest : unwrap_or (place_in (non is_usage) l) (length l) ≡ place_of (non is_usage) l
      lowest = split (any (non is_usage) l) (λ e. rw e) (λ e. rw e (sym (place_none (non is_usage) l e)))

  -- the record is put where the definition puts it
  pub booked-set : set l booking.place booking.row ≡ booked t l
  unfolding booked
  booked-set = rw (booked-is.0, booked-is.1)

  -- where it is there or has a place, it is what a lookup then finds
  pub booked-found : ledger_answer (has_usage t.reservation_id l) (count is_usage l) (length l) ≡ Ok tt
      → booking.row ≡ usage_of t.reservation_id (booked t l)
  unfolding booked ledger_answer
  booked-found h =
      let p = usage_at t.reservation_id in
      let row = pick p (fresh_usage t) l in
      let full = check-taken (not (any p l) && leb (length l) (count is_usage l)) LedgerFull h in
      booked-is.1
      ∙ sym (split (any p l)
      (λ f. (put-old-same is_usage clear_usage p row l f no_usage (pick-has p (fresh_usage t) l f)).1)
      (λ f. (put-new-same is_usage clear_usage p row l f
      (room is_usage clear_usage l (leb-false (length l) (count is_usage l) (rw f at full))) no_usage
      (ap p (pick-none p (fresh_usage t) l f) ∙ fresh_at t)).1))

-- at the number at most
pub booked_upto : (n : ℕ) (t : RelayTicket) (l : List ReservationUsage) (k : LedgerScan) (f : Found ReservationUsage)
    → f ≡ booked_in k t → k ≡ ledger_asked t.reservation_id (held clear_usage n l)
    → f.place < length l → f.place ≤ n
unfolding usage_at is_usage
booked_upto n t l k f ef ek =
    rw (ef, ek, (booked-is t (held clear_usage n l)).0)
    (split (has_usage t.reservation_id (held clear_usage n l))
    (λ e. rw e (let z = found_below clear_usage (usage_at t.reservation_id) (λ x. refl) n l e in λ h. omega arith))
    (λ e. rw e (λ h. place_upto clear_usage (non is_usage) (λ x. refl) n l)))

-- ---- OPEN: the stages
module _ (h : OpaqueRelayRuntime) (p : List RelayPending) (c : List RelayCircuit) (l : List ReservationUsage)
    (i : List InflightAction) (o : OpenPlan) where
  -- the last stage, under an id that no record has
  module _ (u : ReservationUsage) (eu : u ≡ usage_of o.ticket.reservation_id l) where
    pub booked-goes : (p' : List RelayPending) → any (pending_at o.id) p ≡ false → usage_answer o.ticket u ≡ Ok tt
        → p' ≡ set p (place_of (non is_pending) p) (pending_for (opening_of o))
        → send (world_of (with_counters h (count_open h.counters)) p' c l i)
        (message_of (incoming_out o) (incoming_bytes (incoming_for (opening_of o))))
        ≡ open_booked (world_of h p c l i) (opening_of o)
    unfolding open_booked incoming_message with_open
    booked-goes p' f t ep = rw (ep, f) (passed _ _ _ (rw eu at t))

    pub booked-turned : (e : HnsrRuntimeError) → usage_answer o.ticket u ≡ Err e
        → refuse (world_of h p c l i) e ≡ open_booked (world_of h p c l i) (opening_of o)
    unfolding open_booked
    booked-turned e t = turned _ _ _ e (rw eu at t)

  -- the second stage, past the rows that ask nothing of actions and ledger
  module _ (now : ℕ) where
    abbrev rows : HnsrAnswer
    rows =
        placed_rows h.config now (actions_scanned (asking h (incoming_out o)) i).tally
        (ledger_asked o.ticket.reservation_id l)

    abbrev rows_of : Bool → HnsrAnswer
    rows_of found =
        capacity_answer h.config (tallied false o.id o.endpoint i)
        then deadline_answer h.config now
        then ledger_answer found (count is_usage l) (length l)

    pub rows-are : rows ≡ rows_of (has_usage o.ticket.reservation_id l)
    unfolding actions_scanned
    rows-are = split (has_usage o.ticket.reservation_id l) (λ e. rw e) (λ e. rw e)

    pub drawn-goes : (l' : List ReservationUsage) → rows ≡ Ok tt
        → l' ≡ set l (booking o.ticket l).place (booking o.ticket l).row
        → ((booking o.ticket l).row ≡ usage_of o.ticket.reservation_id l')
        × (open_booked (world_of h p c l' i) (opening_of o) ≡ open_drawn (world_of h p c l i) now (opening_of o))
    unfolding open_drawn
    drawn-goes l' t el =
        let k = sym rows-are ∙ t in
        let b = el ∙ booked-set o.ticket l in
        let most = capacity_answer h.config (tallied false o.id o.endpoint i) in
        let late = deadline_answer h.config now in
        let last = ledger_answer (has_usage o.ticket.reservation_id l) (count is_usage l) (length l) in
        let j = (then_taken late last (then_taken most (late then last) k).1).1 in
        (rw b (booked-found o.ticket l j), rw b (passed _ _ _ k))

    pub drawn-turned : (e : HnsrRuntimeError) → rows ≡ Err e
        → refuse (world_of h p c l i) e ≡ open_drawn (world_of h p c l i) now (opening_of o)
    unfolding open_drawn
    drawn-turned e t = turned _ _ _ e (sym rows-are ∙ t)

-- the first draw that is known to be no record's id
pub first_free : (r : Request) (p : List RelayPending) (c : List RelayCircuit) (body endpoint rs : List ℕ) (id : ℕ)
    → (gathering r body endpoint rs p c).free ≡ Some id → is_taken p c id ≡ false
unfolding pending_work circuit_work
first_free r p c body endpoint rs id h = split (is_taken p c (first_draw rs))
    (λ e. let k = rw e at h in cc)
    (λ e. let k = rw e at h in let s : first_draw rs ≡ id = cc in rw (← s) e)

-- whether the first draw is a record's id
pub first_known : (r : Request) (p : List RelayPending) (c : List RelayCircuit) (body endpoint rs : List ℕ)
    → is_none (gathering r body endpoint rs p c).free ≡ is_taken p c (first_draw rs)
unfolding pending_work circuit_work
first_known r p c body endpoint rs = split (is_taken p c (first_draw rs)) (λ e. rw e) (λ e. rw e)

-- two answers and a draw, and what is behind them
drawn-passed : (a b : HnsrAnswer) (d : Option ℕ) (f : ℕ → OpenPlan) (o : OpenPlan)
    → result_and (a then b) (ok_or (option_map f d) Randomness) ≡ Ok o
    → ((z : HnsrAnswer) → (a then b then draw_answer d then z) ≡ z)
    × (d ≡ Some (unwrap_or d 0))
    × (f (unwrap_or d 0) ≡ o)
unfolding draw_answer
drawn-passed (Ok _) (Ok _) (Some id) f o h = (λ z. refl, refl, cc)
drawn-passed (Ok _) (Ok _) None f o h = cc
drawn-passed (Ok _) (Err e) d f o h = cc
drawn-passed (Err e) b d f o h = cc

drawn-stopped : (a b : HnsrAnswer) (d : Option ℕ) (f : ℕ → OpenPlan) (e : HnsrRuntimeError)
    → result_and (a then b) (ok_or (option_map f d) Randomness) ≡ Err e
    → (z : HnsrAnswer) → (a then b then draw_answer d then z) ≡ Err e
unfolding draw_answer
drawn-stopped (Ok _) (Ok _) (Some id) f e h z = cc
drawn-stopped (Ok _) (Ok _) None f e h z = cc
drawn-stopped (Ok _) (Err x) d f e h z = cc
drawn-stopped (Err x) b d f e h z = cc

module _ (r : Request) (p : List RelayPending) (c : List RelayCircuit) (l : List ReservationUsage)
    (i : List InflightAction) (source body endpoint rs : List ℕ) (er : r.peer ≡ peer_of source) where
  abbrev gathered : OpenGathered
  gathered = gathering r body endpoint rs p c

  abbrev drawing : Option ℕ
  drawing = draw_all (is_taken p c) 0 0 (draws rs)

  abbrev given : World
  given = world_of r.state.runtime p c l i

  abbrev asks : Packet
  asks = packet_of r.packet source body endpoint rs

  -- the rows of a placed OPEN that ask nothing of actions and ledger
  abbrev placing : HnsrAnswer
  placing =
      endpoint_answer r.state.runtime.config r.packet.ticket (same_peer (peer_of endpoint) r.peer)
      (peer_work given (peer_of endpoint)) (reservation_work given (open_fields body).reservation_id)

  -- the second stage: ledger records past their expiry are gone
  pub placed-goes : (o : OpenPlan) → placed_plan gathered drawing ≡ Ok o
      → (any (pending_at o.id) p ≡ false)
      × (open_drawn given r.packet.now (opening_of o) ≡ open_lapsed given asks)
  unfolding open_drawn open_lapsed open_granted open_placed peer_of peer_work reservation_work pending_work circuit_work
      drawn id_taken decode_open sender
  placed-goes o k =
      let j = drawn-passed (peer_answer (length endpoint)) placing drawing (open_plan gathered) o k in
      (rw (← j.2) (drawn_free p c (draws rs) (unwrap_or drawing 0) j.1), rw (← j.2, ← er, j.0 _))

  pub placed-turned : (e : HnsrRuntimeError) → placed_plan gathered drawing ≡ Err e
      → refuse given e ≡ open_lapsed given asks
  unfolding open_lapsed open_granted open_placed peer_of peer_work reservation_work pending_work circuit_work drawn
      id_taken decode_open sender
  placed-turned e k =
      rw (← er)
      (turned _ _ _ e (drawn-stopped (peer_answer (length endpoint)) placing drawing (open_plan gathered) e k _))

  -- the first stage
  pub open-goes : open_rows gathered ≡ Ok tt
      → open_lapsed (world_of r.state.runtime p c (lapsed r.packet.now l) i) asks ≡ handle_open given asks
  unfolding handle_open open_admitted pending_count circuit_count peer_work pending_work circuit_work sender
  open-goes t = rw (← er) (passed _ _ _ t)

  pub open-turned : (e : HnsrRuntimeError) → open_rows gathered ≡ Err e → refuse given e ≡ handle_open given asks
  unfolding handle_open open_admitted pending_count circuit_count peer_work pending_work circuit_work sender
  open-turned e t = rw (← er) (turned _ _ _ e t)

-- ---- what the code's steps refuse
module _ (s : RelayState) (p : List RelayPending) (c : List RelayCircuit) (l : List ReservationUsage)
    (i : List InflightAction) (out : List ℕ) (o : OpenPlan) (a : HnsrAnswer) (r : Relayed) (x : HnsrRuntimeError) where
  pub booked_refused : (u : ReservationUsage) → a ≡ usage_answer o.ticket u
      → u ≡ usage_of o.ticket.reservation_id (held_ledger s.places l) → a ≡ Err x
      → (r.state ≡ s) × (r.answer ≡ Err x) × (r.words ≡ 0)
      → handed_seen r p c l i out ≡ ending out (open_booked (state_seen s p c l i) (opening_of o))
  booked_refused u ea eu ex k =
      refused-seen s p c l i out r x k
      ∙ ap (ending out)
      (booked-turned s.runtime (held_pending s.places p) (held_circuits s.places c) (held_ledger s.places l)
      (held_actions s.places i) o u eu x (sym ea ∙ ex))

  pub placed_refused : (now : ℕ) (m : Outgoing) (q : ActionQuestion) (t : ActionScan) (k : LedgerScan)
      → m ≡ incoming_out o → q ≡ asking s.runtime m → t ≡ actions_scanned q (held_actions s.places i)
      → k ≡ ledger_asked o.ticket.reservation_id (held_ledger s.places l)
      → a ≡ placed_rows s.runtime.config now t.tally k → a ≡ Err x
      → (r.state ≡ s) × (r.answer ≡ Err x) × (r.words ≡ 0)
      → handed_seen r p c l i out ≡ ending out (open_drawn (state_seen s p c l i) now (opening_of o))
  placed_refused now m q t k em eq et ek ea ex er =
      refused-seen s p c l i out r x er
      ∙ ap (ending out)
      (drawn-turned s.runtime (held_pending s.places p) (held_circuits s.places c) (held_ledger s.places l)
      (held_actions s.places i) o now x
      (sym (λ j. placed_rows s.runtime.config now (scanned j).tally (ek j)) ∙ sym ea ∙ ex))
    where
      scanned : t ≡ actions_scanned (asking s.runtime (incoming_out o)) (held_actions s.places i)
      scanned =
          et
          ∙ ap (λ (y : ActionQuestion). actions_scanned y (held_actions s.places i))
          (eq ∙ ap (λ (z : Outgoing). asking s.runtime z) em)

module _ (g : OpenGathered) (p : List RelayPending) (c : List RelayCircuit) (l : List ReservationUsage)
    (i : List InflightAction) (source body endpoint rs out : List ℕ) (r : Relayed) (x : HnsrRuntimeError) where
  pub lapsed_refused : (d : Option ℕ) (a : Result OpenPlan HnsrRuntimeError)
      → g.request.peer ≡ peer_of source
      → g ≡ gathering g.request body endpoint rs (held_pending g.request.state.places p)
      (held_circuits g.request.state.places c)
      → d ≡ draw_all (is_taken (held_pending g.request.state.places p) (held_circuits g.request.state.places c)) 0 0
      (draws rs)
      → a ≡ placed_plan g d → a ≡ Err x
      → (r.state ≡ g.request.state) × (r.answer ≡ Err x) × (r.words ≡ 0)
      → handed_seen r p c l i out
      ≡ ending out (open_lapsed (world_given g.request p c l i) (packet_of g.request.packet source body endpoint rs))
  lapsed_refused d a er eg ed ea ex k =
      let s = g.request.state in
      refused-seen s p c l i out r x k
      ∙ ap (ending out)
      (placed-turned g.request (held_pending s.places p) (held_circuits s.places c) (held_ledger s.places l)
      (held_actions s.places i) source body endpoint rs er x
      (sym (λ j. placed_plan (eg j) (ed j)) ∙ sym ea ∙ ex))

module _ (q : Request) (p : List RelayPending) (c : List RelayCircuit) (l : List ReservationUsage)
    (i : List InflightAction) (source body endpoint rs out : List ℕ) (r : Relayed) (x : HnsrRuntimeError) where
  pub open_refused : (g : OpenGathered) (a : HnsrAnswer) → q.peer ≡ peer_of source
      → g ≡ gathering q body endpoint rs (held_pending q.state.places p) (held_circuits q.state.places c)
      → a ≡ open_rows g → a ≡ Err x → (r.state ≡ q.state) × (r.answer ≡ Err x) × (r.words ≡ 0)
      → handed_seen r p c l i out
      ≡ ending out (handle_open (world_given q p c l i) (packet_of q.packet source body endpoint rs))
  open_refused g a er eg ea ex k =
      let s = q.state in
      refused-seen s p c l i out r x k
      ∙ ap (ending out)
      (open-turned q (held_pending s.places p) (held_circuits s.places c) (held_ledger s.places l)
      (held_actions s.places i) source body endpoint rs er x
      (sym (ap (λ (y : OpenGathered). open_rows y) eg) ∙ sym ea ∙ ex))

  pub found_refused : (f : Found RelayPending) (b : AcceptBody) (a : HnsrAnswer)
      → a ≡ accept_rows q.state.runtime.config f.row b
      (pending_work (accept_work f.row) (held_pending q.state.places p))
      (circuit_work (accept_work f.row) (held_circuits q.state.places c))
      (tallied true q.packet.context_id f.row.requester (held_actions q.state.places i))
      → a ≡ Err x → (r.state ≡ q.state) × (r.answer ≡ Err x) × (r.words ≡ 0)
      → handed_seen r p c l i out
      ≡ ending out (accept_named (world_given q p c l i) q.packet.context_id f.row b)
  found_refused f b a ea ex k =
      let s = q.state in
      refused-seen s p c l i out r x k
      ∙ ap (ending out)
      (named-turned s.runtime (held_pending s.places p) (held_circuits s.places c) (held_ledger s.places l)
      (held_actions s.places i) q.packet.context_id f b x (sym ea ∙ ex))

  pub accept_refused : (n : Option (Found RelayPending)) (read : Read AcceptBody)
      (a : Result (Found RelayPending) HnsrRuntimeError) → q.peer ≡ peer_of source
      → n ≡ pending_found (pending_at q.packet.context_id) (held_pending q.state.places p) → read ≡ decode_accept body
      → a ≡ accept_entry n q.peer q.packet.now read → a ≡ Err x
      → (r.state ≡ q.state) × (r.answer ≡ Err x) × (r.words ≡ 0)
      → handed_seen r p c l i out
      ≡ ending out (handle_accept (world_given q p c l i) (packet_of q.packet source body endpoint rs))
  accept_refused n read a eq en ed ea ex k =
      let s = q.state in
      refused-seen s p c l i out r x k
      ∙ ap (ending out)
      (entry-turned s.runtime (held_pending s.places p) (held_circuits s.places c) (held_ledger s.places l)
      (held_actions s.places i) q.packet source body endpoint rs x
      (sym (λ j. accept_entry (en j) (eq j) q.packet.now (ed j)) ∙ sym ea ∙ ex))

-- ---- all rows of a call as one: the code asks them in two parts
-- what is found, and the rows behind it
found-rows : {T : Type 0} (a b : HnsrAnswer) (x : T) (k : T → HnsrAnswer)
    → found_then (result_and (a then b) (Ok x)) k ≡ (a then b then k x)
found-rows (Ok _) (Ok _) x k = refl
found-rows (Ok _) (Err e) x k = refl
found-rows (Err e) b x k = refl

none-rows : (row : RelayPending) (peer : HnsrPeerId) (now : ℕ) (z : HnsrAnswer)
    → ◌≡◌ {A = HnsrAnswer} (Err UnknownRequest) (request_answer false row peer now then z)
unfolding request_answer
none-rows row peer now z = refl

-- a refusal is of the first part, or of the second behind what the first gives
refused-by : {T P : Type 0} (o : Result T HnsrRuntimeError) (k : T → HnsrAnswer) (x : HnsrRuntimeError)
    → found_then o k ≡ Err x → (o ≡ Err x → P) → ((f : T) → o ≡ Ok f → k f ≡ Err x → P) → P
refused-by (Ok f) k x h first behind = behind f refl h
refused-by (Err e) k x h first behind = first cc

-- ---- ACCEPT
module _ (h : OpaqueRelayRuntime) (p : List RelayPending) (c : List RelayCircuit) (l : List ReservationUsage)
    (i : List InflightAction) (q : RelayPacket) (source body e rs : List ℕ) where
  abbrev pub accept_behind : Found RelayPending → HnsrAnswer
  accept_behind f =
      accept_rows h.config f.row (decode_accept body).body (pending_work (accept_work f.row) p)
      (circuit_work (accept_work f.row) c) (tallied true q.context_id f.row.requester i)

  abbrev pub accept_asked : HnsrAnswer
  accept_asked =
      found_then (accept_entry (pending_found (pending_at q.context_id) p) (peer_of source) q.now (decode_accept body))
      accept_behind

  -- they are the definition's
  pub accept_taken_lem : accept_asked
      ≡ accept_taken (world_of h p c l i) (packet_of q source body e rs) (pick (pending_at q.context_id) no_pending p)
      (accept_fields body)
  unfolding accept_taken pending_work circuit_work circuit_count reservation_work sender decode_accept
  accept_taken_lem =
      let at = pending_at q.context_id in
      let row = pick at no_pending p in
      split (any at p)
      (λ f. rw f
      (found-rows (request_answer true row (peer_of source) q.now) (body_answer (decode_accept body).result)
      (record { place = place_of at p; row = row }) accept_behind))
      (λ f. rw f (none-rows row (peer_of source) q.now _))

  -- a refusal by any of them leaves all as it was
  pub accept_rows_refused : (out : List ℕ) (a : HnsrAnswer) (r : Relayed) → a ≡ accept_asked → taken a ≡ false
      → (r.state.runtime ≡ h) × (r.answer ≡ a) × (r.words ≡ 0)
      → handed_back r p c l i out ≡ ending out (handle_accept (world_of h p c l i) (packet_of q source body e rs))
  unfolding handle_accept accept_with
  accept_rows_refused out a r ea t k = turned_away h p c l i out r a _ _ k t (ea ∙ accept_taken_lem)

  -- what a taken ACCEPT leaves is the definition's world
  pub accept_ends : (f : Found RelayPending) (p' : List RelayPending) (c' : List RelayCircuit)
      (i' : List InflightAction)
      → accept_entry (pending_found (pending_at q.context_id) p) (peer_of source) q.now (decode_accept body) ≡ Ok f
      → accept_behind f ≡ Ok tt
      → p' ≡ set p f.place (clear_pending (get_or p f.place no_pending))
      → c' ≡ put is_circuit (circuit_at f.row.circuit_id) (circuit_for h.config f.row (decode_accept body).body) c
      → i' ≡ dropped (action_under f.row.circuit_id) i
      → send (world_of (with_counters h (count_accept h.counters)) p' c' l i')
      (message_of (opened_out f.row) (opened_bytes (opened_for f.row (decode_accept body).body)))
      ≡ handle_accept (world_of h p c l i) (packet_of q source body e rs)
  accept_ends f p' c' i' k t ep ec ei =
      let j = entry-found h p c l i q source body e rs f k in
      named-goes h p c l i q.context_id f (decode_accept body).body p' c' i' j.0 t ep ec ei ∙ j.1

-- ---- a placed OPEN
module _ (r : Request) (p : List RelayPending) (c : List RelayCircuit) (l : List ReservationUsage)
    (i : List InflightAction) (source body endpoint rs : List ℕ) (er : r.peer ≡ peer_of source) where
  abbrev pub placed_behind : OpenPlan → HnsrAnswer
  placed_behind o =
      placed_rows r.state.runtime.config r.packet.now
      (actions_scanned (asking r.state.runtime (incoming_out o)) i).tally (ledger_asked o.ticket.reservation_id l)

  abbrev pub placed_asked : OpenGathered → Option ℕ → HnsrAnswer
  placed_asked g d = found_then (placed_plan g d) placed_behind

  -- a refusal by any of them leaves all as it was
  pub lapsed_rows_refused : (g : OpenGathered) (d : Option ℕ) (out : List ℕ) (y : Relayed) (x : HnsrRuntimeError)
      → g ≡ gathering r body endpoint rs p c → d ≡ draw_all (is_taken p c) 0 0 (draws rs) → placed_asked g d ≡ Err x
      → (y.state.runtime ≡ r.state.runtime) × (y.answer ≡ Err x) × (y.words ≡ 0)
      → handed_back y p c l i out
      ≡ ending out (open_lapsed (world_of r.state.runtime p c l i) (packet_of r.packet source body endpoint rs))
  lapsed_rows_refused g d out y x eg ed t k =
      let h = r.state.runtime in
      let w = world_of h p c l i in
      let plan = placed_plan (gathering r body endpoint rs p c) (draw_all (is_taken p c) 0 0 (draws rs)) in
      let same : refuse w x ≡ open_lapsed w (packet_of r.packet source body endpoint rs) =
      refused-by plan placed_behind x (sym (λ j. placed_asked (eg j) (ed j)) ∙ t)
      (λ f. placed-turned r p c l i source body endpoint rs er x f)
      (λ o f s. drawn-turned h p c l i o r.packet.now x s ∙ (placed-goes r p c l i source body endpoint rs er o f).1) in
      refused-back h p c l i out y x k ∙ ap (ending out) same

  -- one that they take goes on with its ledger record booked
  pub lapsed-ends : (o : OpenPlan) (l' : List ReservationUsage)
      → placed_plan (gathering r body endpoint rs p c) (draw_all (is_taken p c) 0 0 (draws rs)) ≡ Ok o
      → placed_behind o ≡ Ok tt → l' ≡ booked o.ticket l
      → open_booked (world_of r.state.runtime p c l' i) (opening_of o)
      ≡ open_lapsed (world_of r.state.runtime p c l i) (packet_of r.packet source body endpoint rs)
  lapsed-ends o l' f t el =
      (drawn-goes r.state.runtime p c l i o r.packet.now l' t (el ∙ sym (booked-set o.ticket l))).1
      ∙ (placed-goes r p c l i source body endpoint rs er o f).1

  -- the first stage: what it takes goes on, what it refuses does not
  pub open_ends : (g : OpenGathered) (a : HnsrAnswer) (l' : List ReservationUsage)
      → g ≡ gathering r body endpoint rs p c → a ≡ open_rows g → l' ≡ cond (taken a) (lapsed r.packet.now l) l
      → (let w = world_of r.state.runtime p c l' i in
      proceed w a (open_lapsed w (packet_of r.packet source body endpoint rs)))
      ≡ handle_open (world_of r.state.runtime p c l i) (packet_of r.packet source body endpoint rs)
  unfolding proceed
  open_ends g (Ok _) l' eg ea el =
      (λ j. open_lapsed (world_of r.state.runtime p c (el j) i) (packet_of r.packet source body endpoint rs))
      ∙ open-goes r p c l i source body endpoint rs er (sym (ea ∙ ap (λ (y : OpenGathered). open_rows y) eg))
  open_ends g (Err x) l' eg ea el =
      (λ j. refuse (world_of r.state.runtime p c (el j) i) x)
      ∙ open-turned r p c l i source body endpoint rs er x (sym (ea ∙ ap (λ (y : OpenGathered). open_rows y) eg))
