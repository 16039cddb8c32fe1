-- What `handle` writes fits the words that it asks for: one route, of a body no longer than the longest DATA.
use Rattle.std.specs.Prelude.{ℕ, ◌+◌, ◌≤◌, ◌≡◌, refl, Bool, true, false, cond, [], length, Ok, Err}
use Rattle.std.proofs.Common.{arith, ap}
use Rattle.hnsr_body.specs.Data.{most_data}
use Rattle.hnsr_circuit.specs.declared.records.RelayPending.{RelayPending}
use Rattle.hnsr_circuit.specs.Answers.{HnsrAnswer}
use Rattle.hnsr_circuit.specs.Table.{any, pick}
use Rattle.hnsr_circuit.specs.Laws.Answers.{then_taken}
use Rattle.hnsr_circuit.specs.Peer.{same_peer}
use Rattle.hnsr_circuit.specs.Pending.{no_pending, named_by}
use Rattle.hnsr_circuit.specs.declared.records.InflightKind.TheVariants.{Close}
use Rattle.hns_encoding.specs.Words.{word_count}
use Rattle.hnsr_circuit.specs.Route.{head_words, out_words}
use Rattle.hnsr_circuit.specs.World.{World, Outcome, done, proceed}
use Rattle.hnsr_circuit.specs.Queue.{Message, message, routed, can_queue, send}
use Rattle.hnsr_circuit.specs.Entry.{handle_words}
use Rattle.hnsr_circuit.specs.Packet.{Packet, sender, named_circuit}
use Rattle.hnsr_circuit.specs.Open.{incoming_message, open_booked, open_granted, open_lapsed, handle_open}
use Rattle.hnsr_circuit.specs.Accept.{opened_message, accept_with, handle_accept}
use Rattle.hnsr_circuit.specs.Data.{data_message, data_taken, data_with, handle_data}
use Rattle.hnsr_circuit.specs.Window.{window_taken, window_with, handle_window}
use Rattle.hnsr_circuit.specs.Close.{detail_answer, translated, close_taken}
use Rattle.hnsr_circuit.specs.Close.{close_pending, close_circuit, handle_close}
use Rattle.hnsr_circuit.specs.Handle.{Handling, OPEN, ACCEPT, DATA, WINDOW, CLOSE, ERROR, other, dispatch}
use Rattle.hnsr_circuit.specs.Laws.BodySizes.{data_size, window-size, detail-size, open_ticket}
use Rattle.hnsr_circuit.specs.Laws.BodySizes.{open_nonce, accept_nonce, incoming-size, opened-size}
use Rattle.hnsr_circuit.specs.Laws.Room.{filled, filled-one}

-- ---- ways to make an outcome
pub proceed-fits : (w : World) (a : HnsrAnswer) (o : Outcome) (n : ℕ) → (a ≡ Ok tt → filled o.routes ≤ n)
    → filled (proceed w a o).routes ≤ n
unfolding proceed out_words
proceed-fits w (Ok _) o n h = h refl
proceed-fits w (Err e) o n h = omega arith

pub cond-fits : (b : Bool) (x y : Outcome) (n : ℕ) → filled x.routes ≤ n → filled y.routes ≤ n
    → filled (cond b x y).routes ≤ n
cond-fits true x y n s t = s
cond-fits false x y n s t = t

pub none-fits : (w : World) (n : ℕ) → filled (done w []).routes ≤ n
unfolding out_words
none-fits w n = omega arith

pub send-fits : (w : World) (m : Message) (k : ℕ) → length m.body ≤ k
    → filled (send w m).routes ≤ head_words + word_count k
unfolding send
send-fits w m k h =
    proceed-fits w (can_queue m w) _ (head_words + word_count k) (λ e. omega (arith, filled-one (routed m w)))

-- ---- handle
open_fits : (w : World) (q : Packet) → filled (handle_open w q).routes ≤ handle_words
unfolding handle_open open_lapsed open_granted open_booked incoming_message
open_fits w q =
    proceed-fits _ _ _ _
    (λ a. proceed-fits _ _ _ _
    (λ b. proceed-fits _ _ _ _
    (λ c. send-fits _ _ most_data (incoming-size _ (open_ticket q.body) (open_nonce q.body)))))

accept_fits : (w : World) (q : Packet) → filled (handle_accept w q).routes ≤ handle_words
unfolding handle_accept accept_with opened_message
accept_fits w q = proceed-fits _ _ _ _ (λ a. send-fits _ _ most_data (opened-size _ (accept_nonce q.body)))

data_fits : (w : World) (q : Packet) → filled (handle_data w q).routes ≤ handle_words
unfolding handle_data data_with data_taken data_message
data_fits w q = proceed-fits _ _ _ _ (λ a. send-fits _ _ most_data (data_size q.body (then_taken _ _ a).0))

window-fits : (w : World) (q : Packet) → filled (handle_window w q).routes ≤ handle_words
unfolding handle_window window_with window_taken
window-fits w q = proceed-fits _ _ _ _ (λ a. send-fits _ _ most_data (window-size q.body (then_taken _ _ a).0))

detail-fits : (q : Packet) → detail_answer q ≡ Ok tt → length q.body ≤ most_data
unfolding detail_answer
detail-fits q h = detail-size q.body h

translated-body : (q : Packet) (p : RelayPending) → (translated q p).body ≡ q.body
unfolding translated
translated-body q p = by (same_peer p.requester (sender q))
  where
    by : (b : Bool)
        → (cond b (message p.endpoint p.circuit_id q.opcode p.circuit_id q.body Close)
        (message p.requester p.circuit_id q.opcode p.requester_context q.body Close)).body ≡ q.body
    by true = refl
    by false = refl

close_fits : (w : World) (q : Packet) → filled (handle_close w q).routes ≤ handle_words
unfolding handle_close close_taken close_pending close_circuit
close_fits w q =
    proceed-fits _ _ _ _
    (λ a. let s = detail-fits q (then_taken _ _ a).0 in
    cond-fits (any (named_by (sender q) q.context) w.pending)
    (close_pending w q (pick (named_by (sender q) q.context) no_pending w.pending))
    (close_circuit w q (named_circuit w q)) handle_words
    (send-fits _ _ most_data
    (omega (arith, s, ap length (translated-body q (pick (named_by (sender q) q.context) no_pending w.pending)))))
    (send-fits _ _ most_data s))

pub dispatch-fits : (h : Handling) (w : World) (q : Packet) → filled (dispatch h w q).routes ≤ handle_words
unfolding dispatch out_words
dispatch-fits OPEN w q = open_fits w q
dispatch-fits ACCEPT w q = accept_fits w q
dispatch-fits DATA w q = data_fits w q
dispatch-fits WINDOW w q = window-fits w q
dispatch-fits CLOSE w q = close_fits w q
dispatch-fits ERROR w q = close_fits w q
dispatch-fits other w q = omega arith
