-- How long the bodies are that the relay sends on or makes: none is longer than the longest DATA.
use Rattle.std.specs.Prelude.{ℕ, ◌-◌, ◌≤◌, ◌≡◌, refl, List, eqb, leb, length, Ok}
use Rattle.std.proofs.Common.{arith, length-append, leb-true, eqb-true}
use Rattle.hns_encoding.specs.Laws.Bytes.{le_bytes-length, be_bytes-length}
use Rattle.hns_encoding.specs.Laws.Tests.{both}
use Rattle.hnsr_body.specs.declared.error.HnsrInvalid.TheVariants.{DiagnosticDetail}
use Rattle.hnsr_body.specs.declared.error.HnsrProtocolError.{HnsrProtocolError}
use Rattle.std.specs.Prelude.{Result, Err}
use Rattle.hnsr_body.specs.declared.incoming_body.IncomingBody.{IncomingBody}
use Rattle.hnsr_body.specs.declared.accept_body.OpenedBody.{OpenedBody}
use Rattle.hnsr_body.specs.Utf8.{utf8}
use Rattle.hnsr_body.specs.Causes.{answer}
use Rattle.hnsr_body.specs.Layout.{laid_out, walked, handed_on}
use Rattle.hnsr_body.specs.Open.{open_fields}
use Rattle.hnsr_body.specs.Incoming.{incoming_bytes}
use Rattle.hnsr_body.specs.Accept.{accept_fields, accept_bytes, opened_bytes}
use Rattle.hnsr_body.specs.Data.{most_data, data_good, data_checked, window_widths, decode_window}
use Rattle.hnsr_body.specs.Detail.{detail_widths, length_of, length_good, detail_of, decode_detail}
use Rattle.hnsr_body.specs.Laws.Parts.{answer-good, laid-size}
use Rattle.hnsr_body.specs.Laws.Fields.{bytes-length}
use Rattle.hnsr_circuit.specs.Answers.{body_answer}

-- ---- a body that is taken: its layout is right and its values are good
taken_ok : (c : Result Unit HnsrProtocolError) → body_answer c ≡ Ok tt → c ≡ Ok tt
taken_ok (Ok done) h = refl
taken_ok (Err cause) h = cc

-- ---- DATA
pub data_size : (body : List ℕ) → body_answer (data_checked (length body)) ≡ Ok tt → length body ≤ most_data
unfolding data_checked
data_size body h =
    let k = (answer-good (Ok tt) (data_good (length body)) _ (taken_ok _ h)).1 in
    leb-true (length body) most_data (both (leb 1 (length body)) (leb (length body) most_data) k).1

-- ---- WINDOW
pub window-size : (body : List ℕ) → body_answer (decode_window body).result ≡ Ok tt → length body ≤ most_data
unfolding decode_window
window-size body h =
    omega (arith, laid-size window_widths body (answer-good (laid_out window_widths body) _ _ (taken_ok _ h)).0)

-- ---- CLOSE and ERROR
pub detail-size : (body : List ℕ) → body_answer (decode_detail body).result ≡ Ok tt → length body ≤ most_data
unfolding decode_detail
detail-size body h =
    let sized = (answer-good
    (answer (handed_on (walked detail_widths body (record { position = 0 }))) (length_good body) DiagnosticDetail)
    (utf8 (detail_of body)) _ (taken_ok _ h)).0 in
    let k = (answer-good (handed_on (walked detail_widths body (record { position = 0 }))) (length_good body)
    DiagnosticDetail sized).1 in
    let parts = both (leb (length_of body) 128) (eqb (length body - 3) (length_of body)) k in
    omega (arith, leb-true (length_of body) 128 parts.0, eqb-true (length body - 3) (length_of body) parts.1)

-- ---- INCOMING and OPENED, of fields read from an OPEN and an ACCEPT
pub open_ticket : (body : List ℕ) → length (open_fields body).ticket_id ≤ 32
unfolding open_fields
open_ticket body = omega (arith, bytes-length 32 body 0)

pub open_nonce : (body : List ℕ) → length (open_fields body).requester_nonce ≤ 16
unfolding open_fields
open_nonce body = omega (arith, bytes-length 16 body 83)

pub accept_nonce : (body : List ℕ) → length (accept_fields body).endpoint_nonce ≤ 16
unfolding accept_fields
accept_nonce body = omega (arith, bytes-length 16 body 4)

pub incoming-size : (b : IncomingBody) → length b.ticket_id ≤ 32 → length b.requester_nonce ≤ 16
    → length (incoming_bytes b) ≤ most_data
unfolding incoming_bytes
incoming-size b t n =
    simp length-append
    (omega (
      arith,
      be_bytes-length 8 b.open_request_id,
      le_bytes-length 2 b.profile,
      le_bytes-length 4 b.initial_window,
    ))

pub opened-size : (b : OpenedBody) → length b.endpoint_nonce ≤ 16 → length (opened_bytes b) ≤ most_data
unfolding opened_bytes accept_bytes
opened-size b n =
    simp length-append (omega (arith, be_bytes-length 8 b.circuit_id, le_bytes-length 4 b.accepted_window))
