-- Round trips of the bodies of fixed size, by the laws of `Parts` at each body's widths. For every body X:
--     X-read       reading what was written gives the body back, where its fields fit their widths and its values are
--                  good
--     X-written    writing what was read gives the bytes back
--     X-taken      and the writer takes what was read: its whole answer
use Rattle.std.specs.Prelude.{ℕ, ◌<◌, ◌^◌, ◌≡◌, Bool, true, length, Result, Ok}
use Rattle.std.proofs.Common.{refl, sym, ap, ◌∙◌, length-append, List, [], ◌∷◌, ◌++◌, map, append-nil, append_assoc}
use Rattle.hns_encoding.specs.Bytes.{Below, le, le_bytes, be, be_bytes}
use Rattle.hns_encoding.specs.Laws.Tests.{both}
use Rattle.hns_encoding.specs.Laws.Bytes.{le_bytes-length, le-again, be_bytes-length, be-again}
use Rattle.hnsr_body.specs.declared.data_body.WindowBody.{WindowBody}
use Rattle.hnsr_body.specs.declared.accept_body.AcceptBody.{AcceptBody}
use Rattle.hnsr_body.specs.declared.accept_body.OpenedBody.{OpenedBody}
use Rattle.hnsr_body.specs.declared.incoming_body.IncomingBody.{IncomingBody}
use Rattle.hnsr_body.specs.declared.open_body.OpenBody.{OpenBody}
use Rattle.hnsr_body.specs.declared.error.HnsrProtocolError.{HnsrProtocolError}
use Rattle.hnsr_body.specs.declared.error.HnsrInvalid.TheVariants.{WindowCredit, AcceptResponse, CircuitZero}
use Rattle.hnsr_body.specs.declared.error.HnsrInvalid.TheVariants.{IncomingParameters, OpenParameters}
use Rattle.hnsr_body.specs.Causes.{answer, given}
use Rattle.hnsr_body.specs.Values.{nonzero, reservation_of, reservation_bytes}
use Rattle.hnsr_body.specs.Layout.{laid_out}
use Rattle.hnsr_body.specs.Data.{window_widths, window_fields}
use Rattle.hnsr_body.specs.Data.{window_bytes, delta_good, decode_window, encode_window}
use Rattle.hnsr_body.specs.Accept.{accept_widths, accept_fields, accept_bytes}
use Rattle.hnsr_body.specs.Accept.{accept_good, decode_accept, encode_accept}
use Rattle.hnsr_body.specs.Accept.{opened_widths, opened_fields, opened_bytes}
use Rattle.hnsr_body.specs.Accept.{opened_rest, opened_good, decode_opened, encode_opened}
use Rattle.hnsr_body.specs.Incoming.{incoming_widths, incoming_fields, incoming_bytes}
use Rattle.hnsr_body.specs.Incoming.{incoming_good, decode_incoming, encode_incoming}
use Rattle.hnsr_body.specs.Open.{open_widths, open_fields, open_bytes, open_good, decode_open, encode_open}
use Rattle.hnsr_body.specs.Laws.Parts.{answered, answer-good, cut, joined, written_parts}
use Rattle.hnsr_body.specs.Laws.Parts.{read_parts, value_part, le-part, be-part}
use Rattle.hnsr_body.specs.Laws.Values.{reservation-read, reservation-written}

-- nothing is refused, and these are the bytes
taken : {checked : Result Unit HnsrProtocolError} {bytes xs : List ℕ} → checked ≡ Ok tt → bytes ≡ xs
    → given checked bytes ≡ Ok xs
taken good same = rw (good, same)

-- ---- WINDOW
pub record WindowFits (b : WindowBody) : Type 0 where
  pub delta : b.credit_delta < 2 ^ 32

abbrev window_parts : WindowBody → List (List ℕ)
window_parts b = le_bytes 4 b.credit_delta ∷ []

window-joined : (b : WindowBody) → joined (window_parts b) ≡ window_bytes b
unfolding window_bytes
window-joined b = rw append-nil

pub window-read : (b : WindowBody) → WindowFits b → delta_good b.credit_delta ≡ true
    → decode_window (window_bytes b) ≡ record { result = Ok tt; body = b }
unfolding decode_window window_fields
window-read b f g =
    let sizes : map length (window_parts b) ≡ window_widths = rw le_bytes-length in
    let P = written_parts window_widths (window_bytes b) (window_parts b) sizes (window-joined b) in
    let same : window_fields (window_bytes b) ≡ b =
    λ i. record { credit_delta = (ap le (P.part 0) ∙ le-again 4 b.credit_delta f.delta) i } in
    λ i. record {
      result = answered WindowCredit P.laid (ap (λ (c : WindowBody). delta_good c.credit_delta) same ∙ g) i;
      body = same i;
    }

module _ (xs : List ℕ) (bytes : Below 256 xs) (h : (decode_window xs).result ≡ Ok tt) where
  pub window-written : window_bytes (decode_window xs).body ≡ xs
  unfolding decode_window window_fields
  window-written =
      let laid =
      (answer-good (laid_out window_widths xs) (delta_good (window_fields xs).credit_delta) WindowCredit h).0 in
      let same : window_parts (window_fields xs) ≡ cut window_widths xs =
      λ i. le-part window_widths xs bytes laid 0 i ∷ [] in
      sym (window-joined (window_fields xs)) ∙ ap joined same ∙ (read_parts window_widths xs laid).whole

  pub window-taken : encode_window (decode_window xs).body ≡ Ok xs
  unfolding decode_window encode_window
  window-taken =
      let good =
      (answer-good (laid_out window_widths xs) (delta_good (window_fields xs).credit_delta) WindowCredit h).1 in
      taken (answered {layout = Ok tt} WindowCredit refl good) window-written

-- ---- ACCEPT
pub record AcceptFits (b : AcceptBody) : Type 0 where
  pub window : b.accepted_window < 2 ^ 32
  pub nonce : length b.endpoint_nonce ≡ 16

abbrev accept_parts : AcceptBody → List (List ℕ)
accept_parts b = le_bytes 4 b.accepted_window ∷ b.endpoint_nonce ∷ []

accept_joined : (b : AcceptBody) → joined (accept_parts b) ≡ accept_bytes b
unfolding accept_bytes
accept_joined b = rw append-nil

pub accept_read : (b : AcceptBody) → AcceptFits b → accept_good b ≡ true
    → decode_accept (accept_bytes b) ≡ record { result = Ok tt; body = b }
unfolding decode_accept accept_fields
accept_read b f g =
    let sizes : map length (accept_parts b) ≡ accept_widths = rw (le_bytes-length, f.nonce) in
    let P = written_parts accept_widths (accept_bytes b) (accept_parts b) sizes (accept_joined b) in
    let same : accept_fields (accept_bytes b) ≡ b = λ i. record {
      accepted_window = (ap le (P.part 0) ∙ le-again 4 b.accepted_window f.window) i;
      endpoint_nonce = P.part 1 i;
    } in
    λ i. record { result = answered AcceptResponse P.laid (ap accept_good same ∙ g) i; body = same i }

module _ (xs : List ℕ) (bytes : Below 256 xs) (h : (decode_accept xs).result ≡ Ok tt) where
  pub accept_written : accept_bytes (decode_accept xs).body ≡ xs
  unfolding decode_accept accept_fields
  accept_written =
      let laid = (answer-good (laid_out accept_widths xs) (accept_good (accept_fields xs)) AcceptResponse h).0 in
      let P = read_parts accept_widths xs laid in
      let same : accept_parts (accept_fields xs) ≡ cut accept_widths xs =
      λ i. le-part accept_widths xs bytes laid 0 i ∷ P.part 1 i ∷ [] in
      sym (accept_joined (accept_fields xs)) ∙ ap joined same ∙ P.whole

  pub accept_taken_lem : encode_accept (decode_accept xs).body ≡ Ok xs
  unfolding decode_accept encode_accept
  accept_taken_lem =
      let good = (answer-good (laid_out accept_widths xs) (accept_good (accept_fields xs)) AcceptResponse h).1 in
      taken (answered {layout = Ok tt} AcceptResponse refl good) accept_written

-- ---- OPENED
pub record OpenedFits (b : OpenedBody) : Type 0 where
  pub circuit : b.circuit_id < 2 ^ 64
  pub rest : AcceptFits (opened_rest b)

abbrev opened_parts : OpenedBody → List (List ℕ)
opened_parts b = be_bytes 8 b.circuit_id ∷ accept_parts (opened_rest b)

opened-joined : (b : OpenedBody) → joined (opened_parts b) ≡ opened_bytes b
unfolding opened_bytes
opened-joined b = ap (λ (rest : List ℕ). be_bytes 8 b.circuit_id ++ rest) (accept_joined (opened_rest b))

pub opened-read : (b : OpenedBody) → OpenedFits b → opened_good b ≡ true
    → decode_opened (opened_bytes b) ≡ record { result = Ok tt; body = b }
unfolding decode_opened opened_fields opened_good
opened-read b f g =
    let sizes : map length (opened_parts b) ≡ opened_widths = rw (be_bytes-length, le_bytes-length, f.rest.nonce) in
    let P = written_parts opened_widths (opened_bytes b) (opened_parts b) sizes (opened-joined b) in
    let same : opened_fields (opened_bytes b) ≡ b = λ i. record {
      circuit_id = (ap be (P.part 0) ∙ be-again 8 b.circuit_id f.circuit) i;
      accepted_window = (ap le (P.part 1) ∙ le-again 4 b.accepted_window f.rest.window) i;
      endpoint_nonce = P.part 2 i;
    } in
    let good = both (nonzero b.circuit_id) (accept_good (opened_rest b)) g in
    let circuit = answered CircuitZero P.laid (ap (λ (c : OpenedBody). nonzero c.circuit_id) same ∙ good.0) in
    λ i. record {
      result = answered AcceptResponse circuit (ap (λ (c : OpenedBody). accept_good (opened_rest c)) same ∙ good.1) i;
      body = same i;
    }

module _ (xs : List ℕ) (bytes : Below 256 xs) (h : (decode_opened xs).result ≡ Ok tt) where
  opened-good : (laid_out opened_widths xs ≡ Ok tt)
      × (nonzero (opened_fields xs).circuit_id ≡ true)
      × (accept_good (opened_rest (opened_fields xs)) ≡ true)
  unfolding decode_opened
  opened-good =
      let b = opened_fields xs in
      let outer = answer-good (answer (laid_out opened_widths xs) (nonzero b.circuit_id) CircuitZero)
      (accept_good (opened_rest b)) AcceptResponse h in
      let inner = answer-good (laid_out opened_widths xs) (nonzero b.circuit_id) CircuitZero outer.0 in
      (inner.0, inner.1, outer.1)

  pub opened-written : opened_bytes (decode_opened xs).body ≡ xs
  unfolding decode_opened opened_fields
  opened-written =
      let laid = opened-good.0 in
      let P = read_parts opened_widths xs laid in
      let same : opened_parts (opened_fields xs) ≡ cut opened_widths xs =
      λ i. be-part opened_widths xs bytes laid 0 i ∷ le-part opened_widths xs bytes laid 1 i ∷ P.part 2 i ∷ [] in
      sym (opened-joined (opened_fields xs)) ∙ ap joined same ∙ P.whole

  pub opened-taken : encode_opened (decode_opened xs).body ≡ Ok xs
  unfolding decode_opened encode_opened opened_good
  opened-taken =
      taken (answered AcceptResponse (answered {layout = Ok tt} CircuitZero refl opened-good.1) opened-good.2)
      opened-written

-- ---- INCOMING
pub record IncomingFits (b : IncomingBody) : Type 0 where
  pub ticket : length b.ticket_id ≡ 32
  pub request : b.open_request_id < 2 ^ 64
  pub profile : b.profile < 2 ^ 16
  pub nonce : length b.requester_nonce ≡ 16
  pub window : b.initial_window < 2 ^ 32

abbrev incoming_parts : IncomingBody → List (List ℕ)
incoming_parts b =
    b.ticket_id ∷ be_bytes 8 b.open_request_id ∷ le_bytes 2 b.profile ∷ b.requester_nonce
    ∷ le_bytes 4 b.initial_window ∷ []

incoming-joined : (b : IncomingBody) → joined (incoming_parts b) ≡ incoming_bytes b
unfolding incoming_bytes
incoming-joined b = simp (incoming_bytes, append-nil, append_assoc)

pub incoming-read : (b : IncomingBody) → IncomingFits b → incoming_good b ≡ true
    → decode_incoming (incoming_bytes b) ≡ record { result = Ok tt; body = b }
unfolding decode_incoming incoming_fields
incoming-read b f g =
    let sizes : map length (incoming_parts b) ≡ incoming_widths =
    simp (f.ticket, be_bytes-length, le_bytes-length, f.nonce) in
    let P = written_parts incoming_widths (incoming_bytes b) (incoming_parts b) sizes (incoming-joined b) in
    let same : incoming_fields (incoming_bytes b) ≡ b = λ i. record {
      ticket_id = P.part 0 i;
      open_request_id = (ap be (P.part 1) ∙ be-again 8 b.open_request_id f.request) i;
      profile = (ap le (P.part 2) ∙ le-again 2 b.profile f.profile) i;
      requester_nonce = P.part 3 i;
      initial_window = (ap le (P.part 4) ∙ le-again 4 b.initial_window f.window) i;
    } in
    λ i. record { result = answered IncomingParameters P.laid (ap incoming_good same ∙ g) i; body = same i }

module _ (xs : List ℕ) (bytes : Below 256 xs) (h : (decode_incoming xs).result ≡ Ok tt) where
  pub incoming-written : incoming_bytes (decode_incoming xs).body ≡ xs
  unfolding decode_incoming incoming_fields
  incoming-written =
      let laid =
      (answer-good (laid_out incoming_widths xs) (incoming_good (incoming_fields xs)) IncomingParameters h).0 in
      let P = read_parts incoming_widths xs laid in
      let same : incoming_parts (incoming_fields xs) ≡ cut incoming_widths xs =
      λ i. P.part 0 i ∷ be-part incoming_widths xs bytes laid 1 i ∷ le-part incoming_widths xs bytes laid 2 i
      ∷ P.part 3 i ∷ le-part incoming_widths xs bytes laid 4 i ∷ [] in
      sym (incoming-joined (incoming_fields xs)) ∙ ap joined same ∙ P.whole

  pub incoming-taken : encode_incoming (decode_incoming xs).body ≡ Ok xs
  unfolding decode_incoming encode_incoming
  incoming-taken =
      let good =
      (answer-good (laid_out incoming_widths xs) (incoming_good (incoming_fields xs)) IncomingParameters h).1 in
      taken (answered {layout = Ok tt} IncomingParameters refl good) incoming-written

-- ---- OPEN
pub record OpenFits (b : OpenBody) : Type 0 where
  pub ticket : length b.ticket_id ≡ 32
  pub high : b.reservation_id.high < 2 ^ 64
  pub low : b.reservation_id.low < 2 ^ 64
  pub key : length b.endpoint_key ≡ 33
  pub profile : b.profile < 2 ^ 16
  pub nonce : length b.requester_nonce ≡ 16
  pub window : b.initial_window < 2 ^ 32

abbrev open_parts : OpenBody → List (List ℕ)
open_parts b =
    b.ticket_id ∷ reservation_bytes b.reservation_id ∷ b.endpoint_key ∷ le_bytes 2 b.profile
    ∷ b.requester_nonce ∷ le_bytes 4 b.initial_window ∷ []

open_joined : (b : OpenBody) → joined (open_parts b) ≡ open_bytes b
unfolding open_bytes
open_joined b = simp (open_bytes, append-nil, append_assoc)

pub open_read : (key_valid : Bool) (b : OpenBody) → OpenFits b → open_good key_valid b ≡ true
    → decode_open key_valid (open_bytes b) ≡ record { result = Ok tt; body = b }
unfolding decode_open open_fields
open_read key_valid b f g =
    let sizes : map length (open_parts b) ≡ open_widths =
    simp (f.ticket, length-append, be_bytes-length, f.key, le_bytes-length, f.nonce) in
    let P = written_parts open_widths (open_bytes b) (open_parts b) sizes (open_joined b) in
    let same : open_fields (open_bytes b) ≡ b = λ i. record {
      ticket_id = P.part 0 i;
      reservation_id =
          (ap (λ (bs : List ℕ). reservation_of bs) (P.part 1)
          ∙ reservation-read b.reservation_id f.high f.low) i;
      endpoint_key = P.part 2 i;
      profile = (ap le (P.part 3) ∙ le-again 2 b.profile f.profile) i;
      requester_nonce = P.part 4 i;
      initial_window = (ap le (P.part 5) ∙ le-again 4 b.initial_window f.window) i;
    } in
    λ i. record { result = answered OpenParameters P.laid (ap (open_good key_valid) same ∙ g) i; body = same i }

module _ (key_valid : Bool) (xs : List ℕ) (bytes : Below 256 xs) (h : (decode_open key_valid xs).result ≡ Ok tt) where
  pub open_written : open_bytes (decode_open key_valid xs).body ≡ xs
  unfolding decode_open open_fields
  open_written =
      let laid = (answer-good (laid_out open_widths xs) (open_good key_valid (open_fields xs)) OpenParameters h).0 in
      let P = read_parts open_widths xs laid in
      let reservation =
      value_part open_widths xs bytes laid 1 (λ bs. reservation_of bs) (λ r. reservation_bytes r) reservation-written in
      let same : open_parts (open_fields xs) ≡ cut open_widths xs =
      λ i. P.part 0 i ∷ reservation i ∷ P.part 2 i ∷ le-part open_widths xs bytes laid 3 i ∷ P.part 4 i
      ∷ le-part open_widths xs bytes laid 5 i ∷ [] in
      sym (open_joined (open_fields xs)) ∙ ap joined same ∙ P.whole

  pub open_taken : encode_open key_valid (decode_open key_valid xs).body ≡ Ok xs
  unfolding decode_open encode_open
  open_taken =
      let good = (answer-good (laid_out open_widths xs) (open_good key_valid (open_fields xs)) OpenParameters h).1 in
      taken (answered {layout = Ok tt} OpenParameters refl good) open_written
