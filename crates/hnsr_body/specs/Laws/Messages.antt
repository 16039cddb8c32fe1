-- The seven messages: the bytes of a row are the body that carries it; each detail is UTF-8 and within 128 bytes. By
-- computation, row by row.
use Rattle.std.specs.Prelude.{ℕ, ◌+◌, ◌≡◌, refl, true, List, [], ◌∷◌, ◌++◌, leb, length}
use Rattle.hns_encoding.specs.Bytes.{le_bytes, padded}
use Rattle.hnsr_body.specs.declared.messages.Notice.{Notice}
use Rattle.hnsr_body.specs.declared.messages.Notice.TheVariants.{PeerDisconnected, ReservationRevoked}
use Rattle.hnsr_body.specs.declared.messages.Notice.TheVariants.{AcceptanceExpired, TicketExpired, RelayDisabled}
use Rattle.hnsr_body.specs.declared.messages.Notice.TheVariants.{EndpointWriteFailed, OuterWriteFailed}
use Rattle.hnsr_body.specs.Utf8.{utf8, utf8_1, utf8_2, utf8_3, utf8_4}
use Rattle.hnsr_body.specs.Detail.{detail_bytes, most_detail}
use Rattle.hnsr_body.specs.Messages.{detail, message_of, notice_body, notice_written}

-- what the code puts together from a row
abbrev pub assembled : Notice → List ℕ
assembled n = le_bytes 2 (message_of n).reason ++ ((message_of n).length ∷ []) ++ (message_of n).detail

pub assembled-body : (n : Notice) → assembled n ≡ (notice_written n).bytes
unfolding le_bytes padded detail_bytes message_of notice_body notice_written
assembled-body PeerDisconnected = refl
assembled-body ReservationRevoked = refl
assembled-body AcceptanceExpired = refl
assembled-body TicketExpired = refl
assembled-body RelayDisabled = refl
assembled-body EndpointWriteFailed = refl
assembled-body OuterWriteFailed = refl

pub detail-utf8 : (n : Notice) → utf8 (detail n) ≡ true
unfolding utf8 utf8_1 utf8_2 utf8_3 utf8_4
detail-utf8 PeerDisconnected = refl
detail-utf8 ReservationRevoked = refl
detail-utf8 AcceptanceExpired = refl
detail-utf8 TicketExpired = refl
detail-utf8 RelayDisabled = refl
detail-utf8 EndpointWriteFailed = refl
detail-utf8 OuterWriteFailed = refl

pub detail-short : (n : Notice) → leb (length (detail n)) most_detail ≡ true
detail-short PeerDisconnected = refl
detail-short ReservationRevoked = refl
detail-short AcceptanceExpired = refl
detail-short TicketExpired = refl
detail-short RelayDisabled = refl
detail-short EndpointWriteFailed = refl
detail-short OuterWriteFailed = refl

-- the sizes that the code reckons with
pub row-length : (n : Notice) → length (message_of n).detail ≡ 27
unfolding message_of padded
row-length PeerDisconnected = refl
row-length ReservationRevoked = refl
row-length AcceptanceExpired = refl
row-length TicketExpired = refl
row-length RelayDisabled = refl
row-length EndpointWriteFailed = refl
row-length OuterWriteFailed = refl

pub body-length : (n : Notice) → 3 + (message_of n).length ≡ (notice_written n).length
unfolding message_of le_bytes detail_bytes notice_body notice_written
body-length PeerDisconnected = refl
body-length ReservationRevoked = refl
body-length AcceptanceExpired = refl
body-length TicketExpired = refl
body-length RelayDisabled = refl
body-length EndpointWriteFailed = refl
body-length OuterWriteFailed = refl
