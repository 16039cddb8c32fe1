-- The seven messages of the relay's own (NOTICE.1 to NOTICE.7). A detail is its characters' codes.
use Rattle.std.specs.Prelude.{ℕ, List, [], ◌∷◌, length}
use Rattle.hns_encoding.specs.Bytes.{padded}
use Rattle.hnsr_body.specs.declared.messages.Notice.{Notice}
use Rattle.hnsr_body.specs.declared.messages.Notice.TheVariants.{PeerDisconnected, ReservationRevoked}
use Rattle.hnsr_body.specs.declared.messages.Notice.TheVariants.{AcceptanceExpired, TicketExpired, RelayDisabled}
use Rattle.hnsr_body.specs.declared.messages.Notice.TheVariants.{EndpointWriteFailed, OuterWriteFailed}
use Rattle.hnsr_body.specs.declared.messages.Message.{Message}
use Rattle.hnsr_body.specs.declared.layout.Padded.{Padded}
use Rattle.hnsr_body.specs.Layout.{padded_in}
use Rattle.hnsr_body.specs.Detail.{detail_bytes}

abbrev pub reason : Notice → ℕ
reason PeerDisconnected = 11
reason ReservationRevoked = 6
reason AcceptanceExpired = 8
reason TicketExpired = 6
reason RelayDisabled = 15
reason EndpointWriteFailed = 11
reason OuterWriteFailed = 11

abbrev pub detail : Notice → List ℕ
-- outer peer disconnected
detail PeerDisconnected =
    111 ∷ 117 ∷ 116 ∷ 101 ∷ 114 ∷ 32 ∷ 112 ∷ 101 ∷ 101 ∷ 114 ∷ 32 ∷ 100 ∷ 105 ∷ 115 ∷ 99 ∷ 111 ∷ 110 ∷ 110 ∷ 101 ∷ 99
    ∷ 116 ∷ 101 ∷ 100 ∷ []
-- reservation revoked
detail ReservationRevoked =
    114 ∷ 101 ∷ 115 ∷ 101 ∷ 114 ∷ 118 ∷ 97 ∷ 116 ∷ 105 ∷ 111 ∷ 110 ∷ 32 ∷ 114 ∷ 101 ∷ 118 ∷ 111 ∷ 107 ∷ 101 ∷ 100 ∷ []
-- endpoint acceptance expired
detail AcceptanceExpired =
    101 ∷ 110 ∷ 100 ∷ 112 ∷ 111 ∷ 105 ∷ 110 ∷ 116 ∷ 32 ∷ 97 ∷ 99 ∷ 99 ∷ 101 ∷ 112 ∷ 116 ∷ 97 ∷ 110 ∷ 99 ∷ 101 ∷ 32 ∷ 101
    ∷ 120 ∷ 112 ∷ 105 ∷ 114 ∷ 101 ∷ 100 ∷ []
-- relay ticket expired
detail TicketExpired =
    114 ∷ 101 ∷ 108 ∷ 97 ∷ 121 ∷ 32 ∷ 116 ∷ 105 ∷ 99 ∷ 107 ∷ 101 ∷ 116 ∷ 32 ∷ 101 ∷ 120 ∷ 112 ∷ 105 ∷ 114 ∷ 101
    ∷ 100 ∷ []
-- opaque relay disabled
detail RelayDisabled =
    111 ∷ 112 ∷ 97 ∷ 113 ∷ 117 ∷ 101 ∷ 32 ∷ 114 ∷ 101 ∷ 108 ∷ 97 ∷ 121 ∷ 32 ∷ 100 ∷ 105 ∷ 115 ∷ 97 ∷ 98 ∷ 108 ∷ 101
    ∷ 100 ∷ []
-- endpoint write failed
detail EndpointWriteFailed =
    101 ∷ 110 ∷ 100 ∷ 112 ∷ 111 ∷ 105 ∷ 110 ∷ 116 ∷ 32 ∷ 119 ∷ 114 ∷ 105 ∷ 116 ∷ 101 ∷ 32 ∷ 102 ∷ 97 ∷ 105 ∷ 108 ∷ 101
    ∷ 100 ∷ []
-- outer write failed
detail OuterWriteFailed =
    111 ∷ 117 ∷ 116 ∷ 101 ∷ 114 ∷ 32 ∷ 119 ∷ 114 ∷ 105 ∷ 116 ∷ 101 ∷ 32 ∷ 102 ∷ 97 ∷ 105 ∷ 108 ∷ 101 ∷ 100 ∷ []

-- the longest detail
abbrev pub longest : ℕ
longest = 27

-- a row of the table: the detail stands in front of zeros
unfoldable pub message_of : Notice → Message
message_of n = record { reason = reason n; length = length (detail n); detail = padded longest (detail n) }

-- the body of the CLOSE or ERROR that carries it
unfoldable pub notice_body : Notice → List ℕ
notice_body n = detail_bytes (reason n) (detail n)

abbrev pub notice_size : ℕ
notice_size = 30

unfoldable pub notice_written : Notice → Padded notice_size
notice_written n = padded_in notice_size (notice_body n)
