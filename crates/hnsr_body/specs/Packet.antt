-- The packet rule, `HnsrPacket::validate`: 12 bytes of header and the body are at most 65,535, tested first; then the
-- context is not all zero, which only opcode 6, SampleRoutes, may have.
use Rattle.std.specs.Prelude.{ℕ, cond, not, ◌&&◌, eqb, ltb, Result, Ok, Err}
use Rattle.hns_encoding.specs.Numbers.{saturating_add}
use Rattle.hnsr_body.specs.declared.error.HnsrInvalid.TheVariants.{ContextZero}
use Rattle.hnsr_body.specs.declared.error.HnsrProtocolError.TheVariants.{Invalid, TooLarge}
use Rattle.hnsr_body.specs.declared.error.HnsrProtocolError.{HnsrProtocolError}

abbrev pub header_size : ℕ
header_size = 12

abbrev pub most_packet : ℕ
most_packet = 65535

abbrev pub sample_routes : ℕ
sample_routes = 6

-- the size of a packet; the sum stops at its top, as in the Rust
abbrev pub packet_size : ℕ → ℕ
packet_size body_length = saturating_add 64 header_size body_length

unfoldable pub packet_checked : ℕ → ℕ → ℕ → Result Unit HnsrProtocolError
packet_checked opcode context body_length =
    cond (ltb most_packet (packet_size body_length)) (Err (TooLarge (packet_size body_length) most_packet))
    (cond (eqb context 0 && not (eqb opcode sample_routes)) (Err (Invalid ContextZero)) (Ok tt))
