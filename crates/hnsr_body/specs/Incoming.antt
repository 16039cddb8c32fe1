-- INCOMING, 62 bytes (BODY.7).
use Rattle.std.specs.Prelude.{ℕ, Bool, ◌&&◌, List, [], ◌∷◌, ◌++◌, Result, Ok}
use Rattle.hns_encoding.specs.Bytes.{le, le_bytes, be, be_bytes}
use Rattle.hnsr_body.specs.declared.incoming_body.IncomingBody.{IncomingBody}
use Rattle.hnsr_body.specs.declared.error.HnsrInvalid.TheVariants.{IncomingParameters}
use Rattle.hnsr_body.specs.declared.error.HnsrProtocolError.{HnsrProtocolError}
use Rattle.hnsr_body.specs.declared.layout.Read.{Read}
use Rattle.hnsr_body.specs.Causes.{answer, given}
use Rattle.hnsr_body.specs.Values.{nonzero, some_byte, window_good}
use Rattle.hnsr_body.specs.Layout.{laid_out, field_of}

abbrev pub incoming_widths : List ℕ
incoming_widths = 32 ∷ 8 ∷ 2 ∷ 16 ∷ 4 ∷ []

abbrev pub incoming_size : ℕ
incoming_size = 62

unfoldable pub incoming_fields : List ℕ → IncomingBody
incoming_fields body = record {
  ticket_id = field_of incoming_widths 0 body;
  open_request_id = be (field_of incoming_widths 1 body);
  profile = le (field_of incoming_widths 2 body);
  requester_nonce = field_of incoming_widths 3 body;
  initial_window = le (field_of incoming_widths 4 body);
}

unfoldable pub incoming_good : IncomingBody → Bool
incoming_good b =
    some_byte b.ticket_id && nonzero b.open_request_id && nonzero b.profile
    && some_byte b.requester_nonce
    && window_good b.initial_window

unfoldable pub decode_incoming : List ℕ → Read IncomingBody
decode_incoming body = record {
  result = answer (laid_out incoming_widths body) (incoming_good (incoming_fields body)) IncomingParameters;
  body = incoming_fields body;
}

unfoldable pub incoming_bytes : IncomingBody → List ℕ
incoming_bytes b =
    b.ticket_id ++ be_bytes 8 b.open_request_id ++ le_bytes 2 b.profile ++ b.requester_nonce
    ++ le_bytes 4 b.initial_window

unfoldable pub encode_incoming : IncomingBody → Result (List ℕ) HnsrProtocolError
encode_incoming b = given (answer (Ok tt) (incoming_good b) IncomingParameters) (incoming_bytes b)
