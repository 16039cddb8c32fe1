-- OPEN, 103 bytes (BODY.6).
use Rattle.std.specs.Prelude.{ℕ, Bool, ◌&&◌, List, [], ◌∷◌, ◌++◌, Result, Ok}
use Rattle.hns_encoding.specs.Bytes.{le, le_bytes}
use Rattle.hnsr_body.specs.declared.open_body.OpenBody.{OpenBody}
use Rattle.hnsr_body.specs.declared.error.HnsrInvalid.TheVariants.{OpenParameters}
use Rattle.hnsr_body.specs.declared.error.HnsrProtocolError.{HnsrProtocolError}
use Rattle.hnsr_body.specs.declared.layout.Read.{Read}
use Rattle.hnsr_body.specs.Causes.{answer, given}
use Rattle.hnsr_body.specs.Values.{nonzero, some_byte, window_good, reservation_good}
use Rattle.hnsr_body.specs.Values.{reservation_of, reservation_bytes}
use Rattle.hnsr_body.specs.Layout.{laid_out, field_of}

abbrev pub open_widths : List ℕ
open_widths = 32 ∷ 16 ∷ 33 ∷ 2 ∷ 16 ∷ 4 ∷ []

abbrev pub open_size : ℕ
open_size = 103

unfoldable pub open_fields : List ℕ → OpenBody
open_fields body = record {
  ticket_id = field_of open_widths 0 body;
  reservation_id = reservation_of (field_of open_widths 1 body);
  endpoint_key = field_of open_widths 2 body;
  profile = le (field_of open_widths 3 body);
  requester_nonce = field_of open_widths 4 body;
  initial_window = le (field_of open_widths 5 body);
}

-- the host says whether the key is valid
unfoldable pub open_good : Bool → OpenBody → Bool
open_good key_valid b =
    some_byte b.ticket_id && reservation_good b.reservation_id && key_valid && nonzero b.profile
    && some_byte b.requester_nonce
    && window_good b.initial_window

unfoldable pub decode_open : Bool → List ℕ → Read OpenBody
decode_open key_valid body = record {
  result = answer (laid_out open_widths body) (open_good key_valid (open_fields body)) OpenParameters;
  body = open_fields body;
}

unfoldable pub open_bytes : OpenBody → List ℕ
open_bytes b =
    b.ticket_id ++ reservation_bytes b.reservation_id ++ b.endpoint_key ++ le_bytes 2 b.profile
    ++ b.requester_nonce
    ++ le_bytes 4 b.initial_window

-- a body with bad values is not written
unfoldable pub encode_open : Bool → OpenBody → Result (List ℕ) HnsrProtocolError
encode_open key_valid b = given (answer (Ok tt) (open_good key_valid b) OpenParameters) (open_bytes b)
