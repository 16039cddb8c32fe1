-- ACCEPT, 20 bytes (BODY.8), and OPENED, 28 bytes (BODY.9).
use Rattle.std.specs.Prelude.{ℕ, Bool, ◌&&◌, List, [], ◌∷◌, ◌++◌, Result, Ok}
use Rattle.hns_encoding.specs.Bytes.{le, le_bytes, be, be_bytes}
use Rattle.hnsr_body.specs.declared.accept_body.AcceptBody.{AcceptBody}
use Rattle.hnsr_body.specs.declared.accept_body.OpenedBody.{OpenedBody}
use Rattle.hnsr_body.specs.declared.error.HnsrInvalid.TheVariants.{AcceptResponse, CircuitZero}
use Rattle.hnsr_body.specs.declared.error.HnsrProtocolError.{HnsrProtocolError}
use Rattle.hnsr_body.specs.declared.layout.Read.{Read}
use Rattle.hnsr_body.specs.Causes.{answer, given}
use Rattle.hnsr_body.specs.Values.{nonzero, some_byte, window_good}
use Rattle.hnsr_body.specs.Layout.{laid_out, field_of}

-- ---- ACCEPT
abbrev pub accept_widths : List ℕ
accept_widths = 4 ∷ 16 ∷ []

abbrev pub accept_size : ℕ
accept_size = 20

unfoldable pub accept_fields : List ℕ → AcceptBody
accept_fields body =
    record { accepted_window = le (field_of accept_widths 0 body); endpoint_nonce = field_of accept_widths 1 body }

unfoldable pub accept_good : AcceptBody → Bool
accept_good b = window_good b.accepted_window && some_byte b.endpoint_nonce

unfoldable pub decode_accept : List ℕ → Read AcceptBody
decode_accept body = record {
  result = answer (laid_out accept_widths body) (accept_good (accept_fields body)) AcceptResponse;
  body = accept_fields body;
}

unfoldable pub accept_bytes : AcceptBody → List ℕ
accept_bytes b = le_bytes 4 b.accepted_window ++ b.endpoint_nonce

unfoldable pub encode_accept : AcceptBody → Result (List ℕ) HnsrProtocolError
encode_accept b = given (answer (Ok tt) (accept_good b) AcceptResponse) (accept_bytes b)

-- ---- OPENED: the circuit id is tested first, with a text of its own
abbrev pub opened_widths : List ℕ
opened_widths = 8 ∷ accept_widths

abbrev pub opened_size : ℕ
opened_size = 28

unfoldable pub opened_fields : List ℕ → OpenedBody
opened_fields body = record {
  circuit_id = be (field_of opened_widths 0 body);
  accepted_window = le (field_of opened_widths 1 body);
  endpoint_nonce = field_of opened_widths 2 body;
}

-- the part of it that ACCEPT has
abbrev pub opened_rest : OpenedBody → AcceptBody
opened_rest b = record { accepted_window = b.accepted_window; endpoint_nonce = b.endpoint_nonce }

-- what its values answer
abbrev pub opened_answer : Result Unit HnsrProtocolError → OpenedBody → Result Unit HnsrProtocolError
opened_answer layout b =
    answer (answer layout (nonzero b.circuit_id) CircuitZero) (accept_good (opened_rest b)) AcceptResponse

unfoldable pub opened_good : OpenedBody → Bool
opened_good b = nonzero b.circuit_id && accept_good (opened_rest b)

unfoldable pub decode_opened : List ℕ → Read OpenedBody
decode_opened body =
    record { result = opened_answer (laid_out opened_widths body) (opened_fields body); body = opened_fields body }

unfoldable pub opened_bytes : OpenedBody → List ℕ
opened_bytes b = be_bytes 8 b.circuit_id ++ accept_bytes (opened_rest b)

unfoldable pub encode_opened : OpenedBody → Result (List ℕ) HnsrProtocolError
encode_opened b = given (opened_answer (Ok tt) b) (opened_bytes b)
