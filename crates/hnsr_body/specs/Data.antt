-- DATA, 1 to 16,384 bytes (BODY.10), and WINDOW, 4 bytes (BODY.11).
use Rattle.std.specs.Prelude.{ℕ, Bool, ◌&&◌, List, [], ◌∷◌, leb, Result, Ok}
use Rattle.hns_encoding.specs.Bytes.{le, le_bytes}
use Rattle.hnsr_body.specs.declared.data_body.WindowBody.{WindowBody}
use Rattle.hnsr_body.specs.declared.error.HnsrInvalid.TheVariants.{DataSize, WindowCredit}
use Rattle.hnsr_body.specs.declared.error.HnsrProtocolError.{HnsrProtocolError}
use Rattle.hnsr_body.specs.declared.layout.Read.{Read}
use Rattle.hnsr_body.specs.Causes.{answer, given}
use Rattle.hnsr_body.specs.Values.{most_window}
use Rattle.hnsr_body.specs.Layout.{laid_out, field_of}

-- ---- DATA: only its size is looked at, the bytes are passed on as they are
abbrev pub most_data : ℕ
most_data = 16384

abbrev pub data_good : ℕ → Bool
data_good size = leb 1 size && leb size most_data

-- reading and writing are one check
unfoldable pub data_checked : ℕ → Result Unit HnsrProtocolError
data_checked size = answer (Ok tt) (data_good size) DataSize

-- ---- WINDOW
abbrev pub window_widths : List ℕ
window_widths = 4 ∷ []

abbrev pub window_size : ℕ
window_size = 4

unfoldable pub window_fields : List ℕ → WindowBody
window_fields body = record { credit_delta = le (field_of window_widths 0 body) }

abbrev pub delta_good : ℕ → Bool
delta_good delta = leb 1 delta && leb delta most_window

unfoldable pub decode_window : List ℕ → Read WindowBody
decode_window body = record {
  result = answer (laid_out window_widths body) (delta_good (window_fields body).credit_delta) WindowCredit;
  body = window_fields body;
}

unfoldable pub window_bytes : WindowBody → List ℕ
window_bytes b = le_bytes 4 b.credit_delta

unfoldable pub encode_window : WindowBody → Result (List ℕ) HnsrProtocolError
encode_window b = given (answer (Ok tt) (delta_good b.credit_delta) WindowCredit) (window_bytes b)
