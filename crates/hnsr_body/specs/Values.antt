-- Which values a field may have (BODY.5).
use Rattle.std.specs.Prelude.{ℕ, Bool, not, ◌&&◌, ◌||◌, List, ◌++◌, eqb, leb}
use Rattle.hns_encoding.specs.Bytes.{be, be_bytes, all_zero}
use Rattle.hnsr_body.specs.Layout.{bytes_at}
use Rattle.hnsr_body.specs.declared.values.ReservationId.{ReservationId}

abbrev pub least_window : ℕ
least_window = 16384

abbrev pub most_window : ℕ
most_window = 1048576

abbrev pub window_good : ℕ → Bool
window_good w = leb least_window w && leb w most_window

abbrev pub nonzero : ℕ → Bool
nonzero n = not (eqb n 0)

abbrev pub some_byte : List ℕ → Bool
some_byte bs = not (all_zero bs)

-- a reservation id is sixteen bytes, here two numbers
abbrev pub same_reservation : ReservationId → ReservationId → Bool
same_reservation a b = eqb a.high b.high && eqb a.low b.low

abbrev pub reservation_good : ReservationId → Bool
reservation_good r = nonzero r.high || nonzero r.low

abbrev pub reservation_of : List ℕ → ReservationId
reservation_of bytes = record { high = be (bytes_at 8 bytes 0); low = be (bytes_at 8 bytes 8) }

abbrev pub reservation_bytes : ReservationId → List ℕ
reservation_bytes r = be_bytes 8 r.high ++ be_bytes 8 r.low
