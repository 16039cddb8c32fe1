-- A reservation id is two numbers in sixteen bytes: it is read as it was written, and written as it was read.
use Rattle.std.specs.Prelude.{ℕ, ◌<◌, ◌^◌, ◌≡◌, List, [], ◌∷◌, ◌++◌, map, length}
use Rattle.std.proofs.Common.{◌∙◌, ap, ap₂, append-nil}
use Rattle.hns_encoding.specs.Bytes.{Below, be, be_bytes}
use Rattle.hns_encoding.specs.Laws.Bytes.{be_bytes-length, be-again}
use Rattle.hnsr_body.specs.declared.values.ReservationId.{ReservationId}
use Rattle.hnsr_body.specs.Values.{reservation_of, reservation_bytes}
use Rattle.hnsr_body.specs.Laws.Parts.{written_parts, read_parts, laid-whole, be-part}

abbrev reservation_widths : List ℕ
reservation_widths = 8 ∷ 8 ∷ []

pub reservation-read : (r : ReservationId) → r.high < 2 ^ 64 → r.low < 2 ^ 64 → reservation_of (reservation_bytes r) ≡ r
reservation-read r high low =
    let ps = be_bytes 8 r.high ∷ be_bytes 8 r.low ∷ [] in
    let sizes : map length ps ≡ reservation_widths = simp be_bytes-length in
    let P = written_parts reservation_widths (reservation_bytes r) ps sizes (rw append-nil) in
    λ i. record {
      high = (ap be (P.part 0) ∙ be-again 8 r.high high) i;
      low = (ap be (P.part 1) ∙ be-again 8 r.low low) i;
    }

pub reservation-written : (bs : List ℕ) → Below 256 bs → length bs ≡ 16 → reservation_bytes (reservation_of bs) ≡ bs
reservation-written bs b e =
    let laid = laid-whole reservation_widths bs e in
    ap₂ ◌++◌ (be-part reservation_widths bs b laid 0) (be-part reservation_widths bs b laid 1)
    ∙ (rw append-nil at (read_parts reservation_widths bs laid).whole)
