-- `ReasonDetail::encode` meets its contract: reason, length and text one after the other, of a detail that is short and
-- UTF-8, stand in front of zeros.
use Rattle.std.proofs.Common.{ℕ, refl, sym, ◌∙◌, ap, List, [], ◌∷◌, length, replicate, le-leb, Ok, arith, w16}
use lib.Seq.{append_snoc}
use Rattle.hns_encoding.specs.Bytes.{le_bytes}
use Rattle.hns_encoding.specs.Cursor.{written_at}
use Rattle.hns_encoding.specs.Laws.Cursor.{wrote_none, wrote_next}
use Rattle.hns_encoding.specs.Laws.Library.{wrote_le}
use Rattle.hns_encoding.specs.Laws.Lists.{written_zeros}
use Rattle.hnsr_body.specs.Detail.{encode_detail, detail_bytes, detail_size}
use Rattle.hnsr_body.specs.Laws.DetailTrip.{detail-size}
use Rattle.hnsr_body.proofs.detail_body.ReasonDetail.encode.Goals as goal

pub returns : goal.returns
unfolding encode_detail detail_bytes
returns c =
    let a = c.args in
    let n = length a.detail.now in
    let text = sym c.is_utf8.ensures ∙ c.if-not-is_utf8.false in
    let w1 = wrote_le w16 a.reason c.put_bytes_at.new.out c.to_le_bytes.result (wrote_none (replicate 131 0))
    (omega arith) c.to_le_bytes.ensures c.put_bytes_at.ensures in
    let w2 = wrote_next c.put_bytes_at-2.new.out (n ∷ []) 1 w1 refl (omega arith) c.put_bytes_at-2.ensures in
    let w3 = wrote_next c.put_bytes_at-3.new.out a.detail.now n w2 refl (omega arith) c.put_bytes_at-3.ensures in
    let bytes = w3.same
    ∙ ap (λ (l : List ℕ). written_at (replicate 131 0) 0 l) (append_snoc (le_bytes 2 a.reason) n a.detail.now)
    ∙ written_zeros detail_size (detail_bytes a.reason a.detail.now) in
    let size = sym (detail-size a.reason a.detail.now) in
    rw (le-leb n 128 c.if-detail-gt-MAX_DETAIL.false, text)
    (λ i. Ok (record { length = size i; bytes = bytes i }))
