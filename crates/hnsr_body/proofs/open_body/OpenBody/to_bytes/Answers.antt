-- `OpenBody::to_bytes` meets its contract: the fields one after the other fill the body.
use Rattle.std.proofs.Common.{replicate, rules, arith, refl, w16, w32, w64, ◌∙◌, append_assoc, ap, List, ℕ, ◌++◌}
use Rattle.hns_encoding.specs.Bytes.{le_bytes, be_bytes}
use Rattle.hns_encoding.specs.Laws.Cursor.{wrote_none, wrote_next, wrote_all}
use Rattle.hns_encoding.specs.Laws.Library.{wrote_be, wrote_le}
use Rattle.hnsr_body.specs.Open.{open_bytes}
use Rattle.hnsr_body.proofs.open_body.OpenBody.to_bytes.Goals as goal

pub returns : goal.returns
unfolding open_bytes
returns c =
    let b = c.args.self in
    let w1 = wrote_next c.put_bytes_at.new.out b.ticket_id 32 (wrote_none (replicate 103 0)) (search rules)
    (omega arith) c.put_bytes_at.ensures in
    let w2 = wrote_be w64 b.reservation_id.high c.put_bytes_at-2.new.out c.to_be_bytes.result w1 (omega arith)
    c.to_be_bytes.ensures c.put_bytes_at-2.ensures in
    let w3 = wrote_be w64 b.reservation_id.low c.put_bytes_at-3.new.out c.to_be_bytes-2.result w2 (omega arith)
    c.to_be_bytes-2.ensures c.put_bytes_at-3.ensures in
    let w4 =
    wrote_next c.put_bytes_at-4.new.out b.endpoint_key 33 w3 (search rules) (omega arith) c.put_bytes_at-4.ensures in
    let w5 = wrote_le w16 b.profile c.put_bytes_at-5.new.out c.to_le_bytes.result w4 (omega arith)
    c.to_le_bytes.ensures c.put_bytes_at-5.ensures in
    let w6 = wrote_next c.put_bytes_at-6.new.out b.requester_nonce 16 w5 (search rules) (omega arith)
    c.put_bytes_at-6.ensures in
    let w7 = wrote_le w32 b.initial_window c.put_bytes_at-7.new.out c.to_le_bytes-2.result w6 (omega arith)
    c.to_le_bytes-2.ensures c.put_bytes_at-7.ensures in
    wrote_all w7 refl
    ∙ ap
    (λ (x : List ℕ). x ++ b.endpoint_key ++ le_bytes 2 b.profile ++ b.requester_nonce ++ le_bytes 4 b.initial_window)
    (append_assoc b.ticket_id (be_bytes 8 b.reservation_id.high) (be_bytes 8 b.reservation_id.low))
