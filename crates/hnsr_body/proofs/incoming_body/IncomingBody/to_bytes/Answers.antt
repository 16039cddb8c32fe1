-- `IncomingBody::to_bytes` meets its contract: the fields one after the other fill the body.
use Rattle.std.proofs.Common.{replicate, rules, arith, refl, w16, w32, w64}
use Rattle.hns_encoding.specs.Laws.Cursor.{wrote_none, wrote_next, wrote_all}
use Rattle.hns_encoding.specs.Laws.Library.{wrote_be, wrote_le}
use Rattle.hnsr_body.specs.Incoming.{incoming_bytes}
use Rattle.hnsr_body.proofs.incoming_body.IncomingBody.to_bytes.Goals as goal

pub returns : goal.returns
unfolding incoming_bytes
returns c =
    let b = c.args.self in
    let w1 = wrote_next c.put_bytes_at.new.out b.ticket_id 32 (wrote_none (replicate 62 0)) (search rules) (omega arith)
    c.put_bytes_at.ensures in
    let w2 = wrote_be w64 b.open_request_id c.put_bytes_at-2.new.out c.to_be_bytes.result w1 (omega arith)
    c.to_be_bytes.ensures c.put_bytes_at-2.ensures in
    let w3 = wrote_le w16 b.profile c.put_bytes_at-3.new.out c.to_le_bytes.result w2 (omega arith)
    c.to_le_bytes.ensures c.put_bytes_at-3.ensures in
    let w4 = wrote_next c.put_bytes_at-4.new.out b.requester_nonce 16 w3 (search rules) (omega arith)
    c.put_bytes_at-4.ensures in
    let w5 = wrote_le w32 b.initial_window c.put_bytes_at-5.new.out c.to_le_bytes-2.result w4 (omega arith)
    c.to_le_bytes-2.ensures c.put_bytes_at-5.ensures in
    wrote_all w5 refl
