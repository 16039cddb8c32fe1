-- `OpenedBody::to_bytes` meets its contract: the fields one after the other fill the body.
use Rattle.std.proofs.Common.{replicate, rules, arith, refl, w32, w64, ◌∙◌, append_assoc}
use Rattle.hns_encoding.specs.Bytes.{le_bytes, be_bytes}
use Rattle.hns_encoding.specs.Laws.Cursor.{wrote_none, wrote_next, wrote_all}
use Rattle.hns_encoding.specs.Laws.Library.{wrote_be, wrote_le}
use Rattle.hnsr_body.specs.Accept.{accept_bytes, opened_bytes}
use Rattle.hnsr_body.proofs.accept_body.OpenedBody.to_bytes.Goals as goal

pub returns : goal.returns
unfolding accept_bytes opened_bytes
returns c =
    let b = c.args.self in
    let w1 = wrote_be w64 b.circuit_id c.put_bytes_at.new.out c.to_be_bytes.result (wrote_none (replicate 28 0))
    (omega arith) c.to_be_bytes.ensures c.put_bytes_at.ensures in
    let w2 = wrote_le w32 b.accepted_window c.put_bytes_at-2.new.out c.to_le_bytes.result w1 (omega arith)
    c.to_le_bytes.ensures c.put_bytes_at-2.ensures in
    let w3 = wrote_next c.put_bytes_at-3.new.out b.endpoint_nonce 16 w2 (search rules) (omega arith)
    c.put_bytes_at-3.ensures in
    wrote_all w3 refl
    ∙ append_assoc (be_bytes 8 b.circuit_id) (le_bytes 4 b.accepted_window) b.endpoint_nonce
