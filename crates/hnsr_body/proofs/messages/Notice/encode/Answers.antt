-- `Notice::encode` meets its contract: the parts of the row, one after the other, are the body.
use Rattle.std.proofs.Common.{◌+◌, ◌≡◌, refl, ◌∙◌, ap, ◌++◌, [], ◌∷◌, length, replicate, arith, w16}
use Rattle.hns_encoding.specs.Bytes.{le_bytes}
use Rattle.hns_encoding.specs.Laws.Library.{wrote_le}
use Rattle.hns_encoding.specs.Laws.Cursor.{wrote_none, wrote_next, wrote_all}
use Rattle.hnsr_body.specs.declared.messages.Message.{Message}
use Rattle.hnsr_body.specs.Laws.Messages.{assembled-body, row-length, body-length}
use Rattle.hnsr_body.proofs.messages.Notice.encode.Goals as goal

pub returns : goal.returns
returns c =
    let n = c.args.self in
    let m = c.message-message.result in
    let e = c.message-message.ensures in
    let long : length m.detail ≡ 27 = ap (λ (x : Message). length x.detail) e ∙ row-length n in
    let w1 = wrote_le w16 m.reason c.put_bytes_at.new.out c.to_le_bytes.result (wrote_none (replicate 30 0))
    (omega arith) c.to_le_bytes.ensures c.put_bytes_at.ensures in
    let w2 = wrote_next c.put_bytes_at-2.new.out (m.length ∷ []) 1 w1 refl (omega arith) c.put_bytes_at-2.ensures in
    let w3 = wrote_next c.put_bytes_at-3.new.out m.detail 27 w2 long (omega arith) c.put_bytes_at-3.ensures in
    let bytes = wrote_all w3 refl
    ∙ ap (λ (x : Message). le_bytes 2 x.reason ++ (x.length ∷ []) ++ x.detail) e
    ∙ assembled-body n in
    let size = ap (λ (x : Message). 3 + x.length) e ∙ body-length n in
    λ i. record { length = size i; bytes = bytes i }
