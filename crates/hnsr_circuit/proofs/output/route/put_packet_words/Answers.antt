-- The three fields, one after the other.
use Prim.Native.Nat.{ℕ, ◌+◌, ◌*◌}
use native.Mathlib.Omega.{arith}
use mathlib.Core.Path.{refl, ap, ◌∙◌}
use mathlib.Core.List.{[], ◌∷◌, ◌++◌}
use lib.ListN.{length}
use Rattle.hns_encoding.specs.Bytes.{be_bytes}
use Rattle.hns_encoding.specs.Words.{words, word_count}
use Rattle.hns_encoding.specs.Laws.Bytes.{be_bytes-length}
use Rattle.hns_encoding.specs.Cursor.{written}
use Rattle.hnsr_circuit.specs.Route.{kind_word, packet_words}
use Rattle.hnsr_circuit.specs.Laws.Route.{length-words, wrote_first, wrote_next, wrote_all}
use Rattle.hnsr_circuit.proofs.output.route.put_packet_words.Goals as goal

pub returns : goal.returns
unfolding packet_words
returns c =
    let s = c in
    let a = s.args in
    let n = s.requires in
    let b = a.body.bytes.now in
    let word = c.packet_word-word.ensures
    ∙ ap (λ (n : ℕ). kind_word 2 (a.message.opcode * 65536 + n)) c.length.ensures in
    let context =
    length-words (be_bytes 8 a.message.context_id) ∙ ap word_count (be_bytes-length 8 a.message.context_id) in
    let w1 = wrote_first {xs = a.out.now} c.put_word.new.out (c.packet_word-word.result ∷ []) a.at 1 refl
    (omega arith) c.put_word.ensures.leaves in
    let w2 = wrote_next c.put_u64_be_as_words.new.out (words (be_bytes 8 a.message.context_id)) 2 w1 context
    (omega arith) c.put_u64_be_as_words.ensures.leaves in
    let w3 = wrote_next c.put_bytes_as_words.new.out (words b) (length (words b)) w2 refl (omega arith)
    c.put_bytes_as_words.ensures.leaves in
    wrote_all w3 (omega arith)
    ∙ ap (λ (x : ℕ). written a.out.now a.at (x ∷ (words (be_bytes 8 a.message.context_id) ++ words b))) word
