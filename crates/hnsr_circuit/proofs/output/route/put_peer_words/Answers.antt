-- The four fields, one after the other.
use Prim.Native.Nat.{ℕ, ◌+◌}
use native.Mathlib.Omega.{arith}
use mathlib.Core.Path.{refl, ap, ◌∙◌}
use mathlib.Core.List.{List, [], ◌∷◌, ◌++◌}
use Rattle.hns_encoding.specs.Words.{words_of, high_low}
use Rattle.hns_encoding.specs.Laws.Words.{words_of_length}
use Rattle.hns_encoding.specs.Cursor.{written}
use Rattle.hnsr_circuit.specs.Peer.{peer_bytes}
use Rattle.hnsr_circuit.specs.Route.{name_words, kind_word, peer_words}
use Rattle.hnsr_circuit.specs.Laws.Route.{wrote_first, wrote_next, wrote_all}
use Rattle.hnsr_circuit.proofs.output.route.put_peer_words.Goals as goal

pub returns : goal.returns
unfolding peer_words
returns c =
    let s = c in
    let a = s.args in
    let d = a.message.destination in
    let n = s.requires in
    let word = c.peer_word-word.ensures ∙ ap (kind_word 1) c.length-length.ensures in
    let w1 = wrote_first {xs = a.out.now} c.put_word.new.out (c.peer_word-word.result ∷ []) a.at 1 refl
    (omega arith) c.put_word.ensures.leaves in
    let w2 = wrote_next c.put_u64_as_words.new.out (high_low a.generation) 2 w1 refl (omega arith)
    c.put_u64_as_words.ensures.leaves in
    let w3 = wrote_next c.put_u64_as_words-2.new.out (high_low a.sequence) 2 w2 refl (omega arith)
    c.put_u64_as_words-2.ensures.leaves in
    let w4 = wrote_next c.put_padded_as_words.new.out (words_of name_words (peer_bytes d)) name_words w3
    (words_of_length name_words (peer_bytes d)) (omega arith)
    (c.put_padded_as_words.ensures.leaves
    ∙ ap (λ (name : List ℕ). written c.put_u64_as_words-2.new.out (a.at + 5) (words_of name_words name))
    c.name.ensures) in
    wrote_all w4 (omega arith)
    ∙ ap (λ (x : ℕ). written a.out.now a.at
    (x ∷ (high_low a.generation ++ high_low a.sequence ++ words_of name_words (peer_bytes d)))) word
