-- Both parts, one after the other, where the whole route fits.
use Rattle.std.proofs.Common.{◌+◌, ◌∙◌, arith, sym, length, leb-true}
use Rattle.hns_encoding.specs.Words.{words}
use Rattle.hnsr_circuit.specs.Route.{address_words, peer_words, packet_words, route_words}
use Rattle.hnsr_circuit.specs.Queue.{route_for}
use Rattle.hnsr_circuit.specs.Code.Progress.{message_of}
use Rattle.hnsr_circuit.specs.Laws.Route.{length-words, peer-words, packet-words, wrote_first, wrote_next, wrote_all}
use Rattle.hnsr_circuit.proofs.output.route.put_route.Goals as goal

pub returns-then-fits : goal.returns-then-fits
unfolding route_words peer_words packet_words
returns-then-fits c =
    let a = c.args in
    let q = route_for (message_of a.message a.body.bytes.now) a.generation a.sequence in
    let fits = leb-true (a.at + c.route_size-size.result) (length a.out.now) (sym c.fits.ensures ∙ c.if-fits.true) in
    let n = length-words a.body.bytes.now in
    let first = wrote_first c.put_peer_words.new.out (peer_words q) a.at address_words (peer-words q) (omega arith)
    c.put_peer_words.ensures in
    let all = wrote_next c.put_packet_words.new.out (packet_words q) (3 + length (words a.body.bytes.now)) first
    (packet-words q) (omega arith) c.put_packet_words.ensures in
    wrote_all all (omega arith)
