-- `put_full_words` meets its contract: the first `i` words are written.
use Rattle.std.proofs.Common.{◌≡◌, map, take}
use Rattle.hns_encoding.specs.Bytes.{le}
use Rattle.hns_encoding.proofs.words.put_full_words.Given as goal

abbrev pub invariant-loop-i : goal.invariant-loop-i
invariant-loop-i l = take l.i l.out ≡ map le (take l.i l.chunks)
