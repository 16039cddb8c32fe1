-- `copy_bytes` meets its contract: the bytes of the first `i` words are written.
use Rattle.std.proofs.Common.{◌≡◌, take}
use Rattle.hns_encoding.specs.Words.{bytes_of}
use Rattle.hns_encoding.specs.Cursor.{written_at}
use Rattle.hns_encoding.proofs.words.copy_bytes.Given as goal

abbrev pub invariant-loop-i : goal.invariant-loop-i
invariant-loop-i l = l.out ≡ written_at l.initial.out 0 (bytes_of (take l.i l.words))
