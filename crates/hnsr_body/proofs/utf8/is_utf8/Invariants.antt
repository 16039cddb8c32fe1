-- `is_utf8` meets its contract: what is left is UTF-8 just where the text is.
use Rattle.std.proofs.Common.{◌≡◌, length}
use Rattle.hnsr_body.specs.Utf8.{utf8}
use Rattle.hnsr_body.proofs.utf8.is_utf8.Given as goal

abbrev pub invariant-loop-run : goal.invariant-loop-run
invariant-loop-run l = utf8 l.rest ≡ utf8 l.text

abbrev pub decreases-loop-run : goal.decreases-loop-run
decreases-loop-run l = length l.rest
