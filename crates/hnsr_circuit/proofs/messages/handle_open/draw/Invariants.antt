-- What is left to draw, after the zeros and candidates so far, gives what all draws give.
use Rattle.std.proofs.Common.{◌≡◌, ◌<◌, map, drop}
use Rattle.std.specs.Int.{w64, from_be_bytes}
use Rattle.hnsr_circuit.specs.Code.Held.{held_pending, held_circuits}
use Rattle.hnsr_circuit.specs.Code.Opening.{is_taken}
use Rattle.hnsr_circuit.specs.Draw.{draws, draw_all}
use Rattle.hnsr_circuit.proofs.messages.handle_open.draw.Given as goal

abbrev pub invariant-loop-bytes : goal.invariant-loop-bytes
invariant-loop-bytes l =
    (l.zeros < 8)
    × (l.candidates < 8)
    × (let taken = is_taken (held_pending l.places l.pending) (held_circuits l.places l.circuits) in
    draw_all taken l.zeros l.candidates (map (from_be_bytes w64) (drop l.bytes-index l.chunks))
    ≡ draw_all taken 0 0 (draws l.random))
