-- Random bytes, and the circuit id that is drawn from them (DRAW.1 to DRAW.5).
use Rattle.std.specs.Prelude.{ℕ, zero, suc, ◌+◌, ◌/◌, Bool, cond, ◌||◌, Option, Some, None, is_none}
use Rattle.std.specs.Prelude.{List, [], ◌∷◌, eqb, leb, length, take, drop}
use Rattle.hns_encoding.specs.Bytes.{be}
use Rattle.hnsr_circuit.specs.declared.answer.HnsrRuntimeError.TheVariants.{Randomness}
use Rattle.hnsr_circuit.specs.Table.{any}
use Rattle.hnsr_circuit.specs.Answers.{HnsrAnswer, check}
use Rattle.hnsr_circuit.specs.Pending.{pending_at}
use Rattle.hnsr_circuit.specs.Circuits.{circuit_at}
use Rattle.hnsr_circuit.specs.World.{World}

-- bytes of a draw; draws and candidates in a row that refuse
abbrev pub draw_bytes : ℕ
draw_bytes = 8

abbrev pub most_draws : ℕ
most_draws = 8

-- ---- the draws (DRAW.1)
unfoldable pub draws_from : (many : ℕ) → List ℕ → List ℕ
draws_from zero random = []
draws_from (suc many) random = be (take draw_bytes random) ∷ draws_from many (drop draw_bytes random)

unfoldable pub draws : List ℕ → List ℕ
draws random = draws_from (length random / draw_bytes) random

-- ---- all draws, after so many zeros in a row and so many candidates that were taken. A zero is passed over (DRAW.2),
-- and so is the id of another record (DRAW.3), but for the eighth; what is neither is the id (DRAW.4). Running out
-- leaves none
unfoldable pub draw_all : (taken : ℕ → Bool) → (row candidates : ℕ) → List ℕ → Option ℕ
draw_all taken row candidates [] = None
draw_all taken row candidates (id ∷ ids) =
    cond (eqb id 0) (cond (leb most_draws (row + 1)) None (draw_all taken (row + 1) candidates ids))
    (cond (taken id) (cond (leb most_draws (candidates + 1)) None (draw_all taken 0 (candidates + 1) ids)) (Some id))

unfoldable pub id_taken : World → (id : ℕ) → Bool
id_taken w id = any (pending_at id) w.pending || any (circuit_at id) w.circuits

unfoldable pub drawn : World → List ℕ → Option ℕ
drawn w random = draw_all (id_taken w) 0 0 (draws random)

-- 8 (OPEN.6): no id was drawn
unfoldable pub draw_answer : Option ℕ → HnsrAnswer
draw_answer d = check (is_none d) Randomness
