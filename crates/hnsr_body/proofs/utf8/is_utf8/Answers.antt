-- `is_utf8` meets its contract: what is left is UTF-8 just where the text is.
use Rattle.std.proofs.Common.{◌-◌, sym, ◌∙◌, ap, length, drop, rules, arith, take_all, le_of_eq, length-drop}
use Rattle.hnsr_body.specs.Utf8.{utf8}
use Rattle.hnsr_body.specs.Laws.Utf8Form.{utf8_run, utf8_behind, utf8_ascii_only, no_char}
use Rattle.hnsr_body.proofs.utf8.is_utf8.Goals as goal

pub slice_bounds-behind_char-count : goal.slice_bounds-behind_char-count
slice_bounds-behind_char-count c =
    omega (arith, (utf8_run c.loop-run.rest.now c.in-Some.run' (sym c.past_ascii.ensures ∙ c.in-Some.is)).0)

pub slice_bounds-behind_char-start : goal.slice_bounds-behind_char-start
slice_bounds-behind_char-start c =
    let some = (utf8_run c.loop-run.rest.now c.in-Some.run' (sym c.past_ascii.ensures ∙ c.in-Some.is)).0 in search rules

pub behind_char-requires : goal.behind_char-requires
behind_char-requires c =
    let some = (utf8_run c.loop-run.rest.now c.in-Some.run' (sym c.past_ascii.ensures ∙ c.in-Some.is)).0 in search rules

pub returns-in_default-behind_char : goal.returns-in_default-behind_char
returns-in_default-behind_char c =
    let rest = c.loop-run.rest.now in
    let n = c.in-Some.run' in
    let run = utf8_run c.loop-run.rest.now c.in-Some.run' (sym c.past_ascii.ensures ∙ c.in-Some.is) in
    let all = take_all (length rest - n) (drop n rest) (le_of_eq (length-drop n rest)) in
    sym (sym c.loop-run.invariant ∙ sym run.1 ∙ sym (ap utf8 all)
    ∙ no_char _ (omega (arith, run.0, ap length all, length-drop n rest)) c.in_default-behind_char.ensures)

pub loop-run-preserved : goal.loop-run-preserved
loop-run-preserved c =
    let rest = c.loop-run.rest.now in
    let n = c.in-Some.run' in
    let run = utf8_run c.loop-run.rest.now c.in-Some.run' (sym c.past_ascii.ensures ∙ c.in-Some.is) in
    let all = take_all (length rest - n) (drop n rest) (le_of_eq (length-drop n rest)) in
    let behind = c.in-Some-behind_char.ensures in
    ap utf8 behind.1
    ∙ utf8_behind _ (omega (arith, run.0, ap length all, length-drop n rest)) behind.0
    ∙ ap utf8 all ∙ run.1 ∙ c.loop-run.invariant

pub returns : goal.returns
returns c =
    sym (sym c.loop-run.invariant ∙ utf8_ascii_only c.loop-run.rest.now (sym c.past_ascii.ensures ∙ c.in_default.is))
