-- The record is unmarked, its actions dropped, its end counted; then one peer is told, or two.
use Rattle.std.proofs.Common.{ap, ◌∙◌}
use Rattle.hnsr_body.specs.Messages.{notice_body}
use Rattle.hnsr_circuit.specs.Queue.{tell}
use Rattle.hnsr_circuit.specs.Code.Held.{held_actions, lent_seen}
use Rattle.hnsr_circuit.specs.Code.Progress.{message_of, Progress, advance}
use Rattle.hnsr_circuit.specs.Laws.Revocation.{first_told, one_told, two_told}
use Rattle.hnsr_circuit.proofs.calls.revocation.end.Goals as goal

pub returns-in-Some : goal.returns-in-Some
returns-in-Some g c = λ w.
    let a = c.args in
    let r = g.R.Revocable in
    let t = g.R.TableRecord in
    let s = a.sending.state in
    let told = a.closings in
    let v = lent_seen s.runtime s.places (r.with_table w a.rows.now) (held_actions s.places a.inflight.now) in
    let w' = r.with_table w c.unmark.new.rows in
    c.tell_notice.ensures w'.pending w'.circuits w'.ledger
    ∙ ap (λ (x : Progress). advance (tell (message_of c.in-Some.second (notice_body told.notice))) x)
    (first_told t.unmarked t.none g.R.Numbered.id r.in_use r.with_table r.without g.met.R.Revocable.ends a.sending w
    a.rows.now c.unmark.new.rows a.inflight.now a.out.now a.place (message_of told.first (notice_body told.notice))
    c.in_use-number.result c.id-id.result c.with_runtime.result c.drop_and_tell-first.result _ _ c.in_use-number.ensures
    c.unmark.ensures.seen (c.id-id.ensures ∙ ap g.R.Numbered.id c.at.ensures)
    (c.with_runtime.ensures.0 ∙ c.revoked.ensures, c.with_runtime.ensures.1) c.drop_and_tell-first.ensures)
    ∙ two_told v (r.without v a.place) a.sending.position a.out.now told.notice told.first told.second c.in-Some.second
    c.in-Some.is

pub returns-in-None : goal.returns-in-None
returns-in-None g c = λ w.
    let a = c.args in
    let r = g.R.Revocable in
    let t = g.R.TableRecord in
    let s = a.sending.state in
    let told = a.closings in
    let v = lent_seen s.runtime s.places (r.with_table w a.rows.now) (held_actions s.places a.inflight.now) in
    first_told t.unmarked t.none g.R.Numbered.id r.in_use r.with_table r.without g.met.R.Revocable.ends a.sending w
    a.rows.now c.unmark.new.rows a.inflight.now a.out.now a.place (message_of told.first (notice_body told.notice))
    c.in_use-number.result c.id-id.result c.with_runtime.result c.drop_and_tell-first.result _ _ c.in_use-number.ensures
    c.unmark.ensures.seen (c.id-id.ensures ∙ ap g.R.Numbered.id c.at.ensures)
    (c.with_runtime.ensures.0 ∙ c.revoked.ensures, c.with_runtime.ensures.1) c.drop_and_tell-first.ensures
    ∙ one_told v (r.without v a.place) a.sending.position a.out.now told.notice told.first told.second c.in-None.is
