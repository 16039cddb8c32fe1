-- What is left of the walk, from where it has come to, leaves what the whole walk leaves.
use Rattle.std.proofs.Common.{ℕ, suc, ◌≡◌, ◌+◌, ◌-◌, Some, sym, ap, ◌∙◌, length, get_or, arith}
use Rattle.hnsr_circuit.specs.declared.calls.revocation.Closings.{Closings}
use Rattle.hnsr_circuit.specs.Revocation.{walk_from}
use Rattle.hnsr_circuit.specs.Table.{next}
use Rattle.hnsr_circuit.specs.Code.Held.{held, held_actions, sending_seen}
use Rattle.hnsr_circuit.specs.Code.Progress.{Progress, advanced, advance}
use Rattle.hnsr_circuit.specs.Code.Revoking.{told, ended}
use Rattle.hnsr_circuit.specs.Laws.Held.{length-held}
use Rattle.hnsr_circuit.specs.Laws.Revocation.{walk_on, walk_on-is, walk_begins, walk_turn, walk_stops, walk_over}
use Rattle.hnsr_circuit.proofs.calls.revocation.walk.Goals as goal

pub loop-init : goal.loop-init
loop-init g c = λ w.
    let a = c.args in
    let r = g.R.Revocable in
    let t = g.R.TableRecord in
    let n = a.sending.state.places in
    walk_begins g.R.Numbered.id r.table (g.R.Revocable.is_revoked a.revoking)
    (ended r.table t.none (r.closings a.revoking) r.without)
    (sending_seen a.sending (r.with_table w a.rows.now) a.inflight.now a.out.now)
    (held t.unmarked (r.in_use n) a.rows.now) (length a.rows.now - 0) a.first
    (g.met.R.Revocable.stands a.sending.state.runtime n w a.rows.now (held_actions n a.inflight.now))
    (omega (arith, length-held t.unmarked (r.in_use n) a.rows.now)) c.requires

pub returns-in_default : goal.returns-in_default
returns-in_default g c = λ w.
    let a = c.args in
    let l = c.loop in
    let r = g.R.Revocable in
    let has = g.R.Revocable.is_revoked a.revoking in
    let end = ended r.table g.R.TableRecord.none (r.closings a.revoking) r.without in
    let s = sending_seen l.sent (r.with_table w l.rows) l.inflight l.out in
    let k = length a.rows.now - (l.counter + 1) in
    let less = c.loop-test.true in
    let left : suc k ≡ length a.rows.now - l.counter = omega arith in
    sym (walk_stops g.R.Numbered.id r.table has end s k l.next c.in_default.is)
    ∙ ap (λ (m : ℕ). advance (walk_on g.R.Numbered.id r.table has end m l.next) s) left
    ∙ l.invariant w

pub loop-preserved : goal.loop-preserved
loop-preserved g c = λ w.
    let a = c.args in
    let l = c.loop in
    let r = g.R.Revocable in
    let t = g.R.TableRecord in
    let id = g.R.Numbered.id in
    let has = g.R.Revocable.is_revoked a.revoking in
    let end = ended r.table t.none (r.closings a.revoking) r.without in
    let here = c.in-Some.here in
    let n = l.sent.state.places in
    let s = sending_seen l.sent (r.with_table w l.rows) l.inflight l.out in
    let k = length a.rows.now - (l.counter + 1) in
    let less = c.loop-test.true in
    let left : suc k ≡ length a.rows.now - l.counter = omega arith in
    let after = c.end-sent in
    let m = after.result.state.places in
    let closings = c.closings.ensures
    ∙ ap (r.closings a.revoking)
    (c.at-row.ensures
    ∙ (λ x. get_or (held t.unmarked (c.in_use.ensures x) l.rows) here.place t.none)
    ∙ sym (ap (λ rows. get_or rows here.place t.none)
    (g.met.R.Revocable.stands l.sent.state.runtime n w l.rows (held_actions n l.inflight)))) in
    let next' = c.next-next.ensures
    ∙ (λ x. next id has (Some here) (held t.unmarked (c.in_use-in-loop.ensures x) after.new.rows))
    ∙ sym (ap (next id has (Some here))
    (g.met.R.Revocable.stands after.result.state.runtime m w after.new.rows (held_actions m after.new.inflight))) in
    walk_on-is id r.table has end
    (sending_seen after.result (r.with_table w after.new.rows) after.new.inflight after.new.out) k (Some here)
    c.next-next.result next'
    ∙ ap (λ (x : Progress). advance (walk_from id r.table has end k (Some here)) x)
    (after.ensures w
    ∙ ap (λ (x : Closings). advanced s (told x (r.without s.world here.place))) closings)
    ∙ sym (walk_turn id r.table has end s k l.next here c.in-Some.is)
    ∙ ap (λ (x : ℕ). advance (walk_on id r.table has end x l.next) s) left
    ∙ l.invariant w

pub returns : goal.returns
returns g c = λ w.
    let a = c.args in
    let l = c.loop in
    let r = g.R.Revocable in
    let has = g.R.Revocable.is_revoked a.revoking in
    let end = ended r.table g.R.TableRecord.none (r.closings a.revoking) r.without in
    let s = sending_seen l.sent (r.with_table w l.rows) l.inflight l.out in
    let over = c.loop-test.false in
    let none : 0 ≡ length a.rows.now - l.counter = omega arith in
    sym (walk_over g.R.Numbered.id r.table has end s 0 l.next)
    ∙ ap (λ (m : ℕ). advance (walk_on g.R.Numbered.id r.table has end m l.next) s) none
    ∙ l.invariant w
