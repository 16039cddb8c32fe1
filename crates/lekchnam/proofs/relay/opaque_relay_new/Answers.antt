-- What `new` hands back, in numbers.
use Rattle.lekchnam.specs.Laws.Replies.{made_in_numbers}
use Rattle.lekchnam.proofs.relay.opaque_relay_new.Goals as goal

pub returns : goal.returns
returns c h =
    let a = c.args in
    made_in_numbers a.pending.now a.circuits.now a.ledger.now a.inflight.now _ c.into.ensures
    (c.new.ensures h)
