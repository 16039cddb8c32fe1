-- `IncomingBody::fields` meets its contract: the law of fields one after the other, at the widths of this body.
use Rattle.std.proofs.Common.{lit<, w16, w32, w64}
use Rattle.hnsr_body.specs.Incoming.{incoming_fields, incoming_widths}
use Rattle.hnsr_body.specs.Layout.{laid_out}
use Rattle.hnsr_body.specs.Laws.Fields.{field_be, field_le}
use Rattle.hnsr_body.specs.Laws.Layout.{through-walked, through-field}
use Rattle.hnsr_body.proofs.incoming_body.IncomingBody.fields.Goals as goal

pub returns : goal.returns
unfolding laid_out incoming_fields
returns c =
    let input = c.args.input.now in (
      cc (through-walked input incoming_widths),
      cc (
        through-field input incoming_widths 0,
        through-field input incoming_widths 1,
        through-field input incoming_widths 2,
        through-field input incoming_widths 3,
        through-field input incoming_widths 4,
        field_be w64 input 32 (lit< tt),
        field_le w16 input 40 (lit< tt),
        field_le w32 input 58 (lit< tt),
      ),
    )
