-- `OpenedBody::fields` meets its contract: the law of fields one after the other, at the widths of this body.
use Rattle.std.proofs.Common.{lit<, w32, w64}
use Rattle.hnsr_body.specs.Accept.{opened_fields, opened_widths}
use Rattle.hnsr_body.specs.Layout.{laid_out}
use Rattle.hnsr_body.specs.Laws.Fields.{field_be, field_le}
use Rattle.hnsr_body.specs.Laws.Layout.{through-walked, through-field}
use Rattle.hnsr_body.proofs.accept_body.OpenedBody.fields.Goals as goal

pub returns : goal.returns
unfolding laid_out opened_fields
returns c =
    let input = c.args.input.now in (
      cc (through-walked input opened_widths),
      cc (
        through-field input opened_widths 0,
        through-field input opened_widths 1,
        through-field input opened_widths 2,
        field_be w64 input 0 (lit< tt),
        field_le w32 input 8 (lit< tt),
      ),
    )
