-- `OpenBody::fields` meets its contract: the law of fields one after the other, at the widths of this body.
use Rattle.std.proofs.Common.{lit<, w16, w32}
use Rattle.hnsr_body.specs.Open.{open_fields, open_widths}
use Rattle.hnsr_body.specs.Layout.{laid_out}
use Rattle.hnsr_body.specs.Laws.Fields.{field_le}
use Rattle.hnsr_body.specs.Laws.Layout.{through-walked, through-field}
use Rattle.hnsr_body.proofs.open_body.OpenBody.fields.Goals as goal

pub returns : goal.returns
unfolding laid_out open_fields
returns c =
    let input = c.args.input.now in (
      cc (through-walked input open_widths),
      cc (
        through-field input open_widths 0,
        through-field input open_widths 1,
        through-field input open_widths 2,
        through-field input open_widths 3,
        through-field input open_widths 4,
        through-field input open_widths 5,
        field_le w16 input 81 (lit< tt),
        field_le w32 input 99 (lit< tt),
      ),
    )
