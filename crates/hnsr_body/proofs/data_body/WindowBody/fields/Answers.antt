-- `WindowBody::fields` meets its contract: the law of fields one after the other, at the widths of this body.
use Rattle.std.proofs.Common.{lit<, w32}
use Rattle.hnsr_body.specs.Data.{window_fields, window_widths}
use Rattle.hnsr_body.specs.Layout.{laid_out}
use Rattle.hnsr_body.specs.Laws.Fields.{field_le}
use Rattle.hnsr_body.specs.Laws.Layout.{through-walked, through-field}
use Rattle.hnsr_body.proofs.data_body.WindowBody.fields.Goals as goal

pub returns : goal.returns
unfolding laid_out window_fields
returns c =
    let input = c.args.input.now in (
      cc (through-walked input window_widths),
      cc (
        through-field input window_widths 0,
        field_le w32 input 0 (lit< tt),
      ),
    )
