-- `AcceptBody::fields` meets its contract: the law of fields one after the other, at the widths of this body.
use Rattle.std.proofs.Common.{lit<, w32}
use Rattle.hnsr_body.specs.Accept.{accept_fields, accept_widths}
use Rattle.hnsr_body.specs.Layout.{laid_out}
use Rattle.hnsr_body.specs.Laws.Fields.{field_le}
use Rattle.hnsr_body.specs.Laws.Layout.{through-walked, through-field}
use Rattle.hnsr_body.proofs.accept_body.AcceptBody.fields.Goals as goal

pub returns : goal.returns
unfolding laid_out accept_fields
returns c =
    let input = c.args.input.now in (
      cc (through-walked input accept_widths),
      cc (
        through-field input accept_widths 0,
        through-field input accept_widths 1,
        field_le w32 input 0 (lit< tt),
      ),
    )
