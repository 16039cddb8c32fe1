-- `head` meets its contract: the law of fields one after the other, at the widths in front of the detail.
use Rattle.std.proofs.Common.{lit<, w8, w16}
use Rattle.hnsr_body.specs.Detail.{reason_detail, detail_widths}
use Rattle.hnsr_body.specs.Laws.Fields.{field_le}
use Rattle.hnsr_body.specs.Laws.Layout.{through-walked, through-field}
use Rattle.hnsr_body.proofs.detail_body.ReasonDetail.head.Goals as goal

pub returns : goal.returns
unfolding reason_detail
returns c =
    let input = c.args.input.now in (
      cc (
        through-field input detail_widths 0,
        through-field input detail_widths 1,
        field_le w16 input 0 (lit< tt),
        field_le w8 input 2 (lit< tt),
      ),
      cc (through-walked input detail_widths),
    )
