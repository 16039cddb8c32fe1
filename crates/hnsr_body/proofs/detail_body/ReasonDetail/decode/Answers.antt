-- `ReasonDetail::decode` meets its contract: head, length and text are those of the definition.
use Rattle.std.proofs.Common.{arith}
use Rattle.hnsr_body.specs.Detail.{decode_detail, reason_detail}
use Rattle.hnsr_body.specs.Laws.Layout.{walked-left}
use Rattle.hnsr_body.proofs.detail_body.ReasonDetail.decode.Goals as goal

pub returns : goal.returns
unfolding decode_detail reason_detail
returns c = grind (arith, walked-left)
