-- `utf8::lead_length` meets its contract: the table lists the values of `lead_length`, one test over its 256 entries.
use Rattle.hnsr_body.specs.Utf8Form.{lead_length}
use Rattle.hnsr_body.proofs.Utf8Table.{entry}
use Rattle.hnsr_body.proofs.utf8.lead_length.Goals as goal

pub returns : goal.returns
unfolding lead_length
returns c = entry 256 lead_length c.args.lead c.ranges.lead.fits
