use Rattle.isa.proofs.RoundTrip.{decodes_back}
use Rattle.isa.proofs.encoder.obey_table.Goals as goal

pub returns : goal.returns
returns c = decodes_back c.args.instruction
