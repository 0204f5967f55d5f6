use Rattle.std.proofs.Common.{◌∙◌}
use Rattle.slips.proofs.making.make_slip.Goals as goal

pub slip_tape-requires : goal.slip_tape-requires
slip_tape-requires c = c.deref_mut.ensures.value ∙ c.in_ok-memory.ensures
