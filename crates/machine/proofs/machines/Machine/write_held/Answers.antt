use Rattle.machine.proofs.Uses.{deposited}
use Rattle.machine.proofs.machines.Machine.write_held.Goals as goal

pub returns : goal.returns
returns g c = record {
  answer = c.write.ensures.answer;
  after = c.write.ensures.after;
  frame_kept = c.write.ensures.frame_kept;
  used = deposited c.args.self.now _ _ _ _ _ c.write.ensures.answer c.write.ensures.after;
}
