use Rattle.machine.proofs.Uses.{examined}
use Rattle.machine.proofs.machines.Machine.read_held.Goals as goal

pub returns : goal.returns
returns g c = record {
  value = c.read.ensures.value;
  kept = c.read.ensures.kept;
  frame_kept = c.read.ensures.frame_kept;
  used = examined c.args.self.now _ _ _ _ c.read.ensures.value c.read.ensures.kept;
}
