use Rattle.agreement.specs.Calls.{releases}
use Rattle.machine.proofs.machines.Machine.release.Goals as goal

pub returns : goal.returns
returns g c = record { used = releases }
