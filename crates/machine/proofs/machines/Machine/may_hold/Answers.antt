use Rattle.std.proofs.Common.{rules}
use Rattle.agreement.specs.Calls.{holds, refuses}
use Rattle.machine.proofs.Uses.{inside}
use Rattle.machine.proofs.machines.Machine.may_hold.Goals as goal

pub returns-in-Start : goal.returns-in-Start
returns-in-Start g c = record { answer = search rules; used = holds c.in-Start.is }

pub returns-in_default : goal.returns-in_default
returns-in_default g c = record { answer = inside _ c.in_default.not-Start; used = refuses c.in_default.not-Start }
