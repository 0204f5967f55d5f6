use Rattle.std.proofs.Common.{sym, rules}
use Rattle.machine.proofs.Placed.{made}
use Rattle.machine.proofs.machines.Machine.transfer.Goals as goal

pub returns : goal.returns
returns g c = let e = made _ _ _ _ _ _ _ c.carry_out-answer.ensures.transfer (sym c.in_ok-byte.ensures) in search rules
