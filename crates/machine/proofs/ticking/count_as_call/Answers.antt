use Rattle.agreement.specs.Calls.{ticks}
use Rattle.machine.proofs.ticking.count_as_call.Goals as goal

pub returns : goal.returns
returns g c = λ l s t r e. ticks l e
