use Rattle.states.proofs.Lawful.{lawful}
use Rattle.states.proofs.Phases.{zero_at_a_start}
use Rattle.states.proofs.Lasting.{lasting}
use Rattle.agreement.specs.Calls.{powered}
use Rattle.agreement.proofs.Theorem.{engines_agree, ticks_add_up, machines_agree}
use Rattle.machine.proofs.powering.keep_the_laws.Goals as goal

pub returns : goal.returns
returns g c = record {
  history = powered;
  engines_agree = engines_agree _;
  ticks_add_up = ticks_add_up _;
  machines_agree = machines_agree _;
  lawful = lawful _;
  zero_at_a_start = zero_at_a_start;
  lasting = lasting _;
}
