use Rattle.cpu.proofs.Nesting.{moves, remembers_eight, forgets_the_oldest}
use Rattle.stepper.proofs.Examples.{examples_hold}
use Rattle.stepper.proofs.Lawful.{lawful}
use Rattle.stepper.proofs.stepping.keep_the_laws.Goals as goal

pub returns : goal.returns
returns g c = record { lawful = lawful _; ring = (moves, remembers_eight, forgets_the_oldest); examples = examples_hold _ }
