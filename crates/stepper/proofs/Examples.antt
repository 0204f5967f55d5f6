-- The worked examples hold: each side computes.
use Rattle.std.proofs.Common.{refl}
use lib.Count.{ones, ones_in}
use Rattle.stepper.specs.Examples.{examples, ExamplesHold}

pub examples_hold : (S : Type 0) → ExamplesHold S
unfolding examples ones ones_in
examples_hold S rules state = refl
