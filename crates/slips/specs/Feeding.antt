-- What the instruction engine is fed as an instruction ends.
use Rattle.std.specs.Prelude.{ℕ, None, Ok, Err, Option, Result}
use Rattle.cpu.specs.declared.faults.Fault.{Fault}
use Rattle.cpu.specs.Place.{Place}
use Rattle.stepper.specs.declared.feeds.Feed.TheVariants.{Own, Jam}
use Rattle.stepper.specs.Steps.{stepped}
use Rattle.agreement.specs.InstructionMachine.{Begun, nothing, by_own, by_interrupt, by_jam}
use Rattle.slips.specs.declared.beginnings.Beginning.{Beginning}
use Rattle.slips.specs.declared.beginnings.Beginning.TheVariants as code

-- How the code keeps how the instruction in hand began.
abbrev pub begun_of : Beginning → Begun
begun_of code.Nothing = nothing
begun_of code.Own = by_own
begun_of code.Interrupt = by_interrupt
begun_of (code.Jam byte) = by_jam byte

-- The states that a step answered, if it was carried out.
abbrev pub states_of : Result (Option ℕ) Fault → Option ℕ
states_of (Ok answered) = answered
states_of (Err fault) = None

-- An instruction that ends is an own step if T1 began it, and a jam with the accepted byte if T1I did.
abbrev pub place_fed : {S : Type 0} → Begun → Place S → Place S
place_fed nothing p = p
place_fed by_own p = (stepped Own p).after
place_fed by_interrupt p = p
place_fed (by_jam byte) p = (stepped (Jam byte) p).after

abbrev pub states_fed : {S : Type 0} → Begun → Place S → Option ℕ
states_fed nothing p = None
states_fed by_own p = states_of (stepped Own p).answer
states_fed by_interrupt p = None
states_fed (by_jam byte) p = states_of (stepped (Jam byte) p).answer
