-- What a machine is, with the store and the port card that it works on.
use Rattle.bus.specs.Wiring.{Wiring}
use Rattle.cpu.specs.Processor.{view_of}
use Rattle.cpu.specs.Place.{place_of}
use Rattle.states.specs.declared.ticks.Ticked.{Ticked}
use Rattle.states.specs.Situation.{Situation, situation}
use Rattle.states.specs.States.{Quiet, quiet}
use Rattle.machine.specs.declared.machines.Machine.{Machine}

abbrev pub situation_of : {S : Type 0} → Machine → Wiring S → Situation S
situation_of m w = situation m.hand (place_of m.processor w)

-- What a state told, and the machine after it.
abbrev pub quiet_of : Ticked → Machine → Quiet
quiet_of t m = quiet t m.hand (view_of m.processor)
