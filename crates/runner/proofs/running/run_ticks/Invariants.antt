-- The ticks that are left come to what all came to.
use Rattle.std.proofs.Common.{◌≡◌, ◌-◌, true, eqb}
use Rattle.machine.specs.Machines.{situation_of}
use Rattle.states.specs.Tallies.{nothing, Within}
use Rattle.runner.specs.Running.{runs}
use Rattle.runner.proofs.running.run_ticks.Given as goal

abbrev pub invariant-loop-tick : goal.invariant-loop-tick
invariant-loop-tick g l =
    (runs l.ticks true nothing (situation_of l.initial.machine (g.B.Wired.wiring l.initial.bus)) ≡
    runs (l.ticks - l.tick) (eqb l.tick 0) l.tally (situation_of l.machine (g.B.Wired.wiring l.bus))) ×
    Within l.tick l.tally × (g.B.Wired.frame l.bus ≡ g.B.Wired.frame l.initial.bus)
