-- The ticks that are made, and the course of those that are left, come to the course of all.
use Rattle.std.proofs.Common.{◌≡◌, ◌+◌, length}
use Rattle.machine.specs.Machines.{situation_of}
use Rattle.states.specs.Tallies.{Within}
use Rattle.runs.specs.Schedules.{levels_of}
use Rattle.runs.specs.Planned.{planned}
use Rattle.runs.specs.Runs.{before, ran_over}
use Rattle.runs.proofs.running.tick_through.Given as goal

abbrev pub invariant-loop-levels : goal.invariant-loop-levels
invariant-loop-levels g l =
    (ran_over (levels_of l.schedule.bytes.now) (situation_of l.initial.machine (g.B.Wired.wiring l.initial.bus)) ≡
    before l.tally (ran_over (planned l.levels-iterator) (situation_of l.machine (g.B.Wired.wiring l.bus)))) ×
    (l.tally.accepted + length (planned l.levels-iterator) ≡ length (levels_of l.schedule.bytes.now)) × Within l.tally.accepted l.tally ×
    (g.B.Wired.frame l.bus ≡ g.B.Wired.frame l.initial.bus)
