-- The steps that are left come to what all came to.
use Rattle.std.proofs.Common.{◌≡◌, ◌-◌, true, eqb}
use Rattle.cpu.specs.Place.{place_of}
use Rattle.states.specs.Tallies.{nothing, Within}
use Rattle.runner.specs.Stepping.{steps}
use Rattle.runner.proofs.walking.take_steps.Given as goal

abbrev pub invariant-loop-taken : goal.invariant-loop-taken
invariant-loop-taken g l =
    (steps l.most true nothing (place_of l.initial.processor (g.B.Wired.wiring l.initial.bus)) ≡
    steps (l.most - l.taken) (eqb l.taken 0) l.tally (place_of l.processor (g.B.Wired.wiring l.bus))) ×
    Within l.taken l.tally × (g.B.Wired.frame l.bus ≡ g.B.Wired.frame l.initial.bus)
