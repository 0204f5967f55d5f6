use Rattle.std.proofs.Common.{◌≡◌, ◌+◌, ◌-◌, cond, leb}
use Rattle.peripherals.specs.Shift.{bytes_of, head_of, shift_frame}
use Rattle.peripherals.proofs.shift.ShiftStore.turn_to.Given as goal

abbrev pub invariant-loop-self : goal.invariant-loop-self
invariant-loop-self l = (bytes_of l.self ≡ bytes_of l.initial.self) × (shift_frame l.self ≡ shift_frame l.initial.self)

-- the turns left, at most: up to the place, or first past the last place and round
abbrev pub decreases-loop-self : goal.decreases-loop-self
decreases-loop-self l =
    cond
    (leb (head_of l.self) l.place)
    (l.place - head_of l.self)
    ((1024 - head_of l.self) + l.place + 1)
