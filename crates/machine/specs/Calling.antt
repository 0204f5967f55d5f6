-- A tick as a call of a history.
use Rattle.std.specs.Prelude.{◌≡◌, Result}
use Rattle.cpu.specs.declared.faults.Fault.{Fault}
use Rattle.states.specs.declared.ticks.Levels.{Levels}
use Rattle.states.specs.declared.ticks.Ticked.{Ticked}
use Rattle.states.specs.Situation.{Situation}
use Rattle.states.specs.Ticks.{ticked}
use Rattle.agreement.specs.Calls.{Use, tick, run}

-- What a tick answers and leaves by the state rules makes it a call.
abbrev pub TicksAreCalls : Type 0 → Type 0
TicksAreCalls S =
    (l : Levels) (s t : Situation S) (r : Result Ticked Fault) → ticked l s ≡ record { answer = r; after = t } →
    Use s run (tick l r) t run
