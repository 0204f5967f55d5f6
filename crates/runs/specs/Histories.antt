-- A run as a part of a history: its ticks, one by one.
use Rattle.std.specs.Prelude.{◌≡◌, ℕ, List, [], ◌∷◌, Ok, Err, Result}
use Rattle.cpu.specs.declared.faults.Fault.{Fault}
use Rattle.cpu.specs.Place.{Place}
use Rattle.states.specs.declared.ticks.Levels.{Levels}
use Rattle.states.specs.declared.ticks.Ticked.{Ticked}
use Rattle.states.specs.Situation.{Situation}
use Rattle.states.specs.Ticks.{ticked}
use Rattle.agreement.specs.Calls.{Event, tick, run, History}
use Rattle.runs.specs.declared.refusals.ScheduleRefusal.{ScheduleRefusal}
use Rattle.runs.specs.Schedules.{Judgement, judged, levels_of}

-- A tick by its answer, and the calls after it; none comes after a refused one.
abbrev pub unless_refused : Result Ticked Fault → List Event → List Event → List Event
unless_refused (Ok x) gone_on stopped = gone_on
unless_refused (Err f) gone_on stopped = stopped

-- The calls so far, and then a tick for each of the levels, up to the first that is refused. The last comes first.
unfoldable pub and_ticks : {S : Type 0} → List Levels → Situation S → List Event → List Event
and_ticks [] s calls = calls
and_ticks (l ∷ ls) s calls = unless_refused (ticked l s).answer
    (and_ticks ls (ticked l s).after (tick l (ticked l s).answer ∷ calls))
    (tick l (ticked l s).answer ∷ calls)

-- The levels of the ticks that a run makes: none of a refused schedule.
abbrev pub levels_made : Judgement → List ℕ → List Levels
levels_made (Err refusal) schedule = []
levels_made (Ok good) schedule = levels_of schedule

-- Every history that ends in one situation goes on with a tick for each of the levels, and then ends in the other.
abbrev pub Extends : {S : Type 0} → List Levels → Situation S → Situation S → Type 0
Extends {S} ls s t = (start : Place S) (calls : List Event) → History start calls s run → History start (and_ticks ls s calls) t run

-- A refused schedule makes no tick, and leaves every history as it is.
abbrev pub RefusedExtends : Type 0 → Type 0
RefusedExtends S =
    (bytes : List ℕ) (refusal : ScheduleRefusal) (s : Situation S) → judged bytes ≡ Err refusal → Extends (levels_made (judged bytes) bytes) s s
