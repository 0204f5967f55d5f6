-- A schedule that was judged, and the ticks that are left of it.
use Rattle.std.specs.Prelude.{◌≡◌, ℕ, List, Ok, Err}
use Rattle.states.specs.declared.ticks.Levels.{Levels}
use Rattle.runs.specs.declared.refusals.ScheduleRefusal.{ScheduleRefusal}
use Rattle.runs.specs.declared.good_schedules.Schedule.{Schedule}
use Rattle.runs.specs.declared.planned_ticks.PlannedTicks.{PlannedTicks}
use Rattle.runs.specs.Schedules.{judged, levels_of}

-- These bytes are judged good, and the schedule has them.
abbrev pub JudgedGood : List ℕ → Schedule → Type 0
JudgedGood bytes s = (judged bytes ≡ Ok tt) × (s.bytes.now ≡ bytes)

-- These bytes are refused so.
abbrev pub JudgedBad : List ℕ → ScheduleRefusal → Type 0
JudgedBad bytes refusal = judged bytes ≡ Err refusal

-- The levels of the ticks that are left.
abbrev pub planned : PlannedTicks → List Levels
planned t = levels_of t.rest.now
